-- 01, 'Sizes', 'Table of refusals' and what an accepted reading writes.
pub mod Sizes
pub mod Tokens
pub mod Tests
pub mod Faults
pub mod Derived
pub mod Answers
pub mod Refusals
pub mod Tabled
pub mod Buffer
pub mod Agree
pub mod Arrow
