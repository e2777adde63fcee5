-- What the private functions of this crate answer.
pub mod Marks
pub mod Spread
pub mod Calls
