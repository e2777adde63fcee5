-- What the private functions of this crate answer.
pub mod Tally
pub mod Padding
pub mod Groups
pub mod Number
pub mod Fraction
pub mod Blob
