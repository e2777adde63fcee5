-- What the private functions of this crate answer.
pub mod Answers
pub mod Places
