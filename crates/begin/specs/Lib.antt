-- What the tests at a place for a value answer.
pub mod Signs
pub mod Begins
