-- What is told of a word.
pub mod Heads
