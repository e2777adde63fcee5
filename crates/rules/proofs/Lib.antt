-- The laws of the vocabulary.
pub mod Bools
pub mod Choices
pub mod Classes
pub mod Chains
pub mod Matches
pub mod Tests
pub mod Ways
pub mod Plain
pub mod Closed
pub mod Bounds
pub mod Windows
pub mod Over
pub mod Every
