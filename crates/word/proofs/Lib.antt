-- The laws of words.
pub mod Words
pub mod Spells
