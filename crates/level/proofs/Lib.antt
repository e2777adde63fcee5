-- Laws of the forms of a level.
pub mod Levels
