-- What the value calls have in common.
pub mod Sounds
pub mod Fits
