-- The laws of the readers.
pub mod Beginning
pub mod Leaves
pub mod Nestings
pub mod Turns
pub mod Readings
pub mod Wholes
