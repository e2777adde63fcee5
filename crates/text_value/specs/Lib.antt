-- What the private functions of this crate answer.
pub mod Parts
pub mod Shapes
