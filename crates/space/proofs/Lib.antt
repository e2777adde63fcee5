-- The laws that the proofs of the functions cite.
pub mod Spaces
pub mod Lines
pub mod Joints
