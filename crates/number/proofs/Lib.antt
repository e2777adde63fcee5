-- Laws that the proofs of this crate share.
pub mod Sums
pub mod Units
pub mod Joints
pub mod Rows
pub mod Marks
pub mod Integers
pub mod Fractions
pub mod Blobs
