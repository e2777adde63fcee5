-- Laws that the proofs of this crate share.
pub mod Starts
pub mod Walks
pub mod Calls
