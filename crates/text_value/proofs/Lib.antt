-- Laws that the proofs of this crate share.
pub mod Copies
pub mod Codes
pub mod Walks
pub mod Texts
