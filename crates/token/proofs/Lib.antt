-- Laws that the proofs of this crate share.
pub mod Bytes
pub mod Symbols
pub mod Starts
pub mod Dispatch
pub mod Places
