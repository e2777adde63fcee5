-- The laws that the proofs of the functions cite.
pub mod Sequences
pub mod Steps
