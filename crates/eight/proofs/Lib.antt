-- The laws that the proofs of the functions cite.
pub mod Lanes
pub mod Sums
pub mod Runs
