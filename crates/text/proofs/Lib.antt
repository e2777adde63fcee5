-- The laws that the proofs of the functions cite.
pub mod Table
pub mod Sets
pub mod Ranges
pub mod Gets
pub mod Searches
pub mod Letters
pub mod Runs
pub mod Counts
