-- Stored files: 02, request 4.
pub mod File
pub mod Writes
pub mod Checks
