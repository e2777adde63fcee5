-- The executable reading and the tables' proofs.
pub mod Readable
pub mod Integers
pub mod Reading
pub mod Starred
pub mod Values
pub mod Padding
pub mod Contents
pub mod Steps
pub mod Positions
pub mod Files
pub mod Plain
pub mod Arrow
pub mod Skips
pub mod Escapes
pub mod Anew
