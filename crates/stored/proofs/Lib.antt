-- The laws behind writing and checking.
pub mod Bytes
pub mod Heads
pub mod Tables
pub mod Loops
pub mod Calls
