-- The laws of bytes put into a buffer.
pub mod Puts
pub mod Appending
pub mod Writing
