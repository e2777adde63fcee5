-- Bytes put into a lent buffer.
pub mod Puts
pub mod Appends
pub mod Wrote
