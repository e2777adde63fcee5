-- Laws of stored files.
pub mod Bytes
pub mod Determined
pub mod Exists
pub mod Exactly
pub mod SixteenBits
pub mod ReadBack
pub mod AsRead
pub mod Room
