-- Laws of the listing.
pub mod Digits
pub mod Lines
pub mod Examples
