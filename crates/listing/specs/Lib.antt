-- The listing as bytes, and what writes it.
pub mod Listing
pub mod Written
