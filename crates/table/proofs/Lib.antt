-- Laws of what is written.
pub mod Words
pub mod Stores
pub mod Written
pub mod Lifts
pub mod Shifted
pub mod Raised
