-- What the functions of this crate go by.
pub mod Holds
