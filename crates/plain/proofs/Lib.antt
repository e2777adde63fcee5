-- Laws behind writer and converter.
pub mod Tables
pub mod Past
pub mod Steps
pub mod Written
pub mod Fits
pub mod Calls
pub mod Converts
