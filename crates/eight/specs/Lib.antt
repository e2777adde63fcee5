-- The definitions that the contracts name.
pub mod Joined
