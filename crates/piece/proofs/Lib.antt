-- The laws of what the value calls have in common.
pub mod Refused
