-- A text laid out anew: 02, request 9.
pub mod Relaid
pub mod Kept
