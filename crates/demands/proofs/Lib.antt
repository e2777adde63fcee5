-- That the answers meet the demands, and what later requests promise.
pub mod Derived
pub mod Exists
pub mod Pieces
pub mod Demands
pub mod Fives
pub mod Blobs
pub mod Escapes
pub mod Higher
pub mod Plain
pub mod Alike
pub mod Arrow
pub mod Skips
pub mod Relaid
pub mod SameValues
pub mod Requests
