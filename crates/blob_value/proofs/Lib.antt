-- Laws that the proofs of this crate share.
pub mod Marks
pub mod Spreads
pub mod Walks
pub mod Pads
pub mod Pieces
pub mod Calls
pub mod Judges
