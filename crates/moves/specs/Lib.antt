-- What a mode stands for, and what a move does.
pub mod Means
pub mod Effects
pub mod Moves
