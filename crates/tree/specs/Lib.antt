-- What the functions between tokens and the node table promise each other. The promise of the reading itself is
-- `Answers` of the crate `reading`.
pub mod Tellings
pub mod Readers
pub mod Turning
pub mod Whole
