-- The laws of Text literals.
pub mod Among
pub mod Codes
pub mod Numbers
pub mod Items
pub mod Characters
pub mod Escapes
pub mod Segments
pub mod FirstBad
