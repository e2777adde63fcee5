-- The plain form: 02, request 5; and the converter: request 6.
pub mod Bare
pub mod Spell
pub mod Turn
pub mod Writes
pub mod Reread
pub mod Converted
pub mod Spellable
