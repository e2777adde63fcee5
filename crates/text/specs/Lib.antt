-- What the table of classes says, and the letter of a base.
pub mod Classes
pub mod Letters
