-- Laws behind the writer of nodes without children.
pub mod Rows
pub mod Literals
pub mod Spellings
pub mod Nestings
