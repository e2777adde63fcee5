-- The numbers by which C sees tokens.
pub mod Numbers
