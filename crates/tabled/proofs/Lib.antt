-- The laws behind judging a text with its table.
pub mod Judged
