-- Nodes in the lent table.
pub mod Over
