-- 01, 'How values nest' and 'The node table'. The tree rules speak of tokens and never of bytes.
pub mod Tokens
pub mod Tree
pub mod Yield
pub mod Level
pub mod Place
pub mod Nodes
pub mod Stretches
pub mod Leaves
