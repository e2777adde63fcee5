-- The vocabulary of rules over bytes, and numbers written over others.
pub mod Test
pub mod Class
pub mod Rule
pub mod Plain
pub mod Over
pub mod Every
