-- The moves are those of the grammar's machine.
pub mod Model
pub mod Members
pub mod Steps
pub mod Lead
pub mod Others
pub mod Ends
pub mod Signs
pub mod Behind
pub mod Does
pub mod Roles
pub mod Moved
pub mod One
