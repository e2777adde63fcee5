-- Laws of how a value begins.
pub mod Signs
