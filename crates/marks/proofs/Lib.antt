-- Laws of what stands around children.
pub mod Around
