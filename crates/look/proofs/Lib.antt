-- Laws of the looks at the next tokens.
pub mod Looking
