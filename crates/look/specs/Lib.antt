-- What looks at the next tokens answer.
pub mod Looks
pub mod Names
pub mod Ends
