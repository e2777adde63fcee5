-- What stands in a text, decided by tests that compute.
pub mod Tests
pub mod Places
pub mod Ends
pub mod Cuts
pub mod Digits
pub mod Fractions
pub mod Blobs
pub mod Codes
pub mod Quoted
pub mod Bad
pub mod Heads
pub mod Lexemes
pub mod Next
pub mod Front
pub mod Utf8
pub mod Listed
pub mod First
