-- The laws of the value calls' answers.
pub mod Utf8
pub mod Position
pub mod IntegerDetermined
pub mod IntegerExists
pub mod Shapes
pub mod Encodes
pub mod Sequences
pub mod Spelled
pub mod Characters
pub mod Values
pub mod Short
pub mod Formed
pub mod BytesDetermined
pub mod BytesExists
pub mod Fits
pub mod Texts
pub mod BitsAndBlobs
