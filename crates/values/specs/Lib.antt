-- The answers of the value calls and of the UTF-8 test; line and column of a place; and the bytes that a quoted text
-- stands for, by which the Text call is proved.
pub mod Exactly
pub mod Utf8
pub mod Position
pub mod Integer
pub mod Bytes
pub mod Text
pub mod Blob
pub mod Bits
pub mod QuotedBytes
