-- Document 01's tokens, in its order: bytes, UTF-8 as it is read and written, the front, dividing space, the literals
-- of source document 003, symbols, the bits of digits, the values of literals and the bad ones, the token at a place.
pub mod Bytes
pub mod Utf8
pub mod Steps
pub mod Encode
pub mod Space
pub mod Front
pub mod Literals
pub mod Symbols
pub mod Expansion
pub mod Base64
pub mod Values
pub mod Bad
pub mod Token
-- no rules: bad base 64 in the requests' words, what the answers of searches say, what the code holds of a number of
-- any size, and what it promises of parts of a literal
pub mod Padding
pub mod Found
pub mod Limited
pub mod Parts
