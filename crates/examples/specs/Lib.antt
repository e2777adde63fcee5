-- The texts that document 01 marks with a star, texts with bad values, base-64 Blobs, pieces of the Blob and Bits
-- calls, texts with the steps of the UTF-8 test, places by line and column, stored files, plain forms, the backward
-- arrow, the seventh word, bad escapes, and texts laid out anew.
pub mod Starred
pub mod Values
pub mod Padding
pub mod Contents
pub mod Steps
pub mod Positions
pub mod Files
pub mod Plain
pub mod Arrow
pub mod Skips
pub mod Escapes
pub mod Anew
