-- The customer's demands in their own words: `Demands` is the page, `Derived` and `Pieces` what demand 2 says of a text
-- and of its literals; `Requests` has what later requests promise of every text.
pub mod Derived
pub mod Pieces
pub mod Demands
pub mod Requests
