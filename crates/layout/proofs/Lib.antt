-- Laws of texts laid out anew.
-- every token rule fits
pub mod Fit
-- the relation: one cut into pieces, back and on, and of every accepted text with itself
pub mod Cut
pub mod Back
pub mod Twice
pub mod Itself
-- a test of it that computes
pub mod Test
-- places that stand for each other, and what a rule takes between them
pub mod Path
pub mod Carried
-- so literals have the same values, and tokens are the same
pub mod Values
pub mod Tokens
-- the derivation is the text's, moved; its nodes have the same values, and its plain form the same bytes
pub mod Derivations
pub mod Stands
pub mod Spelt
pub mod Laid
-- other space before any token
pub mod Replaced
