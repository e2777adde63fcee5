-- Laws of the plain form.
-- literals made bare: they are still literals of the kind, with the same digits, and none of them is made bad
pub mod Fits
pub mod Strip
pub mod Turned
pub mod Twice
pub mod Amid
pub mod Numeric
pub mod Digit
pub mod Number
pub mod Quotes
-- spelled tokens one behind the other, anywhere in a text, are read as these
pub mod Barrier
pub mod Bounded
pub mod Signs
pub mod Separate
pub mod Formed
pub mod Spelts
pub mod Neighbours
pub mod Plain
-- the plain form is such a row
pub mod Spelled
pub mod Pieces
pub mod Alone
-- it is the same in another text where the tokens are spelled alike
pub mod Respelled
-- its tree: the normal one but for spans, of the level, with the same nodes and no more brackets open
pub mod Reshape
pub mod Normal
pub mod Classes
pub mod Grown
pub mod Tables
pub mod Blank
pub mod Deep
pub mod Neat
pub mod SameForms
-- so it is read again, and is not too long
pub mod Rereads
pub mod Short
pub mod Length
pub mod Counted
pub mod Answered
-- every row of tokens of a level can be spelled
pub mod Samples
pub mod Yielded
pub mod Spellable
-- the plain form as a walk over the node table finds it
pub mod Walk
pub mod Puts
pub mod Ends
pub mod Roles
pub mod Members
pub mod Bracketed
pub mod Interval
pub mod Attributes
pub mod Walked
-- the answers of writer and converter
pub mod Answers
pub mod Converted
