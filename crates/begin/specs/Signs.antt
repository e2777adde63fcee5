-- Which tokens may begin a value, which is `)`, and which are literals. Assumes nothing.
use Rattle.std.specs.Prelude.{Bool, true, false}
use Rattle.grammar.specs.Tokens
use Rattle.grammar.specs.Tokens.{Class, Mark}

-- a token that is no sign but may begin a value
abbrev pub no_mark : Class → Bool
no_mark (Tokens.atom a) = true
no_mark (Tokens.text w) = true
no_mark Tokens.names = true
no_mark Tokens.round = true
no_mark Tokens.curly = true
no_mark Tokens.square = true
no_mark (Tokens.mark m) = false
no_mark Tokens.later = true

abbrev pub closes_mark : Mark → Bool
closes_mark Tokens.round_close = true
closes_mark Tokens.curly_close = false
closes_mark Tokens.square_close = false
closes_mark Tokens.comma = false
closes_mark Tokens.colon = false
closes_mark Tokens.right_arrow = false
closes_mark Tokens.left_arrow = false
closes_mark Tokens.dots = false
closes_mark (Tokens.star a b) = false

abbrev pub is_close_of : Class → Bool
is_close_of (Tokens.atom a) = false
is_close_of (Tokens.text w) = false
is_close_of Tokens.names = false
is_close_of Tokens.round = false
is_close_of Tokens.curly = false
is_close_of Tokens.square = false
is_close_of (Tokens.mark m) = closes_mark m
is_close_of Tokens.later = false

abbrev pub literal : Class → Bool
literal (Tokens.atom a) = true
literal (Tokens.text w) = true
literal Tokens.names = false
literal Tokens.round = false
literal Tokens.curly = false
literal Tokens.square = false
literal (Tokens.mark m) = false
literal Tokens.later = false
