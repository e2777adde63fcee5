-- Symbols and colon runs: 01, 'Symbols: `( ) { } [ ] , -> <-`, `..`, and the nine with a star in the source's list'.
-- Assumes nothing.
use Rattle.std.specs.Prelude.{List, ℕ, ◌+◌}
use Prim.Native.String.{String}
use Rattle.rules.specs.Class.{any_of}
use Rattle.rules.specs.Rule.{Rule, one, ◌then◌, many, lit, Longest}
use Rattle.lexicon.specs.declared.Bound.{Bound}
use Rattle.lexicon.specs.declared.Bound.TheVariants.{Open, Less, LessEqual}
use Rattle.lexicon.specs.declared.Sign.{Sign}
use Rattle.lexicon.specs.declared.Sign.TheVariants.{RoundOpen, RoundClose, CurlyOpen, CurlyClose, SquareOpen}
use Rattle.lexicon.specs.declared.Sign.TheVariants.{SquareClose, Comma, ArrowRight, ArrowLeft, Dots, Star}

-- the sides of a star
abbrev pub side : Bound → String
side Open = ""
side Less = "<"
side LessEqual = "<="

abbrev pub symbol : Sign → Rule
symbol RoundOpen = lit "("
symbol RoundClose = lit ")"
symbol CurlyOpen = lit "{"
symbol CurlyClose = lit "}"
symbol SquareOpen = lit "["
symbol SquareClose = lit "]"
symbol Comma = lit ","
symbol ArrowRight = lit "->"
symbol ArrowLeft = lit "<-"
symbol Dots = lit ".."
symbol (Star low high) = lit (side low) then lit "*" then lit (side high)

-- from place i stand n colons and no more
abbrev pub Colons : List ℕ → ℕ → ℕ → Type 0
Colons text i n = Longest text (many (one (any_of ":"))) i (i + n)
