-- What is dropped at the front: 01, 'A leading EF BB BF is dropped. Then, if `#!` comes next, everything through the
-- first byte 0A is dropped, or all of it if there is none.' Assumes nothing.
use Rattle.std.specs.Prelude.{List, [], ◌∷◌, ℕ}
use Rattle.rules.specs.Class.{Class, ◌upto◌, just}
use Rattle.rules.specs.Rule.{Rule, one, ◌then◌, many, opt, row, lit, Longest}

abbrev pub byte_order_mark : Rule
byte_order_mark = row (0xEF ∷ 0xBB ∷ 0xBF ∷ [])

abbrev pub newline : Class
newline = just 0x0A

abbrev pub not_newline : Class
not_newline = 0x00 upto 0x09 ∷ 0x0B upto 0xFF ∷ []

abbrev pub first_line : Rule
first_line = lit "#!" then many (one not_newline) then opt (one newline)

-- tokens begin at j; places still count from byte 0
pub record Front (text : List ℕ) (j : ℕ) : Type 0 where
  pub marked : ℕ
  pub mark : Longest text (opt byte_order_mark) 0 marked
  pub line : Longest text (opt first_line) marked j
