-- Texts laid out anew: 02, request 9, 'replace stretches of dividing space outside quotes and outside the dropped first
-- line, each stretch taken at its full length and not empty, by other non-empty dividing space'; pairs that are related
-- so, pairs that are not, and readings of some. Assumes nothing.
use Rattle.std.specs.Prelude.{List, [], ◌∷◌, ◌++◌, ℕ}
use Prim.Native.String.{String}
use Rattle.rules.specs.Class.{codes}
use Rattle.rules.specs.Every.{Every}
use Rattle.reading.specs.Sizes.{base}
use Rattle.layout.specs.Relaid.{Relaid}
use Rattle.examples.specs.Starred.{Example, node, accepted, at_both, AllHold}

-- two texts, by their bytes or in ASCII characters
pub record Pair : Type 0 where
  pub text : List ℕ
  pub other : List ℕ

abbrev pub pair : List ℕ → List ℕ → Pair
pair a b = record { text = a; other = b }

infix 80 ◌beside◌
abbrev pub ◌beside◌ : String → String → Pair
a beside b = pair (codes a) (codes b)

abbrev pub IsRelaid : Pair → Type 0
IsRelaid p = Relaid p.text p.other

abbrev pub IsNot : Pair → Type 0
IsNot p = Relaid p.text p.other → ⊥

abbrev pub mark : List ℕ
mark = 0xEF ∷ 0xBB ∷ 0xBF ∷ []

abbrev pub related : List Pair
related =
    -- inside a number, behind its sign, behind a mark, between groups
    "1 2" beside "1`c`2"
    ∷ "- 5" beside "-`minus`5"
    ∷ "0xx 0F F0" beside "0xx\n0F\t\tF0"
    -- between segments, and between tokens
    ∷ "\"a\" \"b\"" beside "\"a\"`c`\"b\""
    ∷ "{1, 2}" beside "{1,\n\t2}"
    ∷ "( x : 1 )" beside "(\n  x\t:`one` 1\r\n)"
    -- before and behind all tokens, one stretch of several comments
    ∷ " 5\n" beside "`a``b` `c`5 "
    -- a comment may hold quotation marks, and any byte but a grave accent
    ∷ "#!x\n 5" beside "#!x\n\t`\"`5"
    ∷ pair (codes "1 2") (codes "1`" ++ (0x00 ∷ 0xC3 ∷ 0xA9 ∷ []) ++ codes "`2")
    -- the byte-order mark, with a first line behind it
    ∷ pair (mark ++ codes "#!x\n{ }") (mark ++ codes "#!x\n{\n}")
    -- no stretch at all
    ∷ "(x:1)" beside "(x:1)"
    ∷ []

abbrev pub unrelated : List Pair
unrelated =
    -- inside quotes
    "\"a b\"" beside "\"a  b\""
    -- a stretch where none was, one that is gone, and both behind the first line
    ∷ "12" beside "1 2"
    ∷ "1 2" beside "12"
    ∷ "#!x\n5" beside "#!x\n 5"
    ∷ "#!x\n 5" beside "#!x\n5"
    -- the first line, its space and its newline
    ∷ "#!x\n5" beside "#!y\n5"
    ∷ "#!x 1\n5" beside "#!x  1\n5"
    ∷ "#!x\n 5" beside "#!x\r\n 5"
    -- the mark, there or not
    ∷ pair (mark ++ codes "5") (codes "5")
    ∷ pair (codes "5") (mark ++ codes "5")
    -- another byte, a byte more, and one fewer
    ∷ "1 2" beside "1 3"
    ∷ "1 2" beside "1 2 "
    ∷ "{1 }" beside "{1 "
    -- neither quotes nor a comment is left open, so such a text is not even related to itself
    ∷ "\"a" beside "\"a"
    ∷ "1 `c" beside "1 `c"
    ∷ []

-- the same nodes at other places
abbrev pub readings : List Example
readings =
    at_both "1 2" (accepted 3 (node 3 0 3 0 0 0 1 ∷ []))
    ++ at_both "1`c`2" (accepted 5 (node 3 0 5 0 0 0 1 ∷ []))
    ++ at_both "- 5" (accepted 3 (node 3 0 3 0 0 0 1 ∷ []))
    ++ at_both "-`minus`5" (accepted 9 (node 3 0 9 0 0 0 1 ∷ []))
    ++ at_both "0xx 0F F0" (accepted 9 (node 6 0 9 0 0 0 1 ∷ []))
    ++ at_both "0xx\n0F\t\tF0" (accepted 10 (node 6 0 10 0 0 0 1 ∷ []))
    ++ at_both "\"a\" \"b\"" (accepted 7 (node 7 0 7 0 0 1 1 ∷ []))
    ++ at_both "\"a\"`c`\"b\"" (accepted 9 (node 7 0 9 0 0 1 1 ∷ []))
    ++ at_both "{1, 2}" (accepted 6 (node 11 0 6 0 0 0 3 ∷ node 3 1 2 0 1 0 2 ∷ node 3 4 5 0 1 0 3 ∷ []))
    ++ at_both "{1,\n\t2}" (accepted 7 (node 11 0 7 0 0 0 3 ∷ node 3 1 2 0 1 0 2 ∷ node 3 5 6 0 1 0 3 ∷ []))
    ++ at_both "( x : 1 )" (accepted 9 (node 9 0 9 0 0 0 3 ∷ node 7 2 3 0 1 2 2 ∷ node 3 6 7 0 2 0 3 ∷ []))
    ++ at_both "(\n  x\t:`one` 1\r\n)"
    (accepted 17 (node 9 0 17 0 0 0 3 ∷ node 7 4 5 0 1 2 2 ∷ node 3 13 14 0 2 0 3 ∷ []))
    ++ at_both "#!x\n 5" (accepted 6 (node 3 5 6 0 0 0 1 ∷ []))
    ++ at_both "#!x\n\t`\"`5" (accepted 9 (node 3 8 9 0 0 0 1 ∷ []))

pub record Anew : Type 0 where
  pub relaid_all : Every IsRelaid related
  pub relaid_none : Every IsNot unrelated
  pub listed : AllHold base readings
