-- Classes of bytes. A class is a list of spans, so that membership and disjointness compute.
-- Assumes nothing.
use Rattle.std.specs.Prelude.{◌≡◌, Bool, true, false, ◌&&◌, ◌||◌, List, [], ◌∷◌, ℕ, leb}
use Prim.Native.Char.{Char, code}
use Prim.Native.String.{String}

-- the byte of an ASCII character
abbrev pub byte_of : Char → ℕ
byte_of c = code c

-- the bytes from `low` to `high`, both included
pub record Span : Type 0 where
  pub low : ℕ
  pub high : ℕ

infix 80 ◌upto◌ ◌to◌
-- by the bytes' numbers, 0x80 upto 0xBF, or by their characters, "A" to "Z"
abbrev pub ◌upto◌ : ℕ → ℕ → Span
a upto b = record { low = a; high = b }

abbrev pub ◌to◌ : Char → Char → Span
a to b = byte_of a upto byte_of b

abbrev pub Class : Type 0
Class = List Span

-- the class of one byte
abbrev pub just : ℕ → Class
just b = b upto b ∷ []

-- the bytes of a text of ASCII characters
abbrev pub codes : String → List ℕ
codes String.[] = []
codes (String.◌∷◌ c s) = byte_of c ∷ codes s

-- any one of them
abbrev pub any_in : List ℕ → Class
any_in [] = []
any_in (b ∷ bs) = b upto b ∷ any_in bs

abbrev pub any_of : String → Class
any_of s = any_in (codes s)

-- b lies in one of the spans
unfoldable pub has : Class → ℕ → Bool
has [] b = false
has (s ∷ c) b = leb s.low b && leb b s.high || has c b

abbrev pub In : Class → ℕ → Type 0
In c b = has c b ≡ true
