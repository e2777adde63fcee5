-- UTF-8 as it is written: the Unicode Standard's table of the bits of a code point in one to four bytes (table 3-6).
-- Assumes nothing.
use Rattle.std.specs.Prelude.{cond, List, [], ◌∷◌, ◌++◌, ℕ, ◌+◌, ◌/◌, ◌%◌, ltb}

-- a continuation byte has the last six bits
abbrev pub tail_of : ℕ → ℕ
tail_of c = 0x80 + c % 64

abbrev pub two : ℕ → List ℕ
two c = (0xC0 + c / 64) ∷ tail_of c ∷ []

abbrev pub three : ℕ → List ℕ
three c = (0xE0 + c / 4096) ∷ tail_of (c / 64) ∷ tail_of c ∷ []

abbrev pub four : ℕ → List ℕ
four c = (0xF0 + c / 262144) ∷ tail_of (c / 4096) ∷ tail_of (c / 64) ∷ tail_of c ∷ []

-- the bytes of a code point
unfoldable pub encode : ℕ → List ℕ
encode c = cond (ltb c 0x80) (c ∷ []) (cond (ltb c 0x800) (two c) (cond (ltb c 0x10000) (three c) (four c)))

-- and of a row of them
abbrev pub encoded : List ℕ → List ℕ
encoded [] = []
encoded (c ∷ cs) = encode c ++ encoded cs
