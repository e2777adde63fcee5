-- The bits of numbers, once over the width: 1, 3, 4 and 6 bits are a digit's, 8 are a byte's. Assumes nothing.
use Rattle.std.specs.Prelude.{List, [], ◌∷◌, ◌++◌, ℕ, zero, suc, ◌/◌, ◌%◌}

-- the last w bits of a number, most significant first
abbrev pub bits_of : ℕ → ℕ → List ℕ
bits_of zero v = []
bits_of (suc w) v = bits_of w (v / 2) ++ (v % 2 ∷ [])

-- the bits of a row of numbers, w of each
abbrev pub expand : ℕ → List ℕ → List ℕ
expand w [] = []
expand w (v ∷ vs) = bits_of w v ++ expand w vs
