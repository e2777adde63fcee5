-- Bytes of a text as one number, the first the least. Assumes nothing.
use Rattle.std.specs.Prelude.{◌≡◌, List, ℕ, zero, suc, ◌+◌, ◌*◌, ◌≤◌, ◌<◌, length, get_or}

-- the n bytes from place i on
abbrev pub joined : List ℕ → ℕ → ℕ → ℕ
joined text i zero = 0
joined text i (suc n) = joined text (i + 1) n * 256 + get_or text i 0

-- w is that number; they stand in the text, which is of bytes
pub record Joins (text : List ℕ) (i n w : ℕ) : Type 0 where
  pub within : i + n ≤ length text
  pub number_is : w ≡ joined text i n
  pub bytes : (k : ℕ) → get_or text k 0 < 256
