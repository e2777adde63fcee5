-- A number counted only up to a limit. No rule speaks of it: it is what the code holds of a number of any size, and
-- from the limit on a number is no code point, no denominator 0 and no radix below 2. Assumes nothing.
use Rattle.std.specs.Prelude.{ℕ, ◌+◌, ◌*◌, min}
use Rattle.lexicon.specs.Values.{digit}

abbrev pub limit : ℕ
limit = 0x110000

-- the number v with one digit more, up to the limit
unfoldable pub limited : ℕ → ℕ → ℕ → ℕ
limited r v d = min limit (v * r + digit d)
