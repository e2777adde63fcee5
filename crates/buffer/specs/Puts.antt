-- Bytes put into a lent buffer from a place on, and how far they reach. Assumes nothing.
use Rattle.std.specs.Prelude.{◌≡◌, List, ℕ, ◌+◌, ◌≤◌, min, length}
use Rattle.rules.specs.Over.{over}

-- the largest place, which is the largest number of a usize
abbrev pub largest : ℕ
largest = 0xFFFFFFFFFFFFFFFF

-- t' is t with the bytes from place k on, as far as they fit, and n is the place behind them all, or the largest
pub record Puts (t : List ℕ) (k : ℕ) (bs t' : List ℕ) (n : ℕ) : Type 0 where
  pub bytes_are : t' ≡ over t k bs
  pub ends : n ≡ min largest (k + length bs)
  -- no buffer is longer than that. It stands here so that one row of bytes behind another needs no premise
  -- (proofs/Puts.antt: `puts_then`)
  pub within : length t ≤ largest
