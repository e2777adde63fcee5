-- Whichever bytes a part of a value has are put. Assumes nothing.
use Rattle.std.specs.Prelude.{◌≡◌, List, ℕ, length}
use Rattle.buffer.specs.Puts.{Puts}

-- from t, at place k, to t' and n. Where the part has no bytes, nothing is said but that the buffer keeps its length
pub record Wrote (Part : List ℕ → Type 0) (t : List ℕ) (k : ℕ) (t' : List ℕ) (n : ℕ) : Type 0 where
  pub puts : (bs : List ℕ) → Part bs → Puts t k bs t' n
  pub same_length : length t' ≡ length t
