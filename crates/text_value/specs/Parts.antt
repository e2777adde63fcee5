-- What the private functions answer. Assumes nothing.
use Rattle.std.specs.Prelude.{◌≡◌, List, ℕ, min}
use Rattle.lexicon.specs.Values.{CodeOf}
use Rattle.lexicon.specs.Limited.{limit}
use Rattle.buffer.specs.declared.Writer.{Writer}
use Rattle.buffer.specs.Appends.{Appends}
use Rattle.values.specs.QuotedBytes.{QuotedBytes}

module _ (piece : List ℕ) where
  -- ---- code points

  -- r is the number of the code point from i to j, up to the limit
  pub record CodeIs (i j r : ℕ) : Type 0 where
    pub is : (v : ℕ) → CodeOf piece i j v → r ≡ min limit v

  -- ---- what stands at a place, and what is written of it

  pub record HasQuoted : Type 0 where
    pub bytes : List ℕ
    pub is : QuotedBytes piece 0 bytes

  pub record WroteQuoted (w w' : Writer) : Type 0 where
    pub bytes : List ℕ
    pub is : QuotedBytes piece 0 bytes
    pub appends : Appends w bytes w'

module _ (Part : ℕ → ℕ → List ℕ → Type 0) where
  -- a part of the literal stands at i
  pub record Stands (i : ℕ) : Type 0 where
    pub end : ℕ
    pub bytes : List ℕ
    pub is : Part i end bytes

  -- it ends at j, and its bytes are written
  pub record Wrote (i j : ℕ) (w w' : Writer) : Type 0 where
    pub bytes : List ℕ
    pub is : Part i j bytes
    pub appends : Appends w bytes w'
