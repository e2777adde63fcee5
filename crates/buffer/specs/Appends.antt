-- What a writer of bytes does to the buffer that it was lent. Assumes nothing.
use Rattle.std.specs.Prelude.{◌≡◌, List, ℕ, length}
use Rattle.std.specs.Borrow.{MutBor}
use Rattle.buffer.specs.Puts.{Puts}
use Rattle.buffer.specs.declared.Writer.{Writer}

-- it has the buffer, as it was lent, and begins at its start
pub record Begins (lent : MutBor (List ℕ)) (w : Writer) : Type 0 where
  pub same_buffer : w.buffer.ghost_name ≡ lent.ghost_name
  pub same_bytes : w.buffer.now ≡ lent.now
  pub start : w.at ≡ 0

-- the bytes are put behind those before, into the same buffer
pub record Appends (w : Writer) (bs : List ℕ) (w' : Writer) : Type 0 where
  pub same_buffer : w'.buffer.ghost_name ≡ w.buffer.ghost_name
  pub puts : Puts w.buffer.now w.at bs w'.buffer.now w'.at

-- whichever bytes a part of a value has are put so. Where it has none, nothing is said but that the buffer is the same
-- and keeps its length
pub record AppendsPart (Part : List ℕ → Type 0) (w w' : Writer) : Type 0 where
  pub appends : (bs : List ℕ) → Part bs → Appends w bs w'
  pub same_buffer : w'.buffer.ghost_name ≡ w.buffer.ghost_name
  pub same_length : length w'.buffer.now ≡ length w.buffer.now
