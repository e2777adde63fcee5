-- Bytes handed back in a lent buffer: 01, of 8 'text length; count = what is needed (nodes, or bytes)', and where it is
-- accepted 'place = text length', 'the bytes written, from the buffer's start', 'other bytes stay'. Assumes nothing.
use Rattle.std.specs.Prelude.{List, ◌++◌, ℕ, ◌≤◌, ◌<◌, length, drop}
use Rattle.reading.specs.declared.Answer.{Answer}
use Rattle.reading.specs.Answers.{answer}

-- the answer of a call that hands back these bytes of a text of that length, and the lent buffer as it is then
pub data Fills (lent : List ℕ) (size : ℕ) (bytes : List ℕ) : Answer → List ℕ → Type 0 where
  no_room : length lent < length bytes → Fills lent size bytes (answer 8 size (length bytes)) lent
  written : length bytes ≤ length lent →
      Fills lent size bytes (answer 0 size (length bytes)) (bytes ++ drop (length bytes) lent)
