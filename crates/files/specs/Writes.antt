-- The writer's answer, number, place, count and every byte of the lent buffer, for every text and buffer: 02, request
-- 4, 'The writer passes on the reader's refusals, then 8 with the bytes needed; accepted, count is the file's bytes'.
-- Assumes nothing.
use Rattle.std.specs.Prelude.{List, ◌++◌, ℕ, ◌≤◌, ◌<◌, length, drop}
use Rattle.std.proofs.Math.Option.{Option, none, some}
use Rattle.grammar.specs.Tree.{Value}
use Rattle.reading.specs.declared.Answer.{Answer}
use Rattle.reading.specs.declared.Rules.{Rules}
use Rattle.reading.specs.Answers.{answer, Reading}
use Rattle.files.specs.File.{file}

-- 'Both read at level 2 as if with room for 1,024 nodes': for as many as the rules let a table have
abbrev pub Read : Rules → List ℕ → Answer → Option Value → Type 0
Read rules text = Reading rules text rules.nodes 2

module _ (rules : Rules) (text lent : List ℕ) where
  -- the answer, and the lent buffer as it is then. 01: the place is the 'text length', of 8 and where it is accepted
  pub data Writes : Answer → List ℕ → Type 0 where
    refused : {a : Answer} → Read rules text a none → Writes a lent
    no_room : {a : Answer} {v : Value} → Read rules text a (some v) → length lent < length (file text v) →
        Writes (answer 8 (length text) (length (file text v))) lent
    written : {a : Answer} {v : Value} → Read rules text a (some v) → length (file text v) ≤ length lent →
        Writes (answer 0 (length text) (length (file text v))) (file text v ++ drop (length (file text v)) lent)
