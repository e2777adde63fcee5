-- A whole text: its value, the end behind it, and the answer. Assumes nothing.
use Rattle.std.specs.Prelude.{◌≡◌, List, ℕ, length, Result, Ok, Err}
use Rattle.lexicon.specs.Utf8.{WellFormed}
use Rattle.grammar.specs.Tree.{Value}
use Rattle.grammar.specs.Nodes.{table}
use Rattle.reading.specs.declared.Answer.{Answer}
use Rattle.reading.specs.declared.Rules.{Rules}
use Rattle.reading.specs.declared.Limits.{Limits}
use Rattle.reading.specs.declared.Refused.{Refused}
use Rattle.reading.specs.Answers.{LevelOf, Accepted, Answers}
use Rattle.reading.specs.Refusals.{number_of, answer_of}
use Rattle.moves.specs.declared.Forms.{Forms}
use Rattle.moves.specs.Means.{level_of}
use Rattle.table.specs.Over.{Written}
use Rattle.look.specs.declared.answer.Read.{Read}
use Rattle.tree.specs.Readers.{Faulty}

-- a refusal, as an answer
abbrev pub answered : Result Answer Refused → Answer
answered (Ok a) = a
answered (Err e) = answer_of e

module _ (text : List ℕ) where
  -- the text is accepted; its nodes are counted, and written if they fit
  pub record Whole (limits : Limits) (forms : Forms) (lent left : List ℕ) (n : ℕ) : Type 0 where
    pub tree : Value
    pub accepted : Accepted limits text (level_of forms) tree
    pub count_is : n ≡ length (table tree)
    pub written : Written lent left 0 (table tree)

  abbrev pub JudgedAs : Limits → Forms → List ℕ → List ℕ → Result Read Refused → Type 0
  JudgedAs limits forms lent left (Ok v) = Whole limits forms lent left v.nodes
  JudgedAs limits forms lent left (Err e) = Faulty text limits forms (number_of e.refusal) e.place

  pub record Judged (limits : Limits) (forms : Forms) (lent left : List ℕ) (r : Result Read Refused) : Type 0 where
    pub judged : JudgedAs limits forms lent left r

  -- the answer, whatever the level's number
  pub record Told (rules : Rules) (forms : Forms) (lent left : List ℕ) (r : Result Answer Refused) : Type 0 where
    pub answers : (number : ℕ) → LevelOf number (level_of forms) → WellFormed text →
        Answers rules text lent number (answered r) left
