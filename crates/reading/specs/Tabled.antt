-- A text with its table: 02, request 5, 'From a level, a text and its table', and 'The reader's refusals come first,
-- room judged by that table; then a table whose first words aren't what the reading writes is 14 at 0'.
-- Assumes nothing.
use Rattle.std.specs.Prelude.{◌≡◌, List, ℕ, ◌*◌, length, take}
use Rattle.std.proofs.Math.Option.{Option, none, some}
use Rattle.grammar.specs.Tree.{Value}
use Rattle.grammar.specs.Nodes.{table, table_words, node_words}
use Rattle.reading.specs.declared.Answer.{Answer}
use Rattle.reading.specs.declared.Rules.{Rules}
use Rattle.reading.specs.Sizes.{room}
use Rattle.reading.specs.Answers.{answer, Reading}

-- the table's first words are what the reading writes; those behind them are free
abbrev pub Holds : List ℕ → Value → Type 0
Holds words v = take (node_words * length (table v)) words ≡ table_words (table v)

module _ (rules : Rules) (text words : List ℕ) where
  -- 'room judged by that table'
  abbrev pub Judged : ℕ → Answer → Option Value → Type 0
  Judged = Reading rules text (room rules (length words))

  -- the refusal of a text with its table, or the reading's answer and the derivation that the table shows
  pub data Tabled (number : ℕ) : Answer → Option Value → Type 0 where
    refused : {a : Answer} → Judged number a none → Tabled number a none
    other_table : {a : Answer} {v : Value} → Judged number a (some v) → (Holds words v → ⊥) →
        Tabled number (answer 14 0 0) none
    shown : {a : Answer} {v : Value} → Judged number a (some v) → Holds words v → Tabled number a (some v)

  -- the answer alone
  pub record Judges (number : ℕ) (a : Answer) : Type 0 where
    pub tree : Option Value
    pub tabled : Tabled number a tree
