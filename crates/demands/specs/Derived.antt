-- Demand 2: 'a text is accepted exactly when the MUON grammar, as condensed in document 01, derives it, no literal in
-- it has a bad value and it keeps the size rules there. The node table is that derivation, node for node.' Said without
-- the order in which a reader meets the tokens; proofs/Derived.antt proves it of the answers. Assumes nothing.
use Rattle.std.specs.Prelude.{◌≡◌, List, ◌++◌, ℕ, ◌*◌, ◌≤◌, length, drop}
use Rattle.lexicon.specs.Utf8.{WellFormed}
use Rattle.grammar.specs.Tree.{Value}
use Rattle.grammar.specs.Level.{Level}
use Rattle.grammar.specs.Nodes.{table, table_words, node_words}
use Rattle.reading.specs.declared.Answer.{Answer}
use Rattle.reading.specs.declared.Rules.{Rules}
use Rattle.reading.specs.Sizes.{room}
use Rattle.reading.specs.Derived.{Derived}
use Rattle.reading.specs.Answers.{LevelOf}

module _ (rules : Rules) (bytes lent : List ℕ) where
  -- all that acceptance asks: a level's number, a text that is UTF-8 and not too long, its derivation, and room for the
  -- nodes
  pub record Acceptable (number : ℕ) (v : Value) : Type 0 where
    pub level : Level
    pub level_is : LevelOf number level
    pub short : length bytes ≤ rules.text
    pub formed : WellFormed bytes
    pub derived : Derived rules.limits level bytes v
    pub fits : length (table v) ≤ room rules (length lent)

  -- the answer and the table at exit say: accepted, with the nodes of this derivation, and behind them the words that
  -- stood there
  pub record Shows (v : Value) (r : Answer) (t : List ℕ) : Type 0 where
    pub number_is : r.number ≡ 0
    pub place_is : r.place ≡ length bytes
    pub count_is : r.count ≡ length (table v)
    pub table_is : t ≡ table_words (table v) ++ drop (node_words * length (table v)) lent

  -- demand 2 of one reading: accepted exactly when there is such a derivation, and then it is the one that the table
  -- shows
  pub record Decides (number : ℕ) (r : Answer) (t : List ℕ) : Type 0 where
    pub only : r.number ≡ 0 → (v : Value) × Acceptable number v
    pub whenever : {v : Value} → Acceptable number v → Shows v r t
