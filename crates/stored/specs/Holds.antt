-- What a table holds. The functions that see the table and not the text promise something of whatever text and
-- derivation it holds. Assumes nothing.
use Rattle.std.specs.Prelude.{◌≡◌, List, ℕ, ◌*◌, length, take}
use Rattle.grammar.specs.Tree.{Value}
use Rattle.grammar.specs.Nodes.{table, table_words, node_words}

-- the first words of the table t are the nodes of v, and the text has so many bytes
pub record Holds (t : List ℕ) (nodes size : ℕ) (text : List ℕ) (v : Value) : Type 0 where
  pub nodes_are : nodes ≡ length (table v)
  pub size_is : size ≡ length text
  pub words_are : take (node_words * nodes) t ≡ table_words (table v)

-- whatever the text and its derivation
abbrev pub Whenever : List ℕ → ℕ → ℕ → (List ℕ → Value → Type 0) → Type 0
Whenever t nodes size P = (text : List ℕ) (v : Value) → Holds t nodes size text v → P text v
