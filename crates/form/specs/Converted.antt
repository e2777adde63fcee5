-- What a conversion leaves: 02, request 6, 'A converter takes a level and a text, reads by the old rules … and writes
-- the plain form', so that other rules take it, which need not read the backward arrow. Assumes nothing.
use Rattle.std.specs.Prelude.{◌≡◌, List, ◌++◌, map, ℕ, ◌*◌, ◌≤◌, length, drop}
use Rattle.std.proofs.Math.Option.{some}
use Rattle.grammar.specs.Tree.{Value}
use Rattle.grammar.specs.Nodes.{table, table_words, node_words}
use Rattle.reading.specs.declared.Rules.{Rules}
use Rattle.reading.specs.Sizes.{room}
use Rattle.reading.specs.Answers.{answer, Reading, Answers}
use Rattle.form.specs.Turn.{turn, unspelled}
use Rattle.form.specs.Writes.{Converts}

-- the output of a text that the old rules accept, to the new ones, at the same level
pub record Converted (old new : Rules) (text : List ℕ) (level : ℕ) (out : List ℕ) : Type 0 where
  -- the text's derivation, and the output's
  pub tree : Value
  pub read : Reading old text old.nodes level (answer 0 (length text) (length (table tree))) (some tree)
  pub other : Value
  -- it is accepted, into every table with room for the text's nodes, with as many nodes
  pub accepted : (lent : List ℕ) → length (table tree) ≤ room new (length lent) →
      Answers new out lent level (answer 0 (length out) (length (table tree)))
      (table_words (table other) ++ drop (node_words * length (table tree)) lent)
  -- the same nodes but for what request 5 excepts
  pub same_nodes : map unspelled (table other) ≡ map unspelled (table (turn tree))
  -- and the same call gives it again, byte for byte, into whichever buffer it fits
  pub again : (lent : List ℕ) → length out ≤ old.text → length out ≤ length lent →
      Converts old out lent level (answer 0 (length out) (length out)) (out ++ drop (length out) lent)
