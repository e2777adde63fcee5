-- Nodes without children, by the numbers in the table. No rule. Assumes nothing.
use Rattle.std.specs.Prelude.{◌≡◌, List, ℕ, ◌≤◌, length}
use Rattle.grammar.specs.Tokens.{Span}
use Rattle.grammar.specs.Nodes.{NodeKind, kind_number_of}
use Rattle.form.proofs.Walk.{Leaf}
use Rattle.leaf.specs.declared.Node.{Node as Told}

abbrev pub span_of : Told → Span
span_of node = record { first = node.first; end = node.end }

-- of a node whose bytes are of the text
pub record LeafBytes (text : List ℕ) (node : Told) (bs : List ℕ) : Type 0 where
  pub of : NodeKind
  pub kind_is : node.kind ≡ kind_number_of of
  pub in_order : node.first ≤ node.end
  pub within : node.end ≤ length text
  pub leaf : Leaf text of node.detail (span_of node) bs
