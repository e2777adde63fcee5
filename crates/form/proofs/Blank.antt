-- Trees that are the same but for spans have the same nodes but for places and a Text's detail. Assumes nothing.
use mathlib.Core.Path.{◌≡◌, sym, ap, ◌∙◌}
use mathlib.Core.List.{List, map, map-map}
use Rattle.grammar.specs.Tree
use Rattle.grammar.specs.Tree.{Value}
use Rattle.grammar.specs.Nodes
use Rattle.grammar.specs.Nodes.{Node, table}
use Rattle.grammar.proofs.Moved.{move_node, table_moved}
use Rattle.form.specs.Turn.{unspelled, turn}
use Rattle.form.proofs.Reshape.{away, blank}
use Rattle.form.proofs.Normal.{norm}
use Rattle.form.proofs.Tables.{nodes_same}

-- a tree without its spans
without_spans : (v : Value) → map unspelled (table (blank v)) ≡ map unspelled (table v)
without_spans v = ap (λ (l : List Node). map unspelled l) (table_moved away v) ∙ map-map unspelled (move_node away) (table v)

-- the tree of the plain form has the nodes of the turned tree
pub same_table : (v w : Value) → blank w ≡ blank (Tree.plain (norm v)) → map unspelled (table w) ≡ map unspelled (table (turn v))
same_table v w e =
    sym (without_spans w) ∙ ap (λ (x : Value). map unspelled (table x)) e ∙ without_spans (Tree.plain (norm v)) ∙ nodes_same v 0 Nodes.root 0
