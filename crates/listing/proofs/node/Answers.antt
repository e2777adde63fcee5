-- `listing::node` meets its contract. Assumes nothing.
use mathlib.Core.Path.{◌≡◌, ap, ◌∙◌}
use Prim.Native.Nat.{ℕ}
use native.Mathlib.Omega.{arith}
use lib.ListN.{get_or, length-take, length-drop}
use Rattle.grammar.specs.Nodes.{word_at}
use Rattle.buffer.proofs.Appending.{appends_none, appends_same}
use Rattle.listing.specs.Listing.{decimal}
use Rattle.listing.proofs.Lines.{cells_none, cells_more, line_whole, word_behind}
use Rattle.listing.proofs.node.Goals as goal

pub loop-word-init : goal.loop-word-init
loop-word-init c = cells_none _ (appends_none _)

pub loop-word-preserved : goal.loop-word-preserved
loop-word-preserved c =
    let k = c.loop-word.word-index in
    cells_more _ k (c.from-in-loop-word.ensures ∙ word_behind c.args.table.now c.args.index k (omega arith) (omega (arith, length-take {A = ℕ})))
    c.loop-word.invariant c.field.ensures

pub returns : goal.returns
returns c =
    let first : c.from.result ≡ word_at c.args.table.now c.args.index 0 = c.from.ensures ∙ ap (λ (j : ℕ). get_or c.args.table.now j 0) (omega arith) in
    line_whole _ c.loop-word.word-index (omega (arith, length-take {A = ℕ}, length-drop {A = ℕ})) (appends_same (ap decimal first) c.number.ensures)
    c.loop-word.invariant c.put.ensures
