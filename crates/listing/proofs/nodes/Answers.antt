-- `listing::nodes` meets its contract. Assumes nothing.
use native.Mathlib.Omega.{arith}
use Rattle.buffer.proofs.Appending.{appends_none}
use Rattle.listing.proofs.Lines.{nodes_none, nodes_more, nodes_short}
use Rattle.listing.proofs.nodes.Goals as goal

pub loop-index-init : goal.loop-index-init
loop-index-init c = nodes_none _ (appends_none _)

pub loop-index-preserved : goal.loop-index-preserved
loop-index-preserved c = nodes_more _ c.loop-index.index c.loop-index.invariant c.node.ensures (omega arith)

pub returns-clause-short : goal.returns-clause-short
returns-clause-short c = nodes_short c.args.table.now (λ k. (c.type_inv.table k).fits) c.args.count
