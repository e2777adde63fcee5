-- The nodes are moved from the last to the first. Assumes nothing.
use native.Mathlib.Omega.{arith}
use Rattle.table.proofs.Lifts.{moved_none, moved_more, moved_all, raised_none}
use Rattle.table.proofs.raise.Goals as goal

pub returns-then-nodes-eq0 : goal.returns-then-nodes-eq0
returns-then-nodes-eq0 c = raised_none _ _ _ c.if-nodes-eq0.true

pub loop-node-init : goal.loop-node-init
loop-node-init c = moved_none _ _ _ (omega arith)

pub loop-node-preserved : goal.loop-node-preserved
loop-node-preserved c = let d = c.loop-node.invariant in
    moved_more _ _ _ d (omega (arith, d.behind)) (omega arith) c.next-parent.ensures c.lift.ensures

pub returns : goal.returns
returns c = moved_all _ _ _ (omega arith) c.loop-node.invariant (omega arith) c.capped.ensures c.lift-2.ensures
