-- The nodes from the last one that was moved on were moved. Assumes nothing.
use Rattle.table.proofs.Lifts.{Moved}
use Rattle.table.proofs.raise.Given as goal

abbrev pub invariant-loop-node : goal.invariant-loop-node
invariant-loop-node l = Moved l.initial.table l.table l.index l.nodes l.node
