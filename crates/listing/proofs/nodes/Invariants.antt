-- Each turn writes one line. Assumes nothing.
use Rattle.buffer.specs.Appends.{Appends}
use Rattle.listing.specs.Listing.{node_lines}
use Rattle.listing.proofs.nodes.Given as goal

abbrev pub invariant-loop-index : goal.invariant-loop-index
invariant-loop-index l = Appends l.initial.out (node_lines l.table l.index) l.out
