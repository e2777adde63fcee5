-- The loop of `position::line_of`: the line of `i`, and where it begins. Assumes nothing.
use Rattle.values.specs.Position.{Lines}
use Rattle.position.proofs.line_of.Given as goal

abbrev pub invariant-loop-i : goal.invariant-loop-i
invariant-loop-i l = Lines l.text l.i l.number l.begin
