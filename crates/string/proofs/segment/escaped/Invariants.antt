-- `string::segment::escaped` meets its contract: the items up to `i` are a row, and `bad` is the first bad one of them, if one is; none of a run
-- is. Assumes nothing.
use Prim.Native.Nat.{◌-◌}
use lib.ListN.{length}
use Rattle.string.proofs.FirstBad.{Items}
use Rattle.string.proofs.segment.escaped.Given as goal

abbrev pub invariant-loop-bad : goal.invariant-loop-bad
invariant-loop-bad l = Items l.text l.at l.i l.bad

abbrev pub decreases-loop-bad : goal.decreases-loop-bad
decreases-loop-bad l = length l.text - l.i
