-- `string::quoted::segments` meets its contract: the segments up to `end` are a row, and `bad` is the first bad escape in them, if there is one.
-- Assumes nothing.
use Prim.Native.Nat.{◌-◌}
use lib.ListN.{length}
use Rattle.string.proofs.FirstBad.{Segments}
use Rattle.string.proofs.quoted.segments.Given as goal

abbrev pub invariant-loop-further : goal.invariant-loop-further
invariant-loop-further l = Segments l.text l.at l.end l.bad

abbrev pub decreases-loop-further : goal.decreases-loop-further
decreases-loop-further l = length l.text - l.end
