-- The invariant of the loop of `blob_value::spread::count`: `n` units stand before `i`.
use Prim.Native.Nat.{◌-◌}
use lib.ListN.{length}
use Rattle.blob_value.proofs.Walks.{Counting}
use Rattle.blob_value.proofs.spread.count.Given as goal

abbrev pub invariant-loop-i : goal.invariant-loop-i
invariant-loop-i l = Counting l.piece l.unit l.at l.i l.n

abbrev pub decreases-loop-i : goal.decreases-loop-i
decreases-loop-i l = length l.piece - l.i
