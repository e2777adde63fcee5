-- `string::code_point::count` meets its contract: the bytes up to `i` are digits, and `code` is their number up to the limit.
-- Assumes nothing.
use Prim.Native.Nat.{◌-◌}
use lib.ListN.{length}
use Rattle.string.proofs.Numbers.{Counting}
use Rattle.string.proofs.code_point.count.Given as goal

abbrev pub invariant-loop-i : goal.invariant-loop-i
invariant-loop-i l = Counting l.text l.set l.at l.i l.code

abbrev pub decreases-loop-i : goal.decreases-loop-i
decreases-loop-i l = length l.text - l.i
