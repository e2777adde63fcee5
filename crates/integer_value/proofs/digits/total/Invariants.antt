-- The invariant of the loop of `integer_value::digits::total`: it is a walk over the digits, and `sum` is the number of those before `i`.
use Prim.Native.Nat.{◌-◌}
use lib.ListN.{length}
use Rattle.integer_value.proofs.Walks.{Walk}
use Rattle.integer_value.proofs.digits.total.Given as goal

abbrev pub invariant-loop-sum : goal.invariant-loop-sum
invariant-loop-sum l = Walk l.piece l.base l.at l.i l.sum

abbrev pub decreases-loop-sum : goal.decreases-loop-sum
decreases-loop-sum l = length l.piece - l.i
