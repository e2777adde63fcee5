-- `position::before` meets its contract: so many characters lead from the line's begin to `at`, which is not beyond the place. What is
-- left before the place is the measure. Assumes nothing.
use Prim.Native.Nat.{◌-◌, ◌≤◌}
use Rattle.values.specs.Position.{Characters}
use Rattle.position.proofs.before.Given as goal

abbrev pub invariant-loop-at : goal.invariant-loop-at
invariant-loop-at l = (l.at ≤ l.place) × Characters l.text l.begin l.at l.count

abbrev pub decreases-loop-at : goal.decreases-loop-at
decreases-loop-at l = l.place - l.at
