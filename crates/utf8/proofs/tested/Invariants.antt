-- `utf8::tested` meets its contract. The invariant of both loops: so many steps lead to `at`; in the inner one, behind the plain bytes.
-- What is left of the text is the measure. Assumes nothing.
use Prim.Native.Nat.{◌≤◌, ◌-◌}
use lib.ListN.{length}
use Rattle.lexicon.specs.Steps.{Steps}
use Rattle.utf8.proofs.tested.Given as goal

abbrev pub invariant-loop-behind : goal.invariant-loop-behind
invariant-loop-behind l = (l.end ≤ l.at) × (l.at ≤ length l.text) × Steps l.text l.at l.steps

abbrev pub decreases-loop-behind : goal.decreases-loop-behind
decreases-loop-behind l = length l.text - l.at

abbrev pub invariant-loop-at : goal.invariant-loop-at
invariant-loop-at l = (l.at ≤ length l.text) × Steps l.text l.at l.steps

abbrev pub decreases-loop-at : goal.decreases-loop-at
decreases-loop-at l = length l.text - l.at
