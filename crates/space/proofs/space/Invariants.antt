-- `space::space` meets its contract. Outer invariant: what stands up to `end` is a run of space. Inner: `end` is unchanged, and no
-- grave accent stands between it and `i`. What is left of the text is the measure of both. Assumes nothing.
use mathlib.Core.Path.{◌≡◌}
use Prim.Native.Nat.{◌+◌, ◌≤◌, ◌-◌}
use lib.ListN.{length}
use Rattle.rules.specs.Rule.{one, many, Takes}
use Rattle.lexicon.specs.Space.{not_grave, blank}
use Rattle.space.proofs.space.Given as goal

abbrev pub invariant-loop-i : goal.invariant-loop-i
invariant-loop-i l = (l.end ≡ l.initial.end) × (l.i ≤ length l.text) × Takes l.text (many (one not_grave)) (l.initial.end + 1) l.i

abbrev pub decreases-loop-i : goal.decreases-loop-i
decreases-loop-i l = length l.text - l.i

abbrev pub invariant-space : goal.invariant-space
invariant-space l = Takes l.text (many blank) l.at l.end

abbrev pub decreases-space : goal.decreases-space
decreases-space l = length l.text - l.end
