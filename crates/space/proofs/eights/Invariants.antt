-- `space::eights` meets its contract: eights lead to `i`. Assumes nothing.
use Prim.Native.Nat.{◌-◌}
use lib.ListN.{length}
use Rattle.rules.specs.Rule.{many, Takes}
use Rattle.lexicon.specs.Space.{not_grave}
use Rattle.lexicon.specs.Literals.{unit}
use Rattle.space.proofs.eights.Given as goal

abbrev pub invariant-loop-i : goal.invariant-loop-i
invariant-loop-i l = Takes l.text (many (unit 8 not_grave)) l.at l.i

abbrev pub decreases-loop-i : goal.decreases-loop-i
decreases-loop-i l = length l.text - l.i
