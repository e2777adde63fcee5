-- `utf8::eights` meets its contract: eights lead to `i`. Assumes nothing.
use Prim.Native.Nat.{◌-◌}
use lib.ListN.{length}
use Rattle.rules.specs.Rule.{many, Takes}
use Rattle.lexicon.specs.Steps.{eight}
use Rattle.utf8.proofs.eights.Given as goal

abbrev pub invariant-loop-i : goal.invariant-loop-i
invariant-loop-i l = Takes l.text (many eight) l.at l.i

abbrev pub decreases-loop-i : goal.decreases-loop-i
decreases-loop-i l = length l.text - l.i
