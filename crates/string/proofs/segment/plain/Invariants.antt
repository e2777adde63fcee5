-- `string::segment::plain` meets its contract: the items up to `i` are a row, and a run adds to it.
-- Assumes nothing.
use Prim.Native.Nat.{◌-◌}
use lib.ListN.{length}
use Rattle.rules.specs.Rule.{many, Takes}
use Rattle.lexicon.specs.Literals.{restricted}
use Rattle.string.proofs.segment.plain.Given as goal

abbrev pub invariant-loop-at : goal.invariant-loop-at
invariant-loop-at l = Takes l.text (many restricted) l.at l.i

abbrev pub decreases-loop-at : goal.decreases-loop-at
decreases-loop-at l = length l.text - l.i
