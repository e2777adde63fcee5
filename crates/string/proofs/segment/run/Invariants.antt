-- `string::segment::run` meets its contract: the bytes up to `i` may all stand. What is left of the text is the measure. Assumes nothing.
use Prim.Native.Nat.{◌-◌}
use lib.ListN.{length}
use Rattle.rules.specs.Rule.{one, many, Takes}
use Rattle.lexicon.specs.Literals.{plain_byte}
use Rattle.string.proofs.segment.run.Given as goal

abbrev pub invariant-loop-i : goal.invariant-loop-i
invariant-loop-i l = Takes l.text (many (one plain_byte)) l.at l.i

abbrev pub decreases-loop-i : goal.decreases-loop-i
decreases-loop-i l = length l.text - l.i
