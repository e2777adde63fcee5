-- `eight::run::run` meets its contract: eights lead to `i`. Assumes nothing.
use Rattle.std.proofs.Common.{◌-◌, length}
use Rattle.rules.specs.Rule.{many, Takes}
use Rattle.lexicon.specs.Literals.{unit}
use Rattle.eight.proofs.run.run.Given as goal

abbrev pub invariant-loop-i : goal.invariant-loop-i
invariant-loop-i g l = Takes (g.T.Test.bytes l.test) (many (unit 8 (g.T.Test.class l.test))) l.at l.i

abbrev pub decreases-loop-i : goal.decreases-loop-i
decreases-loop-i g l = length l.text - l.i
