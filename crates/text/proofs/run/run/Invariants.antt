-- `text::run::run` meets its contract: the bytes up to `i` are of the class. Assumes nothing.
use Rattle.std.proofs.Common.{◌-◌, length}
use Rattle.rules.specs.Rule.{one, many, Takes}
use Rattle.text.proofs.run.run.Given as goal

abbrev pub invariant-loop-i : goal.invariant-loop-i
invariant-loop-i g l = Takes l.text (many (one (g.T.Test.class l.test))) l.at l.i

abbrev pub decreases-loop-i : goal.decreases-loop-i
decreases-loop-i g l = length l.text - l.i
