-- `text::run::run` meets its contract: the bytes up to `i` are of the class. Assumes nothing.
use Rattle.std.proofs.Common.{rules, arith, refl}
use Rattle.rules.specs.Rule.{stop}
use Rattle.text.proofs.Runs.{passes, ends, ends_beyond}
use Rattle.text.proofs.run.run.Goals as goal

pub loop-i-init : goal.loop-i-init
loop-i-init g c = stop refl

pub returns-then-not-passes : goal.returns-then-not-passes
returns-then-not-passes g c = ends _ c.loop-i.invariant (search rules)

pub loop-i-preserved : goal.loop-i-preserved
loop-i-preserved g c = passes _ (omega arith) c.loop-i.invariant (search rules)

pub returns : goal.returns
returns g c = ends_beyond _ (omega arith) c.loop-i.invariant
