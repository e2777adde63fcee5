-- `eight::run::run` meets its contract: eights lead to `i`. Assumes nothing.
use Rattle.std.proofs.Common.{rules, arith, subst, List, ℕ, ◌≤◌, length, refl}
use Rattle.rules.specs.Rule.{stop}
use Rattle.eight.proofs.Runs.{goes_on, ends, ends_beyond}
use Rattle.eight.proofs.run.run.Goals as goal

pub loop-i-init : goal.loop-i-init
loop-i-init g c = stop refl

pub loop-i-preserved : goal.loop-i-preserved
loop-i-preserved g c = goes_on _ c.loop-i.invariant (search rules)

pub returns-else-passes : goal.returns-else-passes
returns-else-passes g c = ends _ c.loop-i.invariant (search rules)

pub returns-after-loop-i : goal.returns-after-loop-i
returns-after-loop-i g c = ends_beyond _ (subst (λ (t : List ℕ). length t ≤ c.loop-i.i) c.text-text.ensures (omega arith)) c.loop-i.invariant
