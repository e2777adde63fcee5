-- `position::before` meets its contract: so many characters lead from the line's begin to `at`, which is not beyond the place. What is
-- left before the place is the measure. Assumes nothing.
use native.Mathlib.Omega.{arith}
use Rattle.values.specs.Position.{none}
use Rattle.values.proofs.Position.{one_character, character_grows, count_small}
use Rattle.position.proofs.Steps.{one_further}
use Rattle.position.proofs.before.Goals as goal

pub loop-at-init : goal.loop-at-init
loop-at-init c = (omega arith, none)

pub behind-end-requires : goal.behind-end-requires
behind-end-requires c = omega arith

pub returns-then-place-end : goal.returns-then-place-end
returns-then-place-end c = let start = c.loop-at in
    let end = c.behind-end.ensures in
    record { reached = start.at; characters = start.invariant.1; within = start.invariant.0; last = λ d. omega (arith, one_character _ end d) }

pub overflow_add-count : goal.overflow_add-count
overflow_add-count c = omega (arith, count_small _ c.loop-at.invariant.1)

pub loop-at-smaller : goal.loop-at-smaller
loop-at-smaller c = omega (arith, character_grows _ c.behind-end.ensures)

pub loop-at-preserved : goal.loop-at-preserved
loop-at-preserved c = (omega arith, one_further c.loop-at.invariant.1 c.behind-end.ensures)

pub returns : goal.returns
returns c = let start = c.loop-at in
    record { reached = start.at; characters = start.invariant.1; within = start.invariant.0; last = λ d. omega (arith, character_grows _ d) }
