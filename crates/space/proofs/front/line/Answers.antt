-- `space::front::line` meets its contract: behind `#!` the rule is what `rest` looks for. Assumes nothing.
use native.Mathlib.Omega.{arith}
use Rattle.rules.proofs.Matches.{byte_at}
use Rattle.std.proofs.Common.{Some, None}
use Rattle.text.proofs.Searches.{found, regroup, then_longest, then_missed, then_fails, longest_from, opt_longest, opt_missed}
use Rattle.space.proofs.front.line.Goals as goal

pub returns-then-not-stands : goal.returns-then-not-stands
returns-then-not-stands c = opt_missed (found None regroup (then_missed c.stands.ensures c.if-not-stands.true))

pub overflow_add-at : goal.overflow_add-at
overflow_add-at c = omega (arith, (byte_at (c.stands.ensures.true_holds c.if-not-stands.false)).0)

pub returns-then-not-stands-2 : goal.returns-then-not-stands-2
returns-then-not-stands-2 c = opt_missed (found None regroup (then_fails (c.stands.ensures.true_holds c.if-not-stands.false) (then_missed c.stands-2.ensures c.if-not-stands-2.true)))

pub overflow_add-at-2 : goal.overflow_add-at-2
overflow_add-at-2 c = omega (arith, (byte_at (c.stands-2.ensures.true_holds c.if-not-stands-2.false)).0)

pub returns : goal.returns
returns c = opt_longest (found (Some c.rest.result) regroup (then_longest (c.stands.ensures.true_holds c.if-not-stands.false) (then_longest (c.stands-2.ensures.true_holds c.if-not-stands-2.false) (longest_from (omega arith) c.rest.ensures))))
