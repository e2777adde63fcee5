-- `space::eights` meets its contract: eights lead to `i`. Assumes nothing.
use mathlib.Core.Path.{refl}
use Prim.Native.Nat.{◌+◌, ◌≤◌}
use lib.ListN.{length}
use native.Mathlib.Omega.{arith}
use Rattle.rules.specs.Rule.{stop}
use Rattle.rules.proofs.Chains.{snoc, longest}
use Rattle.rules.proofs.Tests.{refuted}
use Rattle.lexicon.specs.Space.{not_grave}
use Rattle.lexicon.proofs.Groups.{unit_single, unit_missed, unit_inside}
use Rattle.space.proofs.eights.Goals as goal

pub loop-i-init : goal.loop-i-init
loop-i-init c = stop refl

pub overflow_add-i : goal.overflow_add-i
overflow_add-i c =
    let within : c.loop-i.i + 8 ≤ length c.args.text.now = unit_inside 7 not_grave (c.no_grave.ensures.true_holds c.loop-i-test.true) in
    omega (arith, within)

pub loop-i-smaller : goal.loop-i-smaller
loop-i-smaller c =
    let within : c.loop-i.i + 8 ≤ length c.args.text.now = unit_inside 7 not_grave (c.no_grave.ensures.true_holds c.loop-i-test.true) in
    omega (arith, within)

pub loop-i-preserved : goal.loop-i-preserved
loop-i-preserved c = snoc c.loop-i.invariant (c.no_grave.ensures.true_holds c.loop-i-test.true)

pub returns : goal.returns
returns c = longest (unit_single 8 not_grave) c.loop-i.invariant (unit_missed 8 not_grave (refuted c.no_grave.ensures c.loop-i-test.false))
