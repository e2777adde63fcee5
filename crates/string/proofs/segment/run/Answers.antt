-- `string::segment::run` meets its contract: eights, and the bytes behind them. Assumes nothing.
use mathlib.Core.Path.{refl}
use Prim.Native.Nat.{◌+◌, ◌≤◌}
use native.Mathlib.Omega.{arith}
use lib.ListN.{length}
use Rattle.rules.specs.Rule.{stop}
use Rattle.rules.proofs.Chains.{join, many_of_times, longest}
use Rattle.lexicon.specs.Literals.{plain_byte}
use Rattle.lexicon.proofs.Groups.{unit_inside}
use Rattle.lexicon.proofs.Spaces.{byte_single}
use Rattle.text.proofs.Searches.{byte_missed}
use Rattle.string.proofs.Characters.{runs_on}
use Rattle.string.proofs.segment.run.Goals as goal

pub returns-then-not-plain_byte : goal.returns-then-not-plain_byte
returns-then-not-plain_byte c = longest (byte_single plain_byte) (stop refl) (byte_missed c.plain_byte.ensures c.if-not-plain_byte.true)

pub loop-i-init : goal.loop-i-init
loop-i-init c = stop refl

pub overflow_add-i : goal.overflow_add-i
overflow_add-i c =
    let within : c.loop-i.i + 8 ≤ length c.args.text.now = unit_inside 7 plain_byte (c.plain.ensures.true_holds c.loop-i-test.true) in
    omega (arith, within)

pub loop-i-smaller : goal.loop-i-smaller
loop-i-smaller c =
    let within : c.loop-i.i + 8 ≤ length c.args.text.now = unit_inside 7 plain_byte (c.plain.ensures.true_holds c.loop-i-test.true) in
    omega (arith, within)

pub loop-i-preserved : goal.loop-i-preserved
loop-i-preserved c = join c.loop-i.invariant (many_of_times 8 (c.plain.ensures.true_holds c.loop-i-test.true))

pub returns : goal.returns
returns c = runs_on _ c.loop-i.invariant c.run.ensures
