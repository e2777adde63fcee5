-- `tree::leaf::names` meets its contract: before each turn a Text is wanted, behind `::`. Assumes nothing.
use mathlib.Core.Path.{refl}
use native.Mathlib.Omega.{arith}
use Rattle.tree.proofs.Nestings.{name_bounds, behind_first_lem, behind_next, nesting_read, nesting_refused}
use Rattle.tree.proofs.leaf.names.Goals as goal

pub loop-end-init : goal.loop-end-init
loop-end-init c = (behind_first_lem _ _ c.requires.inside_text, refl)

pub returns-in_default : goal.returns-in_default
returns-in_default c = nesting_refused _ _ _ _ _ _ c.loop-end.invariant.0 c.name-named.ensures c.unwrap_err.ensures

pub overflow_cast-end : goal.overflow_cast-end
overflow_cast-end c = record { fits = omega (arith, (name_bounds _ c.in-Ok.ensures).1, c.requires.short) }

pub returns-in_default-two_colons : goal.returns-in_default-two_colons
returns-in_default-two_colons c = let v = c.loop-end.invariant in
    nesting_read _ _ _ _ _ _ c.args.start.now.some_byte v.0 c.in-Ok.ensures c.in_default-two_colons.ensures v.1 c.put.ensures

pub loop-end-smaller : goal.loop-end-smaller
loop-end-smaller c = let z = behind_next _ _ c.loop-end.invariant.0 c.in-Ok.ensures c.in-Some.ensures in
    omega (arith, z.0.high, z.1)

pub loop-end-preserved : goal.loop-end-preserved
loop-end-preserved c = let z = behind_next _ _ c.loop-end.invariant.0 c.in-Ok.ensures c.in-Some.ensures in
    (z.0, c.loop-end.invariant.1)
