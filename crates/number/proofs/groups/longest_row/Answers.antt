-- `number::groups::longest_row` meets its contract. Assumes nothing.
use native.Mathlib.Omega.{arith}
use Rattle.rules.proofs.Matches.{forward}
use Rattle.number.proofs.Rows.{no_units, first_units, later_units, units_end, units_within, row_unjoined, row_joined}
use Rattle.number.proofs.groups.longest_row.Goals as goal

pub returns-then-end-at : goal.returns-then-end-at
returns-then-end-at g c = no_units _ _ _ _ _ c.requires.0 c.units-end.ensures c.if-end-at.true

pub slice_bounds-with-count : goal.slice_bounds-with-count
slice_bounds-with-count g c = forward c.units-end.ensures.takes

pub slice_bounds-with-start : goal.slice_bounds-with-start
slice_bounds-with-start g c = omega (arith, forward c.units-end.ensures.takes, units_within _ _ _ c.requires.0 c.units-end.ensures c.if-end-at.false)

pub slice_bounds-with-end : goal.slice_bounds-with-end
slice_bounds-with-end g c = units_within _ _ _ c.requires.0 c.units-end.ensures c.if-end-at.false

pub loop-end-init : goal.loop-end-init
loop-end-init g c = (
  units_within _ _ _ c.requires.0 c.units-end.ensures c.if-end-at.false,
  first_units _ _ _ _ _ c.requires.0 c.units-end.ensures c.if-end-at.false c.with-sum.ensures,
  units_end _ _ _ _ _ c.requires.0 c.units-end.ensures,
)

pub returns-then-next-end : goal.returns-then-next-end
returns-then-next-end g c = row_unjoined _ _ _ _ _ c.requires.0 c.requires.1 c.loop-end.invariant.1 c.joint-next.ensures c.loop-end.invariant.2 c.if-next-end.true

pub returns-then-stop-next : goal.returns-then-stop-next
returns-then-stop-next g c = row_joined _ _ _ _ _ c.requires.0 c.requires.1 c.loop-end.invariant.1 c.joint-next.ensures _ c.units-stop.ensures c.if-stop-next.true

pub slice_bounds-with-count-in-loop-end : goal.slice_bounds-with-count-in-loop-end
slice_bounds-with-count-in-loop-end g c = forward c.units-stop.ensures.takes

pub slice_bounds-with-start-in-loop-end : goal.slice_bounds-with-start-in-loop-end
slice_bounds-with-start-in-loop-end g c = omega (arith, forward c.units-stop.ensures.takes, units_within _ _ _ c.requires.0 c.units-stop.ensures c.if-stop-next.false)

pub slice_bounds-with-end-in-loop-end : goal.slice_bounds-with-end-in-loop-end
slice_bounds-with-end-in-loop-end g c = units_within _ _ _ c.requires.0 c.units-stop.ensures c.if-stop-next.false

pub loop-end-smaller : goal.loop-end-smaller
loop-end-smaller g c =
    omega (arith, forward c.joint-next.ensures.takes, forward c.units-stop.ensures.takes, units_within _ _ _ c.requires.0 c.units-stop.ensures c.if-stop-next.false)

pub loop-end-preserved : goal.loop-end-preserved
loop-end-preserved g c = (
  units_within _ _ _ c.requires.0 c.units-stop.ensures c.if-stop-next.false,
  later_units _ _ _ _ _ c.requires.0 c.loop-end.invariant.1 c.joint-next.ensures c.units-stop.ensures c.if-stop-next.false c.with-sum-in-loop-end.ensures,
  units_end _ _ _ _ _ c.requires.0 c.units-stop.ensures,
)
