-- `string::segment::segment` meets its contract: the first byte behind the quote tells the kind.
-- Assumes nothing.
use native.Mathlib.Omega.{arith}
use Rattle.rules.proofs.Tests.{there, not_there}
use Rattle.string.proofs.Segments.{no_segment, segment_open}
use Rattle.string.proofs.FirstBad.{escaped_walked, plain_walked}
use Rattle.string.proofs.segment.segment.Goals as goal

pub returns-then-not-stands : goal.returns-then-not-stands
returns-then-not-stands c = no_segment _ (not_there c.stands.ensures c.if-not-stands.true)

pub overflow_add-at : goal.overflow_add-at
overflow_add-at c = omega (arith, (there c.stands.ensures c.if-not-stands.false).0)

pub overflow_add-at-then-stands : goal.overflow_add-at-then-stands
overflow_add-at-then-stands c = omega (arith, (there c.stands-2.ensures c.if-stands.true).0)

pub returns-then-stands : goal.returns-then-stands
returns-then-stands c = let a = c.args in escaped_walked a.text.now a.at c.escaped.result (there c.stands.ensures c.if-not-stands.false) (there c.stands-2.ensures c.if-stands.true) c.escaped.ensures

pub overflow_add-at-2 : goal.overflow_add-at-2
overflow_add-at-2 c = omega (arith, (there c.stands.ensures c.if-not-stands.false).0)

pub returns-in_err-end : goal.returns-in_err-end
returns-in_err-end c = rw c.from_residual.ensures (segment_open _ c.args.at (not_there c.stands-2.ensures c.if-stands.false) c.in_err-end.ensures)

pub returns : goal.returns
returns c = plain_walked _ c.args.at _ (there c.stands.ensures c.if-not-stands.false) (not_there c.stands-2.ensures c.if-stands.false) c.in_ok-end.ensures
