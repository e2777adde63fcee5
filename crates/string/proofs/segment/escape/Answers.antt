-- `string::segment::escape` meets its contract: one law for the six letters, one for the angle.
-- Assumes nothing.
use native.Mathlib.Omega.{arith}
use Rattle.lexicon.specs.Values.{Letter}
use Rattle.rules.proofs.Tests.{there}
use Rattle.text.proofs.Gets.{got, not_got}
use Rattle.string.proofs.Escapes.{by_letter, by_angle, by_none, by_end, by_other}
use Rattle.string.proofs.segment.escape.Goals as goal

pub returns-then-not-stands : goal.returns-then-not-stands
returns-then-not-stands c = by_none _ _ c.stands.ensures c.if-not-stands.true

pub overflow_add-end : goal.overflow_add-end
overflow_add-end c = omega (arith, (there c.stands.ensures c.if-not-stands.false).0)

pub returns-in_err-get : goal.returns-in_err-get
returns-in_err-get c = rw c.from_residual.ensures (by_end _ _ (not_got _ _ c.in_err-get.ensures.lookup))

pub returns-in-113 : goal.returns-in-113
returns-in-113 c = by_letter _ _ c.stands.ensures c.if-not-stands.false (got _ _ c.in_ok-get.field-0 c.in_ok-get.ensures.lookup) Letter.quotation_mark c.in-113.is

pub returns-in-103 : goal.returns-in-103
returns-in-103 c = by_letter _ _ c.stands.ensures c.if-not-stands.false (got _ _ c.in_ok-get.field-0 c.in_ok-get.ensures.lookup) Letter.grave_accent c.in-103.is

pub returns-in-98 : goal.returns-in-98
returns-in-98 c = by_letter _ _ c.stands.ensures c.if-not-stands.false (got _ _ c.in_ok-get.field-0 c.in_ok-get.ensures.lookup) Letter.reverse_solidus c.in-98.is

pub returns-in-116 : goal.returns-in-116
returns-in-116 c = by_letter _ _ c.stands.ensures c.if-not-stands.false (got _ _ c.in_ok-get.field-0 c.in_ok-get.ensures.lookup) Letter.tab c.in-116.is

pub returns-in-110 : goal.returns-in-110
returns-in-110 c = by_letter _ _ c.stands.ensures c.if-not-stands.false (got _ _ c.in_ok-get.field-0 c.in_ok-get.ensures.lookup) Letter.line_feed c.in-110.is

pub returns-in-114 : goal.returns-in-114
returns-in-114 c = by_letter _ _ c.stands.ensures c.if-not-stands.false (got _ _ c.in_ok-get.field-0 c.in_ok-get.ensures.lookup) Letter.carriage_return c.in-114.is

pub returns-in-60 : goal.returns-in-60
returns-in-60 c = by_angle _ _ c.stands.ensures c.if-not-stands.false c.angled.result (got _ _ c.in_ok-get.field-0 c.in_ok-get.ensures.lookup) c.in-60.is c.angled.ensures

pub returns-in_default : goal.returns-in_default
returns-in_default c =
    by_other _ c.args.at (got _ _ c.in_ok-get.field-0 c.in_ok-get.ensures.lookup).1
    (λ e. omega arith, (λ e. omega arith, (λ e. omega arith, (λ e. omega arith, (λ e. omega arith, (λ e. omega arith, tt))))))
    (λ e. omega arith)
