-- `number::fraction::behind` meets its contract. Assumes nothing.
use native.Mathlib.Omega.{arith}
use Rattle.text.proofs.Gets.{got, not_got}
use Rattle.number.proofs.Fractions.{significand_no_sign, point_answer, ratio_answer, sign_is, sign_is_not}
use Rattle.number.proofs.fraction.behind.Goals as goal

pub returns-in_err-get : goal.returns-in_err-get
returns-in_err-get c = let h = not_got _ _ c.in_err-get.ensures.lookup in
    rw c.from_residual.ensures (record { of = λ st n. significand_no_sign _ st n c.space-sign.ensures (λ a. omega (arith, a.0)) (λ a. omega (arith, a.0)) })

pub returns-in-46 : goal.returns-in-46
returns-in-46 c = record { of = λ st n. point_answer _ st n c.space-sign.ensures (sign_is _ 0x2E (got _ _ c.in_ok-get.field-0 c.in_ok-get.ensures.lookup) c.in-46.is) c.point.result c.point.ensures }

pub returns-in-47 : goal.returns-in-47
returns-in-47 c = record { of = λ st n. ratio_answer _ st n c.space-sign.ensures (sign_is _ 0x2F (got _ _ c.in_ok-get.field-0 c.in_ok-get.ensures.lookup) c.in-47.is) c.ratio.result c.ratio.ensures }

pub returns-in_default : goal.returns-in_default
returns-in_default c = let g = got _ _ c.in_ok-get.field-0 c.in_ok-get.ensures.lookup in
    record { of = λ st n. significand_no_sign _ st n c.space-sign.ensures (sign_is_not _ 0x2E g.1 (λ e. omega arith)) (sign_is_not _ 0x2F g.1 (λ e. omega arith)) }
