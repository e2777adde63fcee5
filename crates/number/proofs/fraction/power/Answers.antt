-- `number::fraction::power` meets its contract. Assumes nothing.
use native.Mathlib.Omega.{arith}
use Rattle.rules.proofs.Tests.{there}
use Rattle.number.proofs.Fractions.{power_none, power_no_radix, power_no_exponent, power_whole, found}
use Rattle.number.proofs.fraction.power.Goals as goal

pub returns-then-not-stands : goal.returns-then-not-stands
returns-then-not-stands c = power_none _ c.space-sign.ensures c.stands.ensures c.if-not-stands.true

pub overflow_add-sign : goal.overflow_add-sign
overflow_add-sign c = omega (arith, (there c.stands.ensures c.if-not-stands.false).0)

pub returns-in_err-end : goal.returns-in_err-end
returns-in_err-end c = rw c.from_residual.ensures (power_no_radix _ (found _ 0x2A c.space-sign.ensures c.stands.ensures c.if-not-stands.false c.space.ensures) c.in_err-end.ensures)

pub returns-in_err-end-2 : goal.returns-in_err-end-2
returns-in_err-end-2 c = rw c.from_residual-in_err-end-2.ensures (power_no_exponent _ (found _ 0x2A c.space-sign.ensures c.stands.ensures c.if-not-stands.false c.space.ensures) c.in_ok-end.ensures c.in_err-end-2.ensures)

pub returns : goal.returns
returns c = power_whole _ (found _ 0x2A c.space-sign.ensures c.stands.ensures c.if-not-stands.false c.space.ensures) c.in_ok-end.ensures c.in_ok-end-2.ensures
