-- `number::fraction::exponent` meets its contract. Assumes nothing.
use native.Mathlib.Omega.{arith}
use Rattle.rules.proofs.Tests.{there}
use Rattle.number.proofs.Fractions.{exponent_none, exponent_answer, found}
use Rattle.number.proofs.fraction.exponent.Goals as goal

pub returns-then-not-stands : goal.returns-then-not-stands
returns-then-not-stands c = exponent_none _ c.space-sign.ensures c.stands.ensures c.if-not-stands.true

pub overflow_add-sign : goal.overflow_add-sign
overflow_add-sign c = omega (arith, (there c.stands.ensures c.if-not-stands.false).0)

pub returns : goal.returns
returns c = exponent_answer _ (found _ 0x5E c.space-sign.ensures c.stands.ensures c.if-not-stands.false c.space.ensures) c.integer.result c.integer.ensures
