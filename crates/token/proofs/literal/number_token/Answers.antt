-- `token::literal::number_token` meets its contract. Assumes nothing.
use native.Mathlib.Omega.{arith}
use Rattle.token.proofs.Dispatch.{integer_is, fraction_is, number_none, signed, unsigned}
use mathlib.Core.Path.{refl}
use Rattle.token.proofs.literal.number_token.Goals as goal

pub returns-in_err-end : goal.returns-in_err-end
returns-in_err-end c = let w = c.in_err-end.ensures in rw c.from_residual.ensures (number_none _ c.requires.1 w.0 w.1)

pub returns-in-43 : goal.returns-in-43
returns-in-43 c = let w = rw c.in-Integer.is at c.in_ok-end.ensures in (refl, integer_is _ c.requires.1 w.0 w.1 (signed c.in-43.is))

pub returns-in_default : goal.returns-in_default
returns-in_default c = let w = rw c.in-Integer.is at c.in_ok-end.ensures in (refl, integer_is _ c.requires.1 w.0 w.1 (unsigned _ (λ e. grind arith) (λ e. grind arith)))

pub returns-in-Fraction : goal.returns-in-Fraction
returns-in-Fraction c = let w = rw c.in-Fraction.is at c.in_ok-end.ensures in (refl, fraction_is _ c.requires.1 w.0 w.1)
