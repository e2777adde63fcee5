-- `number::fraction::point` meets its contract. Assumes nothing.
use mathlib.Core.Path.{refl}
use Rattle.number.proofs.Fractions.{digits_missing, digits_found}
use Rattle.number.proofs.fraction.point.Goals as goal

pub returns-in_err-end : goal.returns-in_err-end
returns-in_err-end c = rw c.from_residual.ensures (digits_missing _ c.space.ensures c.in_err-end.ensures)

pub returns : goal.returns
returns c = (refl, digits_found _ c.space.ensures c.in_ok-end.ensures.1)
