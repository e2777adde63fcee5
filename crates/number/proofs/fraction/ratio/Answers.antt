-- `number::fraction::ratio` meets its contract. Assumes nothing.
use mathlib.Core.Path.{refl}
use Rattle.number.proofs.fraction.ratio.Goals as goal

pub returns-in_err-end : goal.returns-in_err-end
returns-in_err-end c = rw c.from_residual.ensures (record { from = _; skipped = c.space.ensures; none = c.in_err-end.ensures })

pub returns : goal.returns
returns c = record { from = _; skipped = c.space.ensures; base = _; value = _; number = c.in_ok-end.ensures; zero_is = refl }
