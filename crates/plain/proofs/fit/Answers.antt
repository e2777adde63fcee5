-- `plain::fit` meets its contract. Assumes nothing.
use native.Mathlib.Omega.{arith}
use mathlib.Core.Path.{refl}
use Rattle.plain.proofs.Fits.{too_small, fits, long_enough}
use Rattle.plain.proofs.fit.Goals as goal

pub returns-then-buffer-text : goal.returns-then-buffer-text
returns-then-buffer-text c = long_enough (omega (arith, c.if-buffer-text.true)) c.fill.ensures

pub returns-then-buffer-needed : goal.returns-then-buffer-needed
returns-then-buffer-needed c = rw c.no_room.ensures (too_small (omega arith) c.put_plain-needed.ensures refl (omega (arith, c.if-buffer-needed.true)))

pub returns : goal.returns
returns c = fits (omega arith) c.put_plain-needed.ensures refl (omega (arith, c.if-buffer-needed.false)) c.fill-2.ensures
