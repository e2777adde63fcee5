-- `plain::fill` meets its contract. Assumes nothing.
use native.Mathlib.Omega.{arith}
use Rattle.plain.proofs.Fits.{fills}
use Rattle.plain.proofs.fill.Goals as goal

pub returns : goal.returns
returns c = rw c.accepted.ensures (fills (omega arith) c.put_plain.ensures)
