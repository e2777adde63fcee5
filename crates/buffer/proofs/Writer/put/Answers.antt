-- `buffer::Writer::put` meets its contract. Assumes nothing.
use mathlib.Core.Path.{refl}
use native.Mathlib.Omega.{arith}
use Rattle.buffer.proofs.Puts.{puts_past, puts_one}
use Rattle.buffer.proofs.Writer.put.Goals as goal

pub returns-then-at-self : goal.returns-then-at-self
returns-then-at-self c = record { same_buffer = refl; puts = puts_past _ _ _ _ (omega arith) (omega arith) (omega arith) }

pub returns : goal.returns
returns c = record { same_buffer = refl; puts = puts_one _ _ _ (omega arith) (omega arith) }
