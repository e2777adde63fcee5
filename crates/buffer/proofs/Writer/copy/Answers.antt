-- `buffer::Writer::copy` meets its contract: the bytes before the loop's are put. Assumes nothing.
use native.Mathlib.Omega.{arith}
use Rattle.buffer.proofs.Appending.{appends_none, appends_next}
use Rattle.buffer.proofs.Writer.copy.Goals as goal

pub loop-b-init : goal.loop-b-init
loop-b-init c = appends_none _

pub loop-b-preserved : goal.loop-b-preserved
loop-b-preserved c = appends_next _ c.loop-b.b-index (omega arith) c.loop-b.invariant c.put.ensures
