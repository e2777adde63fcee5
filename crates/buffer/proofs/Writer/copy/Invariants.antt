-- `buffer::Writer::copy` meets its contract: the bytes before the loop's are put. Assumes nothing.
use lib.ListN.{take}
use Rattle.buffer.specs.Appends.{Appends}
use Rattle.buffer.proofs.Writer.copy.Given as goal

abbrev pub invariant-loop-b : goal.invariant-loop-b
invariant-loop-b l = Appends l.initial.self (take l.b-index l.bytes) l.self
