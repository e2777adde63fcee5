-- The other details have no sign. Assumes nothing.
use Rattle.std.proofs.Common.{arith}
use Rattle.buffer.proofs.Appending.{appends_nothing}
use Rattle.marks.proofs.sign.Goals as goal

pub returns-in_default : goal.returns-in_default
returns-in_default c = appends_nothing (grind arith)
