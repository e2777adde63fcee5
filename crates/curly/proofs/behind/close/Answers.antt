-- A member by itself: its role is known by what it is to the grammar. Assumes nothing.
use Rattle.std.proofs.Common.{arith}
use Rattle.moves.proofs.Moved.{moved}
use Rattle.curly.proofs.behind.close.Goals as goal

pub returns-in-Members : goal.returns-in-Members
returns-in-Members c = λ forms shape. moved (grind arith)
