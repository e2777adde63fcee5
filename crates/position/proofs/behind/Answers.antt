-- `position::behind` meets its contract. Assumes nothing.
use native.Mathlib.Omega.{arith}
use Rattle.position.proofs.Steps.{character_at}
use Rattle.position.proofs.behind.Goals as goal

pub returns : goal.returns
returns c = character_at c.sequence.result (omega arith) c.sequence.ensures c.unwrap_or.ensures
