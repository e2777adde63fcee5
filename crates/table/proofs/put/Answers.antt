-- A node is stored where it fits. Assumes nothing.
use mathlib.Core.Path.{◌∙◌}
use native.Mathlib.Omega.{arith}
use Rattle.table.proofs.Stores.{stored}
use Rattle.table.proofs.put.Goals as goal

pub returns : goal.returns
returns c = stored _ _ _ c.if-index-table.false (c.copy_from_slice.ensures.after ∙ c.words.ensures) (omega arith)
