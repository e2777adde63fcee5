-- `position::line_column` meets its contract. Assumes nothing.
use native.Mathlib.Omega.{arith}
use Rattle.values.proofs.Position.{begins_before, count_small}
use Rattle.position.proofs.Steps.{told}
use Rattle.position.proofs.line_column.Goals as goal

pub before-count-requires : goal.before-count-requires
before-count-requires c = (begins_before _ c.line_of-line.ensures, omega arith)

pub overflow_add-result : goal.overflow_add-result
overflow_add-result c = omega (arith, count_small _ c.before-count.ensures.characters, c.before-count.ensures.within)

pub returns : goal.returns
returns c = told (omega arith) c.line_of-line.ensures c.before-count.ensures
