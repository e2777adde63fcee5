-- `number::integer::digits` meets its contract. Assumes nothing.
use mathlib.Core.Path.{refl}
use native.Mathlib.Omega.{arith}
use Rattle.number.proofs.Marks.{row_found, row_missing}
use Rattle.number.proofs.Joints.{of_base_lem}
use Rattle.number.proofs.integer.digits.Goals as goal

pub longest_row-requires : goal.longest_row-requires
longest_row-requires c = (omega arith, of_base_lem c.args.base c.digit_set.result c.digit_set.ensures)

pub returns-in_err-end : goal.returns-in_err-end
returns-in_err-end c = rw c.from_residual.ensures (row_missing _ c.args.at c.args.base c.digit_set.ensures c.in_err-end.ensures)

pub returns : goal.returns
returns c = (refl, row_found _ c.args.at c.args.base c.digit_set.ensures c.in_ok-end.ensures)
