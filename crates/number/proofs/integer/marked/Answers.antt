-- `number::integer::marked` meets its contract. Assumes nothing.
use native.Mathlib.Omega.{arith}
use Rattle.number.proofs.Marks.{no_mark_no_number, marked_answer}
use Rattle.number.proofs.integer.marked.Goals as goal

pub returns-in_err-base : goal.returns-in_err-base
returns-in_err-base c = rw c.from_residual.ensures (no_mark_no_number _ c.args.at c.in_err-base.ensures)

pub overflow_add-at : goal.overflow_add-at
overflow_add-at c = omega (arith, c.in_ok-base.ensures.letter_is.0)

pub returns : goal.returns
returns c = marked_answer _ c.args.at _ c.in_ok-base.ensures c.space.ensures c.digits.result c.digits.ensures
