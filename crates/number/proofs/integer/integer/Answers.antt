-- `number::integer::integer` meets its contract. Assumes nothing.
use Rattle.number.proofs.Integers.{integer_longest, integer_none}
use Rattle.number.proofs.integer.integer.Goals as goal

pub returns-in_err-end : goal.returns-in_err-end
returns-in_err-end c = rw c.from_residual.ensures (integer_none _ c.start.ensures c.in_err-end.ensures)

pub returns : goal.returns
returns c = integer_longest _ c.start.ensures c.in_ok-end.ensures
