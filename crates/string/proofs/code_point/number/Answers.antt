-- `string::code_point::number` meets its contract: what a row of digits says of a number.
-- Assumes nothing.
use Rattle.string.proofs.Numbers.{no_number, number_judged}
use Rattle.string.proofs.code_point.number.Goals as goal

pub returns-then-end-at : goal.returns-then-end-at
returns-then-end-at c = no_number _ c.count-end.ensures c.if-end-at.true

pub returns : goal.returns
returns c = number_judged _ c.count-end.ensures c.if-end-at.false c.outside.ensures
