-- `integer_value::integer::value` meets its contract. Assumes nothing.
use Rattle.piece.proofs.Refused.{is_whole, not_whole}
use Rattle.integer_value.proofs.Calls.{judged_unsound, judged_other, judged_value}
use Rattle.integer_value.proofs.integer.value.Goals as goal

pub returns-in_err-sound : goal.returns-in_err-sound
returns-in_err-sound c = judged_unsound _ _ c.in_err-sound.ensures c.from_residual.ensures.1

pub returns-then-ne : goal.returns-then-ne
returns-then-ne c = judged_other _ c.in_ok-sound.ensures (not_whole _ c.integer.ensures c.ne.ensures c.if-ne.true)

pub returns : goal.returns
returns c = rw c.ok_or.ensures.value (judged_value _ c.in_ok-sound.ensures (is_whole _ c.integer.ensures c.ne.ensures c.if-ne.false) _ c.literal.ensures)
