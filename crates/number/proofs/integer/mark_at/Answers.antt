-- `number::integer::mark_at` meets its contract. Assumes nothing.
use native.Mathlib.Omega.{arith}
use Rattle.rules.proofs.Tests.{there, not_there}
use Rattle.text.proofs.Gets.{got, not_got}
use Rattle.number.proofs.Marks.{no_mark, no_letter_behind, letter_marks}
use Rattle.number.proofs.integer.mark_at.Goals as goal

pub returns-then-not-stands : goal.returns-then-not-stands
returns-then-not-stands c = no_mark _ c.args.at (not_there c.stands.ensures c.if-not-stands.true)

pub overflow_add-at : goal.overflow_add-at
overflow_add-at c = omega (arith, (there c.stands.ensures c.if-not-stands.false).0)

pub returns-in_err-get : goal.returns-in_err-get
returns-in_err-get c = rw c.from_residual.ensures (no_letter_behind _ c.args.at (not_got _ _ c.in_err-get.ensures.lookup))

pub returns : goal.returns
returns c = letter_marks _ c.args.at c.base_of.result (there c.stands.ensures c.if-not-stands.false) (got _ _ c.in_ok-get.field-0 c.in_ok-get.ensures.lookup) c.base_of.ensures
