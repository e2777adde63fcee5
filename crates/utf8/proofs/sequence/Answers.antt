-- `utf8::sequence` meets its contract: the first byte leaves one row of the table, or none. Assumes nothing.
use mathlib.Core.Path.{refl}
use native.Mathlib.Omega.{arith}
use Rattle.text.proofs.Searches.{fails_end}
use Rattle.utf8.proofs.Sequences.{row_C2, row_E0, row_E1, row_ED, row_EE, row_F0, row_F1, row_F4, ascii, leads, stray, too_high}
use Rattle.utf8.proofs.sequence.Goals as goal

pub returns-in_err-get : goal.returns-in_err-get
returns-in_err-get c = rw c.from_residual.ensures (fails_end refl c.in_err-get.ensures.lookup.3)

pub returns-in-0-to-127 : goal.returns-in-0-to-127
returns-in-0-to-127 c = ascii c.in_ok-get.field-0 c.in_ok-get.ensures.lookup (omega arith)

pub returns-in-224 : goal.returns-in-224
returns-in-224 c = leads c.in_ok-get.field-0 c.in_ok-get.ensures.lookup 0xE0 0xE0 c.last_two.result row_E0 (omega arith) (omega arith) c.last_two.ensures

pub returns-in-237 : goal.returns-in-237
returns-in-237 c = leads c.in_ok-get.field-0 c.in_ok-get.ensures.lookup 0xED 0xED c.last_two-in-237.result row_ED (omega arith) (omega arith) c.last_two-in-237.ensures

pub returns-in-240 : goal.returns-in-240
returns-in-240 c = leads c.in_ok-get.field-0 c.in_ok-get.ensures.lookup 0xF0 0xF0 c.last_three.result row_F0 (omega arith) (omega arith) c.last_three.ensures

pub returns-in-244 : goal.returns-in-244
returns-in-244 c = leads c.in_ok-get.field-0 c.in_ok-get.ensures.lookup 0xF4 0xF4 c.last_three-in-244.result row_F4 (omega arith) (omega arith) c.last_three-in-244.ensures

pub returns-in-194-to-223 : goal.returns-in-194-to-223
returns-in-194-to-223 c = leads c.in_ok-get.field-0 c.in_ok-get.ensures.lookup 0xC2 0xDF c.last.result row_C2 (omega arith) (omega arith) c.last.ensures

pub returns-in-225-to-236 : goal.returns-in-225-to-236
returns-in-225-to-236 c = leads c.in_ok-get.field-0 c.in_ok-get.ensures.lookup 0xE1 0xEC c.last_two-in-225-to-236.result row_E1 (omega arith) (omega arith) c.last_two-in-225-to-236.ensures

pub returns-in-238-to-239 : goal.returns-in-238-to-239
returns-in-238-to-239 c = leads c.in_ok-get.field-0 c.in_ok-get.ensures.lookup 0xEE 0xEF c.last_two-in-238-to-239.result row_EE (omega arith) (omega arith) c.last_two-in-238-to-239.ensures

pub returns-in-241-to-243 : goal.returns-in-241-to-243
returns-in-241-to-243 c = leads c.in_ok-get.field-0 c.in_ok-get.ensures.lookup 0xF1 0xF3 c.last_three-in-241-to-243.result row_F1 (omega arith) (omega arith) c.last_three-in-241-to-243.ensures

pub returns-in_default : goal.returns-in_default
returns-in_default c = stray c.in_ok-get.field-0 c.in_ok-get.ensures.lookup (omega arith) (omega arith)

pub returns-in_default-2 : goal.returns-in_default-2
returns-in_default-2 c = too_high c.in_ok-get.field-0 c.in_ok-get.ensures.lookup (omega arith) (omega arith)
