-- `blob_value::spread::number` meets its contract. Assumes nothing.
use native.Mathlib.Omega.{arith}
use Rattle.blob_value.proofs.Spreads.{product_fits, sum_fits, sum_more}
use Rattle.blob_value.proofs.spread.number.Goals as goal

pub overflow_mul-sum : goal.overflow_mul-sum
overflow_mul-sum c = omega (arith, product_fits _ _ _ _ c.requires c.loop-b.invariant (omega arith))

pub overflow_add-sum : goal.overflow_add-sum
overflow_add-sum c = omega (arith, sum_fits _ _ _ _ c.requires c.loop-b.invariant (omega arith) (omega arith) c.digit_value.ensures)

pub loop-b-preserved : goal.loop-b-preserved
loop-b-preserved c = sum_more _ _ _ _ c.requires c.loop-b.invariant (omega arith) (omega arith) c.digit_value.ensures
