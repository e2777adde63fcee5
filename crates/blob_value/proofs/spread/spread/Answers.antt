-- `blob_value::spread::spread` meets its contract. Assumes nothing.
use native.Mathlib.Omega.{arith}
use Rattle.blob_value.proofs.Spreads.{spread_begins, spread_more}
use Rattle.blob_value.proofs.spread.spread.Goals as goal

pub loop-behind-init : goal.loop-behind-init
loop-behind-init c = spread_begins _ _ _ _

pub loop-behind-preserved : goal.loop-behind-preserved
loop-behind-preserved c = spread_more _ _ _ _ c.loop-behind.invariant (omega arith) c.part.ensures c.put.ensures
