-- The invariant of the loop of `blob_value::spread::number`: the sum is that of the digits before the loop's.
use Rattle.blob_value.proofs.Spreads.{Sum}
use Rattle.blob_value.proofs.spread.number.Given as goal

abbrev pub invariant-loop-b : goal.invariant-loop-b
invariant-loop-b l = Sum l.piece l.at l.count l.radix l.b-index l.sum
