-- `blob_value::value::measured` meets its contract. Assumes nothing.
use native.Mathlib.Omega.{arith}
use Rattle.blob_value.proofs.Pieces.{measure_alone, has_units, measure_fits, measure_behind}
use Rattle.blob_value.proofs.value.measured.Goals as goal

pub returns-then-piece-eq3 : goal.returns-then-piece-eq3
returns-then-piece-eq3 c = measure_alone _ c.args.mark c.requires.0 c.if-piece-eq3.true

pub count-requires : goal.count-requires
count-requires c = has_units _ c.args.mark c.requires.0 c.space-start.ensures c.if-piece-eq3.false c.unit.ensures

pub overflow_mul-result : goal.overflow_mul-result
overflow_mul-result c = omega (arith, c.requires.1, measure_fits _ c.args.mark c.requires.0 c.space-start.ensures c.if-piece-eq3.false c.unit.ensures c.count.ensures c.bytes.ensures)

pub returns : goal.returns
returns c = measure_behind _ c.args.mark c.requires.0 c.space-start.ensures c.if-piece-eq3.false c.unit.ensures c.count.ensures c.bytes.ensures
