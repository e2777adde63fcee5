-- `blob_value::value::fitting` meets its contract. Assumes nothing.
use native.Mathlib.Omega.{arith}
use Rattle.reading.specs.Sizes.{base}
use Rattle.blob_value.proofs.Calls.{enough, fits}
use Rattle.blob_value.proofs.value.fitting.Goals as goal

pub overflow_sub-needed : goal.overflow_sub-needed
overflow_sub-needed c = enough _ _ c.requires.0 c.padding.ensures c.measured.ensures

pub returns : goal.returns
returns c = rw c.accepted.ensures (fits _ _ c.requires.0 c.padding.ensures base c.requires.1 c.requires.2 _ c.measured.ensures (omega arith) c.write.ensures)
