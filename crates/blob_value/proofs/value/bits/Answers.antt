-- `blob_value::value::bits` meets its contract. Assumes nothing.
use Rattle.reading.specs.Sizes.{base}
use Rattle.blob_value.proofs.Judges.{answers_as}
use Rattle.blob_value.proofs.value.bits.Goals as goal

pub returns-in-Ok : goal.returns-in-Ok
returns-in-Ok c = answers_as _ _ base _ c.in-Ok.ensures.0.of_kind c.fitting.ensures
