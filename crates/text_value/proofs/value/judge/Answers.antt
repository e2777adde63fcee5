-- `text_value::value::judge` meets its contract. Assumes nothing.
use Rattle.reading.specs.Sizes.{base}
use Rattle.values.specs.Text.{text_call}
use Rattle.piece.proofs.Refused.{judged_unsound, fits_judges}
use Rattle.text_value.specs.Shapes.{Shaped}
use Rattle.text_value.proofs.value.judge.Goals as goal

pub returns-in_err-sound : goal.returns-in_err-sound
returns-in_err-sound c = judged_unsound text_call (Shaped c.args.piece.now) base _ c.in_err-sound.ensures c.from_residual.ensures.1

pub returns : goal.returns
returns c = fits_judges text_call (Shaped c.args.piece.now) base _ c.in_ok-sound.ensures c.shape_of.ensures
