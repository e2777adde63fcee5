-- `text::class::classes` meets its contract: the printed table is the list of the classes, and its rule says what each entry is.
-- Assumes nothing.
use Rattle.rules.specs.Class.{has}
use Rattle.text.proofs.Sets.{classes, number}
use Rattle.text.proofs.class.classes.Goals as goal

pub returns : goal.returns
unfolding classes has
returns c = record { entry = number }
