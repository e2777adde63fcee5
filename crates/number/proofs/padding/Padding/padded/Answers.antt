-- `number::padding::Padding::padded` meets its contract. Assumes nothing.
use native.Mathlib.Omega.{arith}
use Rattle.number.proofs.Sums.{padded_start, padded_character, padded_one, padded_unfit}
use Rattle.number.proofs.padding.Padding.padded.Goals as goal

pub returns-in-Start : goal.returns-in-Start
returns-in-Start c = padded_start c.in-Start.is

pub returns-in-Character : goal.returns-in-Character
returns-in-Character c = padded_character c.in-Character.is c.sextet.ensures (omega arith) c.opened.ensures

pub returns-in-OneMore : goal.returns-in-OneMore
returns-in-OneMore c = padded_one c.in-OneMore.is

pub returns-in-NoMore : goal.returns-in-NoMore
returns-in-NoMore c = padded_unfit c.in-NoMore.is
