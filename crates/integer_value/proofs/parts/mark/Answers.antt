-- `integer_value::parts::mark` meets its contract. Assumes nothing.
use Rattle.integer_value.specs.Parts.{has_mark, no_mark}
use Rattle.integer_value.proofs.parts.mark.Goals as goal

pub returns-in-None : goal.returns-in-None
returns-in-None c = no_mark c.in-None.ensures

pub returns-in-Some : goal.returns-in-Some
returns-in-Some c = has_mark c.in-Some.ensures c.space.ensures
