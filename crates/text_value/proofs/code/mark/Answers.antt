-- `text_value::code::mark` meets its contract. Assumes nothing.
use Rattle.text.proofs.Letters.{answered}
use Rattle.lexicon.proofs.Marks.{by_mark, by_digit}
use Rattle.text_value.proofs.code.mark.Goals as goal

pub returns-in-None : goal.returns-in-None
returns-in-None c = by_digit _ c.requires.0 (answered _ c.in-None.is c.base_of.ensures)

pub returns-in-Some : goal.returns-in-Some
returns-in-Some c = let p = c.requires in
    by_mark _ _ p.0 p.1 (answered _ c.in-Some.is c.base_of.ensures)
