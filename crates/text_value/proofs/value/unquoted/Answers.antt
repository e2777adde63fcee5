-- `text_value::value::unquoted` meets its contract. Assumes nothing.
use Rattle.piece.specs.Fits.{not_the_literal}
use Rattle.text_value.proofs.Texts.{word_other}
use Rattle.text_value.proofs.value.unquoted.Goals as goal

pub returns-then-end-piece : goal.returns-then-end-piece
returns-then-end-piece c = not_the_literal (word_other _ c.requires c.in-Some.ensures c.if-end-piece.true)
