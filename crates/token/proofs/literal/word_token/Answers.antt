-- `token::literal::word_token` meets its contract. Assumes nothing.
use Rattle.token.proofs.Dispatch.{word_none, word_is}
use mathlib.Core.Path.{refl}
use Rattle.token.proofs.literal.word_token.Goals as goal

pub returns-in_err-end : goal.returns-in_err-end
returns-in_err-end c = rw c.from_residual.ensures (word_none _ c.requires c.in_err-end.ensures)

pub returns : goal.returns
returns c = (refl, word_is _ c.form-written.result c.in_ok-end.ensures c.form-written.ensures)
