-- `token::literal::quoted_token` meets its contract. Assumes nothing.
use Rattle.token.proofs.Dispatch.{quoted_none, quoted_is}
use mathlib.Core.Path.{refl}
use Rattle.token.proofs.literal.quoted_token.Goals as goal

pub returns-in_err-end : goal.returns-in_err-end
returns-in_err-end c = rw c.from_residual.ensures (quoted_none _ c.requires c.in_err-end.ensures)

pub returns : goal.returns
returns c = let l = c.in_ok-end.ensures in (refl, quoted_is _ l.0 l.1)
