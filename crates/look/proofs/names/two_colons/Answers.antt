-- `look::names::two_colons` meets its contract: another token is no `::`. Assumes nothing.
use borrow.Author.Rules.{rules}
use Rattle.look.proofs.Looking.{other_kind}
use Rattle.look.proofs.names.two_colons.Goals as goal

pub returns-in_default : goal.returns-in_default
returns-in_default c = other_kind _ _ c.in_default.ensures (λ e. search (rules, e))
