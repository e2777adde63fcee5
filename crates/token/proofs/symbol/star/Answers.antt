-- `token::symbol::star` meets its contract. Assumes nothing.
use Rattle.rules.proofs.Tests.{there, not_there}
use Rattle.token.proofs.Symbols.{open_star, less_star, less_equal_star}
use Rattle.token.proofs.symbol.star.Goals as goal

pub returns-then-not-stands : goal.returns-then-not-stands
returns-then-not-stands c = open_star _ c.args.low c.requires.0 c.requires.1 (not_there c.stands.ensures c.if-not-stands.true)

pub returns-then-stands : goal.returns-then-stands
returns-then-stands c = less_equal_star _ c.args.low c.requires.0 c.requires.1 (there c.stands.ensures c.if-not-stands.false) (there c.stands-else-not-stands.ensures c.if-stands.true)

pub returns-else-stands : goal.returns-else-stands
returns-else-stands c = less_star _ c.args.low c.requires.0 c.requires.1 (there c.stands.ensures c.if-not-stands.false) (not_there c.stands-else-not-stands.ensures c.if-stands.false)
