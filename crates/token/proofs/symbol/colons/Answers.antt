-- `token::symbol::colons` meets its contract. Assumes nothing.
use Rattle.rules.proofs.Tests.{there, not_there}
use Rattle.token.proofs.Starts.{one_colon, two_colons, three_colons, more_colons}
use mathlib.Core.Path.{refl}
use Rattle.token.proofs.symbol.colons.Goals as goal

pub returns-then-not-stands : goal.returns-then-not-stands
returns-then-not-stands c = (refl, one_colon _ _ c.requires (not_there c.stands.ensures c.if-not-stands.true))

pub returns-then-not-stands-2 : goal.returns-then-not-stands-2
returns-then-not-stands-2 c = (refl, two_colons _ _ c.requires (there c.stands.ensures c.if-not-stands.false) (not_there c.stands-2.ensures c.if-not-stands-2.true))

pub returns-then-not-stands-3 : goal.returns-then-not-stands-3
returns-then-not-stands-3 c = (refl, three_colons _ _ c.requires (there c.stands.ensures c.if-not-stands.false) (there c.stands-2.ensures c.if-not-stands-2.false) (not_there c.stands-3.ensures c.if-not-stands-3.true))

pub returns : goal.returns
returns c = more_colons _ _ c.requires (there c.stands.ensures c.if-not-stands.false) (there c.stands-2.ensures c.if-not-stands-2.false) (there c.stands-3.ensures c.if-not-stands-3.false)
