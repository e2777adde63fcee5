-- `string::segment::item` meets its contract: an escape or else a character.
-- Assumes nothing.
use Rattle.std.proofs.Common.{None}
use Rattle.rules.proofs.Tests.{there}
use Rattle.string.proofs.Escapes.{by_none, no_character, item_character, item_escape}
use Rattle.string.proofs.segment.item.Goals as goal

pub returns-then-stands : goal.returns-then-stands
returns-then-stands c = item_escape _ _ c.escape.result (no_character _ (there c.stands.ensures c.if-stands.true)) c.escape.ensures

pub returns-in_err-end : goal.returns-in_err-end
returns-in_err-end c = rw c.from_residual.ensures (item_escape _ _ None c.in_err-end.ensures (by_none _ _ c.stands.ensures c.if-stands.false))

pub returns : goal.returns
returns c = item_character _ _ _ c.in_ok-end.ensures
