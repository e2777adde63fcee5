-- `string::segment::restricted` meets its contract: a character or else a backslash.
-- Assumes nothing.
use native.Mathlib.Omega.{arith}
use Rattle.rules.proofs.Tests.{there}
use Rattle.string.proofs.Escapes.{plain_character, plain_backslash, or_backslash}
use Rattle.string.proofs.segment.restricted.Goals as goal

pub returns-in-Some : goal.returns-in-Some
returns-in-Some c = plain_character _ c.in-Some.ensures

pub overflow_add-result : goal.overflow_add-result
overflow_add-result c = omega (arith, (there c.stands.ensures c.if-stands.true).0)

pub returns-in-None : goal.returns-in-None
returns-in-None c = plain_backslash _ (there c.stands.ensures c.if-stands.true)

pub returns-in-None-2 : goal.returns-in-None-2
returns-in-None-2 c = or_backslash _ c.in-None.ensures c.stands.ensures c.if-stands.false
