-- `string::segment::plain_byte` meets its contract: what `get` lends is told by itself. Assumes nothing.
use Rattle.std.proofs.Common.{rules}
use Rattle.string.proofs.Characters.{plain_said}
use Rattle.string.proofs.segment.plain_byte.Goals as goal

pub returns : goal.returns
returns c = plain_said _ c.get.result c.is_some_and.result c.get.ensures.lookup (search rules)
