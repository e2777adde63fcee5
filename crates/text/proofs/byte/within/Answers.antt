-- `text::byte::within` meets its contract: what `get` lends is tested by its bounds. Assumes nothing.
use Rattle.std.proofs.Common.{rules}
use Rattle.text.proofs.Ranges.{range_at}
use Rattle.text.proofs.byte.within.Goals as goal

pub returns : goal.returns
returns c = range_at _ _ c.get.result c.is_some_and.result c.get.ensures.lookup (search rules)
