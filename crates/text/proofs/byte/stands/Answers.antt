-- `text::byte::stands` meets its contract: what `get` lends is the byte. Assumes nothing.
use Rattle.text.proofs.Ranges.{byte_stands}
use Rattle.text.proofs.byte.stands.Goals as goal

pub returns : goal.returns
returns c = byte_stands _ c.get.result c.eq.result c.get.ensures.lookup c.eq.ensures
