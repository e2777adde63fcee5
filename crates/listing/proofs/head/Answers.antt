-- `listing::head` meets its contract. Assumes nothing.
use Rattle.buffer.proofs.Appending.{appends_then}
use Rattle.listing.proofs.head.Goals as goal

pub returns : goal.returns
returns c = appends_then c.copy.ensures (appends_then c.field.ensures (appends_then c.field-2.ensures c.put.ensures))
