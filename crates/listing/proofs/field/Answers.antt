-- `listing::field` meets its contract. Assumes nothing.
use Rattle.buffer.proofs.Appending.{appends_then}
use Rattle.listing.proofs.field.Goals as goal

pub returns : goal.returns
returns c = appends_then c.put.ensures c.number.ensures
