-- `leaf::spelling::in_quotes` meets its contract. Assumes nothing.
use Rattle.buffer.proofs.Appending.{appends_then}
use Rattle.leaf.proofs.spelling.in_quotes.Goals as goal

pub returns : goal.returns
returns c = appends_then (appends_then c.put.ensures c.copy.ensures) c.put-2.ensures
