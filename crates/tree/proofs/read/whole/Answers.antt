-- `tree::read::whole` meets its contract: a value, and the end behind it. Assumes nothing.
use Rattle.lexicon.proofs.Pieces.{token_bounds}
use Rattle.tree.proofs.Wholes.{whole_fit, whole_missing, whole_refused, whole_read}
use Rattle.tree.proofs.Readings.{within_of}
use Rattle.tree.proofs.read.whole.Goals as goal

pub returns-in_default : goal.returns-in_default
returns-in_default c = whole_missing _ _ _ c.front.ensures c.get-got.ensures c.unwrap_err.ensures

pub invariant_of-start-clause-some_byte : goal.invariant_of-start-clause-some_byte
invariant_of-start-clause-some_byte c = (token_bounds _ c.in-Ok.ensures).1

pub value-read-requires : goal.value-read-requires
value-read-requires c = (let w = whole_fit _ c.in-Ok.ensures c.requires in (within_of w.0, w.1))

pub returns-in_default-read : goal.returns-in_default-read
returns-in_default-read c = whole_refused _ _ _ c.front.ensures c.get-got.ensures c.in-Ok.is c.value-read.ensures c.in_default-read.is

pub returns : goal.returns
returns c = whole_read _ _ _ c.front.ensures c.get-got.ensures c.in-Ok.is c.value-read.ensures c.ended.result c.in-Ok-read.is c.ended.ensures
