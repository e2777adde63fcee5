-- `number::blob::tail_at` meets its contract. Assumes nothing.
use Rattle.number.specs.Blob.{digits_stand, none_stand}
use Rattle.number.proofs.blob.tail_at.Goals as goal

pub returns-in-Some : goal.returns-in-Some
returns-in-Some g c = digits_stand c.space.ensures c.in-Some.ensures

pub returns-in-None : goal.returns-in-None
returns-in-None g c = none_stand c.space.ensures c.in-None.ensures
