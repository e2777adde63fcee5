-- `listing::number` meets its contract. Assumes nothing.
use mathlib.Core.Path.{◌∙◌}
use native.Mathlib.Omega.{arith}
use Rattle.buffer.proofs.Appending.{appends_same}
use Rattle.listing.proofs.Digits.{printed}
use Rattle.listing.proofs.number.Goals as goal

pub returns : goal.returns
returns c = appends_same (c.as_bytes.ensures.value ∙ c.format.ensures.text ∙ printed c.args.n (omega arith)) c.copy.ensures
