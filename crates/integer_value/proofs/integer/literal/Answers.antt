-- `integer_value::integer::literal` meets its contract. Assumes nothing.
use Rattle.integer_value.proofs.Starts.{literal_digits}
use Rattle.integer_value.proofs.Calls.{valued_none, valued_some}
use Rattle.integer_value.proofs.integer.literal.Goals as goal

pub total-requires : goal.total-requires
total-requires c = literal_digits _ c.requires c.sign-minus.ensures c.mark-base.ensures

pub returns-in_err-size : goal.returns-in_err-size
returns-in_err-size c = rw c.from_residual.ensures (valued_none _ c.sign-minus.ensures c.mark-base.ensures c.in_err-size.ensures)

pub returns : goal.returns
returns c = valued_some _ c.sign-minus.ensures c.mark-base.ensures c.in_ok-size.ensures c.signed.ensures
