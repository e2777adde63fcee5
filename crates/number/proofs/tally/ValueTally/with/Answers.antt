-- `number::tally::Value::with` meets its contract. Assumes nothing.
use Rattle.number.proofs.Sums.{value_with}
use Rattle.number.proofs.tally.ValueTally.with.Goals as goal

pub returns : goal.returns
returns c = value_with c.args.self c.args.digits.now c.counted.ensures
