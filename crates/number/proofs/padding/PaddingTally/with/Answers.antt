-- `number::padding::Padding::with` meets its contract. Assumes nothing.
use native.Mathlib.Omega.{arith}
use Rattle.number.proofs.Sums.{rest_counted}
use Rattle.number.proofs.padding.PaddingTally.with.Goals as goal

pub returns : goal.returns
returns c = rest_counted c.args.self c.args.digits.now c.unpadded.ensures (omega (arith, c.saturating_sub.ensures)) (omega arith) c.loop-b.invariant
