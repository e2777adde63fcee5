-- The invariant of the loop of `number::padding::unpadded`: the first `n` characters are no `=`.
use Prim.Native.Nat.{◌-◌}
use lib.ListN.{length}
use Rattle.number.specs.Padding.{Unpadded}
use Rattle.number.proofs.padding.unpadded.Given as goal

abbrev pub invariant-loop-n : goal.invariant-loop-n
invariant-loop-n l = Unpadded l.digits l.n

abbrev pub decreases-loop-n : goal.decreases-loop-n
decreases-loop-n l = length l.digits - l.n
