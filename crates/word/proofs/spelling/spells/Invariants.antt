-- `word::spelling::spells` meets its contract: the bytes before `k` are equal, and the answer is that of the first that differs or of them all.
-- Assumes nothing.
use Prim.Native.Nat.{◌-◌}
use lib.ListN.{length}
use Rattle.word.proofs.Spells.{Matched}
use Rattle.word.proofs.spelling.spells.Given as goal

abbrev pub invariant-loop-k : goal.invariant-loop-k
invariant-loop-k l = Matched l.text l.bytes l.at l.k

abbrev pub decreases-loop-k : goal.decreases-loop-k
decreases-loop-k l = length l.bytes - l.k
