-- `text_value::quoted::escaped` meets its contract. Assumes nothing.
use Prim.Native.Nat.{◌-◌}
use lib.ListN.{length}
use Rattle.text_value.proofs.Walks.{Walk}
use Rattle.text_value.proofs.quoted.escaped.Given as goal

abbrev pub invariant-loop-out : goal.invariant-loop-out
invariant-loop-out l = Walk l.piece l.at l.initial.out l.out l.i

abbrev pub decreases-loop-out : goal.decreases-loop-out
decreases-loop-out l = length l.piece - l.i
