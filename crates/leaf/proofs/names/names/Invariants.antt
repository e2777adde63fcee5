-- `leaf::names::names` meets its contract: the tokens before `i` are written. Assumes nothing.
use Prim.Native.Nat.{◌-◌}
use Rattle.leaf.proofs.Nestings.{Naming}
use Rattle.leaf.proofs.names.names.Given as goal

abbrev pub invariant-loop-i : goal.invariant-loop-i
invariant-loop-i l = Naming l.text l.first l.end l.initial.out l.out l.i

abbrev pub decreases-loop-i : goal.decreases-loop-i
decreases-loop-i l = l.end - l.i
