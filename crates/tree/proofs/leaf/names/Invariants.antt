-- `tree::leaf::names` meets its contract: before each turn a Text is wanted, behind `::`. Assumes nothing.
use mathlib.Core.Path.{◌≡◌}
use Prim.Native.Nat.{◌-◌}
use lib.ListN.{length}
use Rattle.tree.proofs.Nestings.{Behind}
use Rattle.tree.proofs.leaf.names.Given as goal

abbrev pub invariant-loop-end : goal.invariant-loop-end
invariant-loop-end l = Behind l.text l.start.token l.at × (l.table ≡ l.initial.table)

abbrev pub decreases-loop-end : goal.decreases-loop-end
decreases-loop-end l = length l.text - l.at
