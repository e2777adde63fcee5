-- The invariant of the loop of `number::groups::longest_row`: a row ends at `end`, with its sum, and no unit stands there.
use Prim.Native.Nat.{◌≤◌, ◌-◌}
use lib.ListN.{length}
use Rattle.rules.specs.Rule.{Fails}
use Rattle.lexicon.specs.Bytes.{members}
use Rattle.lexicon.specs.Literals.{unit}
use Rattle.number.specs.Groups.{Summed}
use Rattle.number.proofs.groups.longest_row.Given as goal

abbrev pub invariant-loop-end : goal.invariant-loop-end
invariant-loop-end g l =
    (l.end ≤ length l.text) × Summed g.T.Tally.more l.fn.start l.text l.set l.width l.at l.end l.sum × Fails l.text (unit l.width (members l.set)) l.end

abbrev pub decreases-loop-end : goal.decreases-loop-end
decreases-loop-end g l = length l.text - l.end
