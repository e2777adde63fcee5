-- The readers of `tree::value`, which call each other, meet their contracts: bytes left, with a rank for each, fall at each call.
-- A cycle of calls has one proof. The laws are in Readings.antt; here each need is given the facts that it stands on. Assumes nothing.
use Prim.Native.Nat.{◌-◌}
use lib.ListN.{length}
use Rattle.tree.proofs.Readings.{left_at, Going}
use Rattle.tree.proofs.value.+bracket_child_first_value_member_round_value.Given as goal

abbrev pub decreases-bracket : goal.decreases-bracket
decreases-bracket l = left_at l.reader.now.text.now l.entered.at 3

abbrev pub decreases-child : goal.decreases-child
decreases-child l = left_at l.reader.now.text.now l.t.end 6

abbrev pub decreases-first_value : goal.decreases-first_value
decreases-first_value l = left_at l.reader.now.text.now l.start.now.token.end 3

abbrev pub decreases-member : goal.decreases-member
decreases-member l = left_at l.reader.now.text.now l.s.at 2

abbrev pub decreases-round : goal.decreases-round
decreases-round l = left_at l.reader.now.text.now l.start.now.token.end 4

abbrev pub decreases-value : goal.decreases-value
decreases-value l = left_at l.reader.now.text.now l.start.now.token.end 5

abbrev pub invariant-bracket-loop-turned : goal.invariant-bracket-loop-turned
invariant-bracket-loop-turned l = Going l.reader.text.now l.reader.limits l.reader.forms l.start.token l.initial.table l.start.index l.start.parent l.initial.state l.table l.state

abbrev pub decreases-bracket-loop-turned : goal.decreases-bracket-loop-turned
decreases-bracket-loop-turned l = length l.reader.text.now - l.state.at
