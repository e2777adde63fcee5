-- `integer_value::digits::total` meets its contract. Assumes nothing.
use native.Mathlib.Omega.{arith}
use Rattle.rules.proofs.Matches.{forward}
use Rattle.integer_value.proofs.Walks.{walk_within, walk_beyond, walk_ends, walk_next}
use Rattle.integer_value.proofs.digits.total.Goals as goal

pub bounds-piece-i : goal.bounds-piece-i
bounds-piece-i c = walk_within c.loop-sum.invariant

pub returns-in_err-sum : goal.returns-in_err-sum
returns-in_err-sum c = rw c.from_residual.ensures (walk_beyond c.loop-sum.invariant c.longer.ensures c.in_err-sum.was)

pub overflow_add-i : goal.overflow_add-i
overflow_add-i c = omega (arith, walk_within c.loop-sum.invariant)

pub returns-then-i-piece : goal.returns-then-i-piece
returns-then-i-piece c = walk_ends c.loop-sum.invariant c.longer.ensures c.in_ok-sum.was c.if-i-piece.true

pub loop-sum-smaller : goal.loop-sum-smaller
loop-sum-smaller c = omega (arith, walk_within c.loop-sum.invariant, forward c.joint-i.ensures.takes)

pub loop-sum-preserved : goal.loop-sum-preserved
loop-sum-preserved c = walk_next c.loop-sum.invariant c.longer.ensures c.in_ok-sum.was c.if-i-piece.false c.joint-i.ensures
