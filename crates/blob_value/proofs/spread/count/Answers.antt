-- `blob_value::spread::count` meets its contract. Assumes nothing.
use native.Mathlib.Omega.{arith}
use Rattle.rules.proofs.Matches.{forward}
use Rattle.blob_value.proofs.Walks.{count_within, count_some, count_ends, count_next}
use Rattle.blob_value.proofs.spread.count.Goals as goal

pub overflow_add-n : goal.overflow_add-n
overflow_add-n c = omega (arith, c.loop-i.invariant.behind, count_within _ _ _ c.loop-i.invariant)

pub overflow_add-i : goal.overflow_add-i
overflow_add-i c = omega (arith, count_within _ _ _ c.loop-i.invariant)

pub returns-then-i-piece : goal.returns-then-i-piece
returns-then-i-piece c = count_ends _ _ _ c.loop-i.invariant c.if-i-piece.true

pub loop-i-smaller : goal.loop-i-smaller
loop-i-smaller c = let w = c.loop-i.invariant in
    omega (arith, count_within _ _ _ w, count_some _ _ _ w, forward c.joint-i.ensures.takes)

pub loop-i-preserved : goal.loop-i-preserved
loop-i-preserved c = count_next _ _ _ c.loop-i.invariant c.if-i-piece.false c.joint-i.ensures
