-- `blob_value::spread::units` meets its contract. Assumes nothing.
use native.Mathlib.Omega.{arith}
use Rattle.rules.proofs.Matches.{forward}
use Rattle.blob_value.proofs.Walks.{walk_begins, walk_within, walk_small, walk_ends, walk_next, one_at_least}
use Rattle.blob_value.proofs.spread.units.Goals as goal

pub loop-i-init : goal.loop-i-init
loop-i-init c = walk_begins _ _ _ _ c.requires

pub number-requires : goal.number-requires
number-requires c = walk_small _ _ _ _ c.loop-i.invariant c.unit-width.ensures c.radix-radix.ensures

pub overflow_add-i : goal.overflow_add-i
overflow_add-i c = omega (arith, walk_within _ _ _ _ c.loop-i.invariant, c.unit-width.ensures)

pub returns-then-i-piece : goal.returns-then-i-piece
returns-then-i-piece c =
    walk_ends _ _ _ _ c.loop-i.invariant c.number.ensures c.unit-width.ensures c.radix-radix.ensures c.bytes-filled.ensures c.kind-kind.ensures
    c.spread.ensures c.if-i-piece.true

pub loop-i-smaller : goal.loop-i-smaller
loop-i-smaller c =
    let o = one_at_least c.args.mark in
    omega (arith, walk_within _ _ _ _ c.loop-i.invariant, c.unit-width.ensures, forward c.joint-i.ensures.takes, o.1)

pub loop-i-preserved : goal.loop-i-preserved
loop-i-preserved c =
    walk_next _ _ _ _ c.loop-i.invariant c.number.ensures c.unit-width.ensures c.radix-radix.ensures c.bytes-filled.ensures c.kind-kind.ensures
    c.spread.ensures c.if-i-piece.false c.joint-i.ensures
