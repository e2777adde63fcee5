-- `text_value::quoted::escaped` meets its contract. Assumes nothing.
use native.Mathlib.Omega.{arith}
use Rattle.rules.proofs.Tests.{there, not_there}
use Rattle.values.proofs.Spelled.{item_short}
use Rattle.text_value.proofs.Walks.{walk_begins, walk_within, walk_item, walk_byte, walk_next, walk_ends}
use Rattle.text_value.proofs.quoted.escaped.Goals as goal

pub loop-out-init : goal.loop-out-init
loop-out-init c = walk_begins _ _ _ c.requires

pub escape-i-requires : goal.escape-i-requires
escape-i-requires c = let q = not_there c.stands.ensures c.loop-out-test.true in
    (walk_item _ _ _ c.loop-out.invariant q, there c.stands-in-loop-out.ensures c.if-stands.true)

pub loop-out-smaller-then-stands : goal.loop-out-smaller-then-stands
loop-out-smaller-then-stands c = omega (arith, walk_within _ _ _ c.loop-out.invariant, (item_short _ c.escape-i.ensures.is).2)

pub loop-out-preserved-then-stands : goal.loop-out-preserved-then-stands
loop-out-preserved-then-stands c = walk_next _ _ _ c.loop-out.invariant (not_there c.stands.ensures c.loop-out-test.true) c.escape-i.ensures

pub loop-out-preserved : goal.loop-out-preserved
loop-out-preserved c = let q = not_there c.stands.ensures c.loop-out-test.true in
    walk_next _ _ _ c.loop-out.invariant q (walk_byte _ _ _ c.loop-out.invariant q (not_there c.stands-in-loop-out.ensures c.if-stands.false) c.put.ensures)

pub returns : goal.returns
returns c = walk_ends _ _ _ c.loop-out.invariant (there c.stands.ensures c.loop-out-test.false)
