-- The writers of `plain::value`, which call each other, meet their contracts: the words from the index on fall at each call. A cycle of calls
-- has one proof. The laws are in Past.antt, Steps.antt and Written.antt; here each need is given the facts that it stands on. Assumes nothing.
use native.Mathlib.Omega.{arith}
use Rattle.plain.proofs.Past.{before_end}
use Rattle.plain.proofs.Steps.{going_starts, going_on}
use Rattle.plain.proofs.Written.{no_node, leaf_written, bracket_written, child_alone, child_turned}
use Rattle.plain.proofs.value.Source.+child_write_node.Goals as goal

pub child-write_node-requires : goal.child-write_node-requires
child-write_node-requires t c = (omega (arith, c.decreases), tt)

pub child-returns-then-role-ne-THAT_BEFORE : goal.child-returns-then-role-ne-THAT_BEFORE
child-returns-then-role-ne-THAT_BEFORE t c = child_alone c.if-role-ne-THAT_BEFORE.true c.write_node.ensures

pub child-write_node-requires-2 : goal.child-write_node-requires-2
child-write_node-requires-2 t c = (omega (arith, c.decreases, c.past-this.ensures.not_before), tt)

pub child-write_node-requires-3 : goal.child-write_node-requires-3
child-write_node-requires-3 t c = (omega (arith, c.decreases), tt)

pub child-returns : goal.child-returns
child-returns t c = child_turned c.if-role-ne-THAT_BEFORE.false c.past-this.ensures c.write_node-2.ensures c.put.ensures c.write_node-3.ensures

pub write_node-returns-then-index-count : goal.write_node-returns-then-index-count
write_node-returns-then-index-count t c = no_node c.count.ensures c.if-index-count.true

pub write_node-node_at-node-requires : goal.write_node-node_at-node-requires
write_node-node_at-node-requires t c = omega (arith, c.count.ensures)

pub write_node-returns-then-kind-lt-PAIR : goal.write_node-returns-then-kind-lt-PAIR
write_node-returns-then-kind-lt-PAIR t c = leaf_written c.node_at-node.ensures c.if-kind-lt-PAIR.true c.leaf.ensures

pub write_node-loop-i-init : goal.write_node-loop-i-init
write_node-loop-i-init t c = going_starts _ _ _ _ _ _

pub write_node-role-role-requires : goal.write_node-role-role-requires
write_node-role-role-requires t c = before_end c.count.ensures c.if-index-count.false c.past-stop.ensures c.loop-i-test.true

pub write_node-child-requires : goal.write_node-child-requires
write_node-child-requires t c = (omega (arith, c.decreases, before_end c.count.ensures c.if-index-count.false c.past-stop.ensures c.loop-i-test.true, c.loop-i.invariant.onward), tt)

pub write_node-loop-i-smaller : goal.write_node-loop-i-smaller
write_node-loop-i-smaller t c = omega (arith, c.past.ensures.beyond (before_end c.count.ensures c.if-index-count.false c.past-stop.ensures c.loop-i-test.true), c.behind-i.ensures.not_before)

pub write_node-loop-i-preserved : goal.write_node-loop-i-preserved
write_node-loop-i-preserved t c = going_on _ _ _ _ (omega arith) c.role-role.ensures c.lead.ensures c.child.ensures c.past.ensures c.behind-i.ensures c.counted-done.ensures c.loop-i.invariant

pub write_node-returns : goal.write_node-returns
write_node-returns t c = bracket_written c.node_at-node.ensures c.if-kind-lt-PAIR.false c.past-stop.ensures c.open.ensures c.loop-i.invariant (omega arith) c.tail.ensures c.close.ensures
