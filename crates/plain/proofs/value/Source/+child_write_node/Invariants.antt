-- The writers of `plain::value`, which call each other, meet their contracts: the words from the index on fall at each call. A cycle of calls
-- has one proof. The laws are in Past.antt, Steps.antt and Written.antt; here each need is given the facts that it stands on. Assumes nothing.
use Prim.Native.Nat.{◌+◌, ◌*◌, ◌-◌}
use Rattle.plain.proofs.Steps.{Going}
use Rattle.plain.proofs.Written.{left_from}
use Rattle.plain.proofs.value.Source.+child_write_node.Given as goal

abbrev pub decreases-child : goal.decreases-child
decreases-child l = 2 * left_from l.self.now.nodes.words.now l.index + 1

abbrev pub decreases-write_node : goal.decreases-write_node
decreases-write_node l = 2 * left_from l.self.now.nodes.words.now l.index

abbrev pub invariant-write_node-loop-i : goal.invariant-write_node-loop-i
invariant-write_node-loop-i l =
    Going l.self.text.now l.self.nodes.words.now l.detail l.stop l.first l.initial.out l.out l.before l.done l.i

abbrev pub decreases-write_node-loop-i : goal.decreases-write_node-loop-i
decreases-write_node-loop-i l = l.stop - l.i
