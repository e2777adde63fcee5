-- `plain::node::Nodes::past` meets its contract. Assumes nothing.
use native.Mathlib.Omega.{arith}
use Rattle.plain.proofs.Past.{past_told, past_none}
use Rattle.plain.proofs.node.Nodes.past.Goals as goal

pub returns-then-index-all : goal.returns-then-index-all
returns-then-index-all c = past_none _ _ _ c.count-all.ensures (omega arith)

pub word-told-requires : goal.word-told-requires
word-told-requires c = (omega (arith, c.count-all.ensures), omega arith)

pub returns : goal.returns
returns c = past_told c.word-told.ensures (omega arith) (omega arith) (λ h l. omega (arith, h, l, c.count-all.ensures))
