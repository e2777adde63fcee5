-- `plain::node::Nodes::behind` meets its contract. Assumes nothing.
use Rattle.plain.proofs.Steps.{behind_this, behind_alone}
use Rattle.plain.proofs.node.Nodes.behind.Goals as goal

pub returns-then-role-eq-THAT_BEFORE : goal.returns-then-role-eq-THAT_BEFORE
returns-then-role-eq-THAT_BEFORE c = behind_this c.if-role-eq-THAT_BEFORE.true c.past.ensures

pub returns : goal.returns
returns c = behind_alone c.if-role-eq-THAT_BEFORE.false
