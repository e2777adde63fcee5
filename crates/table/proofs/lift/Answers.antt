-- The copy is the node, with the other parent, and one more past its descendants. Assumes nothing.
use Rattle.table.proofs.Lifts.{copied}
use Rattle.table.proofs.lift.Goals as goal

pub returns : goal.returns
returns c = copied _ _ _ _ c.requires c.copy_within.ensures.after c.next-skip.ensures
