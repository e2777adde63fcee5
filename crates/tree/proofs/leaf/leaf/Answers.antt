-- `tree::leaf::leaf` meets its contract: a literal whose value is not bad is read, and its node written. Assumes nothing.
use Rattle.tree.proofs.Leaves.{literal_bad, literal_read}
use Rattle.tree.proofs.leaf.leaf.Goals as goal

pub returns-then-t : goal.returns-then-t
returns-then-t c = literal_bad _ _ _ _ _ _ c.if-t.true c.bad_place.ensures

pub returns : goal.returns
returns c = literal_read _ _ _ _ _ _ c.told-tells.result c.if-t.false c.told-tells.ensures c.put.ensures
