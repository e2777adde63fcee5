-- `number::blob::third` meets its contract. Assumes nothing.
use native.Mathlib.Omega.{arith}
use Rattle.rules.proofs.Tests.{there}
use Rattle.number.proofs.Blobs.{mark_none_1, mark_none_2, mark_told}
use Rattle.number.proofs.blob.third.Goals as goal
use Rattle.number.proofs.blob.third.Goals.{then-not-stands-via-then-not-stands, then-not-stands-via-else-not-stands+then-not-stands-2}

pub overflow_add-at : goal.overflow_add-at
overflow_add-at c = omega (arith, (there c.stands.ensures c.if-not-stands.false).0)

pub returns-then-not-stands : goal.returns-then-not-stands
returns-then-not-stands c =
    elim c.then-not-stands.branch [ then-not-stands-via-then-not-stands w ↦ mark_none_1 _ c.args.letter c.stands.ensures w.if-not-stands.true | then-not-stands-via-else-not-stands+then-not-stands-2 w ↦ mark_none_2 _ c.args.letter w.stands-else-not-stands.ensures w.if-not-stands-2.true ]

pub returns : goal.returns
returns c = rw c.copied.ensures (mark_told _ c.args.letter c.stands.ensures c.if-not-stands.false c.stands-else-not-stands.ensures c.if-not-stands-2.false c.get.result c.get.ensures.lookup)
