-- `number::integer::start` meets its contract. Assumes nothing.
use native.Mathlib.Omega.{arith}
use Rattle.rules.proofs.Tests.{there, not_there}
use Rattle.number.proofs.Marks.{start_plus, start_minus, start_other}
use Rattle.number.proofs.integer.start.Goals as goal
use Rattle.number.proofs.integer.start.Goals.{then-stands-via-then-stands, then-stands-via-else-stands+then-stands-2}

pub overflow_add-at : goal.overflow_add-at
overflow_add-at c =
    elim c.then-stands.branch [ then-stands-via-then-stands w ↦ omega (arith, (there c.stands.ensures w.if-stands.true).0) | then-stands-via-else-stands+then-stands-2 w ↦ omega (arith, (there w.stands-else-stands.ensures w.if-stands-2.true).0) ]

pub returns-then-stands : goal.returns-then-stands
returns-then-stands c =
    elim c.then-stands.branch [ then-stands-via-then-stands w ↦ start_plus _ c.args.at (there c.stands.ensures w.if-stands.true) c.space.ensures | then-stands-via-else-stands+then-stands-2 w ↦ start_minus _ c.args.at (there w.stands-else-stands.ensures w.if-stands-2.true) c.space.ensures ]

pub returns : goal.returns
returns c = start_other _ c.args.at (not_there c.stands.ensures c.if-stands.false) (not_there c.stands-else-stands.ensures c.if-stands-2.false)
