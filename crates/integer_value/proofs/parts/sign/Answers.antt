-- `integer_value::parts::sign` meets its contract. Assumes nothing.
use Rattle.rules.proofs.Tests.{there, not_there}
use Rattle.number.proofs.Marks.{start_plus, start_minus, start_other}
use Rattle.integer_value.proofs.Starts.{sign_lem}
use Rattle.integer_value.proofs.parts.sign.Goals.{then-minus-via-then-minus, then-minus-via-else-minus+then-stands}
use Rattle.integer_value.proofs.parts.sign.Goals as goal

pub returns-then-minus : goal.returns-then-minus
returns-then-minus c =
    let s = c.stands-minus.ensures in
    sign_lem _ _ s
    (elim c.then-minus.branch [
      | then-minus-via-then-minus w ↦ start_minus _ _ (there s w.if-minus.true) c.space.ensures
      | then-minus-via-else-minus+then-stands w ↦ start_plus _ _ (there w.stands.ensures w.if-stands.true) c.space.ensures
    ])

pub returns : goal.returns
returns c =
    let s = c.stands-minus.ensures in
    sign_lem _ _ s (start_other _ _ (not_there c.stands.ensures c.if-stands.false) (not_there s c.if-minus.false))
