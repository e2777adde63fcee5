-- `string::code_point::code_point` meets its contract: the byte behind `0c` tells the base.
-- Assumes nothing.
use mathlib.Core.Path.{sym, ◌∙◌}
use Rattle.text.proofs.Gets.{got, not_got}
use Rattle.string.proofs.Codes.{no_zero, no_c, no_more, mark_judged, digit_judged}
use Rattle.string.proofs.code_point.code_point.Goals as goal
use Rattle.string.proofs.code_point.code_point.Goals.{then-not-stands-via-then-not-stands, then-not-stands-via-else-not-stands+then-not-stands-2}

pub returns-then-not-stands : goal.returns-then-not-stands
returns-then-not-stands c =
    elim c.then-not-stands.branch [ then-not-stands-via-then-not-stands w ↦ no_zero c.stands.ensures w.if-not-stands.true | then-not-stands-via-else-not-stands+then-not-stands-2 w ↦ no_c w.stands-else-not-stands.ensures w.if-not-stands-2.true ]

pub returns-in_err-get : goal.returns-in_err-get
returns-in_err-get c = rw c.from_residual.ensures (no_more (not_got _ _ c.in_err-get.ensures.lookup))

pub returns-in-Some : goal.returns-in-Some
returns-in-Some c = let a = c.args in
    let g = got _ _ c.in_ok-get.field-0 c.in_ok-get.ensures.lookup in
    mark_judged a.text.now a.at c.number.result c.stands.ensures c.if-not-stands.false c.stands-else-not-stands.ensures c.if-not-stands-2.false c.in-Some.base g.0
    (sym g.1 ∙ c.in-Some.ensures) c.number.ensures

pub returns-in-None : goal.returns-in-None
returns-in-None c = let a = c.args in
    let g = got _ _ c.in_ok-get.field-0 c.in_ok-get.ensures.lookup in
    digit_judged a.text.now a.at c.number-in-None.result c.stands.ensures c.if-not-stands.false c.stands-else-not-stands.ensures c.if-not-stands-2.false
    (λ b e. c.in-None.ensures b (g.1 ∙ e)) c.number-in-None.ensures
