-- `position::line_of` meets its contract. Assumes nothing.
use mathlib.Core.Path.{sym, ◌∙◌}
use native.Mathlib.Omega.{arith}
use lib.Seq.{get_or-take, length-take-le}
use Rattle.values.specs.Position.{first}
use Rattle.values.proofs.Position.{line_small}
use Rattle.position.proofs.Steps.{line_feed_lem, line_goes_on}
use Rattle.position.proofs.line_of.Goals as goal
use Rattle.position.proofs.line_of.Goals.{then-b-eq-FEED, else-b-eq-FEED}

pub loop-i-init : goal.loop-i-init
loop-i-init c = first

pub overflow_add-number : goal.overflow_add-number
overflow_add-number c =
    let n = length-take-le c.args.end c.args.text.now c.requires in
    record { fits = omega (arith, n, line_small _ c.loop-i.invariant) }

pub loop-i-preserved : goal.loop-i-preserved
loop-i-preserved c =
    let x = c.loop-i.invariant in
    let n = length-take-le c.args.end c.args.text.now c.requires in
    let same = get_or-take c.args.end c.args.text.now c.loop-i.i 0 (omega (arith, n)) in
    elim c.if-b-eq-FEED.branch [
      | then-b-eq-FEED w ↦ line_feed_lem x (omega (arith, n)) (sym same ∙ w.if-b-eq-FEED.true) w.number-is w.begin-is
      | else-b-eq-FEED w ↦ line_goes_on x (omega (arith, n)) (λ e. w.if-b-eq-FEED.false (same ∙ e)) w.number-is w.begin-is
    ]
