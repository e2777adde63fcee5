-- `string::segment::escaped` meets its contract: the items up to `i` are a row, and `bad` is the first bad one of them, if one is; none of a run
-- is. Assumes nothing.
use mathlib.Core.Path.{refl}
use native.Mathlib.Omega.{arith}
use Rattle.rules.specs.Rule.{stop}
use Rattle.rules.proofs.Matches.{forward}
use Rattle.rules.proofs.Chains.{join}
use Rattle.lexicon.specs.Bad.{BadEscape}
use Rattle.string.specs.Parts.{item}
use Rattle.rules.proofs.Tests.{there, not_there}
use Rattle.string.proofs.Among.{none_said}
use Rattle.rules.proofs.Ways.{begins_within}
use Rattle.rules.proofs.Closed.{never_closes}
use Rattle.lexicon.proofs.Segments.{quote}
use Rattle.string.proofs.Items.{quote_item, item_single, item_strict}
use Rattle.string.proofs.Segments.{plain_items, plain_said, rest_judged}
use Rattle.string.proofs.FirstBad.{none_met, Items, items_more}
use Rattle.string.proofs.segment.escaped.Goals as goal

pub loop-bad-init : goal.loop-bad-init
loop-bad-init c = (stop refl, none_said _ item (BadEscape _) item_single item_strict _, λ p e. absurd (none_met e))

pub overflow_add-result : goal.overflow_add-result
overflow_add-result c = omega (arith, (there c.stands.ensures c.if-stands.true).0)

pub returns-then-stands : goal.returns-then-stands
returns-then-stands c =
    let passed : Items c.args.text.now c.args.at c.run-i.result c.loop-bad.bad = let v = c.loop-bad.invariant in (join v.0 (plain_items _ c.run-i.ensures.takes), plain_said _ v.0 c.run-i.ensures.takes v.1, v.2) in
    let v = passed in (rest_judged _ v.0 (there c.stands.ensures c.if-stands.true) v.1, v.2)

pub returns-in_err-found : goal.returns-in_err-found
returns-in_err-found c =
    let passed : Items c.args.text.now c.args.at c.run-i.result c.loop-bad.bad = let v = c.loop-bad.invariant in (join v.0 (plain_items _ c.run-i.ensures.takes), plain_said _ v.0 c.run-i.ensures.takes v.1, v.2) in
    rw c.from_residual.ensures (never_closes item quote item_single quote_item (passed).0 c.in_err-found.ensures (not_there c.stands.ensures c.if-stands.false))

pub loop-bad-smaller : goal.loop-bad-smaller
loop-bad-smaller c = let y = c.in_ok-found.ensures in omega (arith, forward c.run-i.ensures.takes, begins_within item refl y.0.takes, item_strict.less y.0.takes)

pub loop-bad-preserved : goal.loop-bad-preserved
loop-bad-preserved c =
    let passed : Items c.args.text.now c.args.at c.run-i.result c.loop-bad.bad = let v = c.loop-bad.invariant in (join v.0 (plain_items _ c.run-i.ensures.takes), plain_said _ v.0 c.run-i.ensures.takes v.1, v.2) in
    rw (c.or-bad.ensures, c.then_some.ensures) (items_more _ _ _ passed c.in_ok-found.ensures)
