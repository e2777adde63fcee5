-- `string::segment::plain` meets its contract: the items up to `i` are a row, and a run adds to it.
-- Assumes nothing.
use mathlib.Core.Path.{refl}
use native.Mathlib.Omega.{arith}
use Rattle.rules.specs.Rule.{many, Takes, left, stop}
use Rattle.rules.proofs.Matches.{forward}
use Rattle.rules.proofs.Chains.{join, snoc, each}
use Rattle.lexicon.specs.Literals.{restricted}
use Rattle.rules.proofs.Tests.{there, not_there}
use Rattle.rules.proofs.Ways.{begins_within}
use Rattle.rules.proofs.Closed.{closes, never_closes}
use Rattle.lexicon.proofs.Segments.{quote}
use Rattle.string.proofs.Items.{quote_restricted, restricted_single, restricted_strict}
use Rattle.string.proofs.segment.plain.Goals as goal

pub loop-at-init : goal.loop-at-init
loop-at-init c = stop refl

pub overflow_add-result : goal.overflow_add-result
overflow_add-result c = omega (arith, (there c.stands.ensures c.if-stands.true).0)

pub returns-then-stands : goal.returns-then-stands
returns-then-stands c =
    let passed : Takes c.args.text.now (many restricted) c.args.at c.run-i.result = join c.loop-at.invariant (each (λ _ _ t. left (left t)) c.run-i.ensures.takes) in
    closes restricted quote restricted_single quote_restricted passed (there c.stands.ensures c.if-stands.true)

pub returns-in_err-i : goal.returns-in_err-i
returns-in_err-i c =
    let passed : Takes c.args.text.now (many restricted) c.args.at c.run-i.result = join c.loop-at.invariant (each (λ _ _ t. left (left t)) c.run-i.ensures.takes) in
    rw c.from_residual.ensures (never_closes restricted quote restricted_single quote_restricted passed c.in_err-i.ensures (not_there c.stands.ensures c.if-stands.false))

pub loop-at-smaller : goal.loop-at-smaller
loop-at-smaller c = let l = c.in_ok-i.ensures in omega (arith, forward c.run-i.ensures.takes, begins_within restricted refl l.takes, restricted_strict.less l.takes)

pub loop-at-preserved : goal.loop-at-preserved
loop-at-preserved c =
    let passed : Takes c.args.text.now (many restricted) c.args.at c.run-i.result = join c.loop-at.invariant (each (λ _ _ t. left (left t)) c.run-i.ensures.takes) in
    snoc passed c.in_ok-i.ensures.takes
