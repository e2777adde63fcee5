-- `utf8::tested` meets its contract. The invariant of both loops: so many steps lead to `at`; in the inner one, behind the plain bytes.
-- What is left of the text is the measure. Assumes nothing.
use mathlib.Core.Path.{refl}
use Prim.Native.Nat.{◌≤◌, ◌-◌, ◌+◌, ◌/◌}
use lib.ListN.{length}
use native.Mathlib.Omega.{arith}
use Rattle.rules.specs.Rule.{Takes}
use Rattle.rules.proofs.Tests.{there}
use Rattle.rules.proofs.Matches.{inside, forward}
use Rattle.rules.proofs.Ways.{grows}
use Rattle.lexicon.specs.Utf8.{sequence}
use Rattle.lexicon.specs.Steps.{Steps, start}
use Rattle.lexicon.proofs.Answers.{found_at, found_none}
use Rattle.lexicon.proofs.Steps.{steps_within}
use Rattle.utf8.proofs.Steps.{no_eight_behind, no_eight_beyond, step_eights, step_bytes, step_sequence, onward, all_formed, bad_here}
use Rattle.utf8.proofs.tested.Goals as goal

pub loop-at-init : goal.loop-at-init
loop-at-init c = (omega arith, start)

pub overflow_sub-steps : goal.overflow_sub-steps
overflow_sub-steps c = omega (arith, forward c.eights-behind.ensures.takes)

pub overflow_add-steps : goal.overflow_add-steps
overflow_add-steps c =
    let behind-eights : (c.eights-behind.result ≤ length c.args.text.now) × Steps c.args.text.now c.eights-behind.result (c.loop-at.steps + (c.eights-behind.result - c.loop-at.at) / 8) = let t = c.eights-behind.ensures.takes in (inside t c.loop-at.invariant.0, step_eights c.loop-at.invariant.1 t) in
    omega (arith, (behind-eights).0, forward c.eights-behind.ensures.takes, steps_within _ c.loop-at.invariant.1)

pub overflow_sub-steps-in-loop-at : goal.overflow_sub-steps-in-loop-at
overflow_sub-steps-in-loop-at c = omega (arith, forward c.singles-end.ensures.takes)

pub overflow_add-steps-in-loop-at : goal.overflow_add-steps-in-loop-at
overflow_add-steps-in-loop-at c =
    let behind-eights : (c.eights-behind.result ≤ length c.args.text.now) × Steps c.args.text.now c.eights-behind.result (c.loop-at.steps + (c.eights-behind.result - c.loop-at.at) / 8) = let t = c.eights-behind.ensures.takes in (inside t c.loop-at.invariant.0, step_eights c.loop-at.invariant.1 t) in
    let behind-singles : (c.singles-end.result ≤ length c.args.text.now) × Steps c.args.text.now c.singles-end.result (c.loop-at.steps + (c.eights-behind.result - c.loop-at.at) / 8 + (c.singles-end.result - c.eights-behind.result)) = let s = behind-eights in let t = c.singles-end.ensures.takes in (inside t s.0, (step_bytes s.1 (no_eight_behind c.eights-behind.ensures) t).0) in
    let start = c.loop-at.invariant.1 in
    omega (arith, (behind-singles).0, forward c.eights-behind.ensures.takes, forward c.singles-end.ensures.takes, steps_within _ start)

pub loop-behind-init : goal.loop-behind-init
loop-behind-init c =
    let behind-eights : (c.eights-behind.result ≤ length c.args.text.now) × Steps c.args.text.now c.eights-behind.result (c.loop-at.steps + (c.eights-behind.result - c.loop-at.at) / 8) = let t = c.eights-behind.ensures.takes in (inside t c.loop-at.invariant.0, step_eights c.loop-at.invariant.1 t) in
    let behind-singles : (c.singles-end.result ≤ length c.args.text.now) × Steps c.args.text.now c.singles-end.result (c.loop-at.steps + (c.eights-behind.result - c.loop-at.at) / 8 + (c.singles-end.result - c.eights-behind.result)) = let s = behind-eights in let t = c.singles-end.ensures.takes in (inside t s.0, (step_bytes s.1 (no_eight_behind c.eights-behind.ensures) t).0) in
    let s = behind-singles in (omega arith, s.0, s.1)

pub loop-at-smaller : goal.loop-at-smaller
loop-at-smaller c = let passed = onward c.loop-at-test.true (c.type_inv.text c.loop-at.at).fits (forward c.eights-behind.ensures.takes)
    c.singles-end.ensures c.loop-behind.invariant.0 c.within.ensures c.loop-behind-test.false in
    omega (arith, passed, c.loop-behind.invariant.1)

pub loop-at-preserved : goal.loop-at-preserved
loop-at-preserved c = (c.loop-behind.invariant.1, c.loop-behind.invariant.2)

pub returns-in_default : goal.returns-in_default
returns-in_default c = bad_here c.loop-behind.invariant.2 (there c.within.ensures c.loop-behind-test.true).0 (found_none c.in_default.is c.sequence.ensures)

pub overflow_add-steps-in-loop-behind : goal.overflow_add-steps-in-loop-behind
overflow_add-steps-in-loop-behind c = let start = c.loop-behind in
    omega (arith, start.invariant.1, steps_within _ start.invariant.2)

pub loop-behind-smaller : goal.loop-behind-smaller
loop-behind-smaller c =
    let longer : (c.in-Some.next ≤ length c.args.text.now) × Takes c.args.text.now sequence c.loop-behind.at c.in-Some.next = let t = (found_at c.in-Some.is c.sequence.ensures).takes in (inside t c.loop-behind.invariant.1, t) in
    let t = longer in omega (arith, t.0, grows sequence refl t.1)

pub loop-behind-preserved : goal.loop-behind-preserved
loop-behind-preserved c =
    let longer : (c.in-Some.next ≤ length c.args.text.now) × Takes c.args.text.now sequence c.loop-behind.at c.in-Some.next = let t = (found_at c.in-Some.is c.sequence.ensures).takes in (inside t c.loop-behind.invariant.1, t) in
    let start = c.loop-behind in
    let t = longer in
    (omega (arith, start.invariant.0, grows sequence refl t.1), t.0, step_sequence start.invariant.2 (no_eight_beyond (c.within.ensures.true_holds c.loop-behind-test.true)) t.1)

pub returns : goal.returns
returns c = all_formed c.loop-at.invariant.1 (omega arith)
