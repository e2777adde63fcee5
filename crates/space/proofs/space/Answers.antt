-- `space::space` meets its contract. Outer invariant: what stands up to `end` is a run of space. Inner: `end` is unchanged, and no
-- grave accent stands between it and `i`. What is left of the text is the measure of both. Assumes nothing.
use mathlib.Core.Path.{refl}
use Prim.Native.Nat.{◌+◌}
use native.Mathlib.Omega.{arith}
use Rattle.rules.specs.Rule.{one, Takes, stop}
use Rattle.rules.proofs.Matches.{forward, inside}
use Rattle.rules.proofs.Chains.{snoc}
use Rattle.lexicon.specs.Space.{grave}
use Rattle.lexicon.proofs.Spaces.{skips}
use Rattle.lexicon.proofs.Groups.{units_run}
use Rattle.text.proofs.Ranges.{byte_is, byte_but}
use Rattle.space.proofs.Spaces.{blank_low, blank_key, no_blank, no_blank_end, comment_blank, lone_grave}
use Rattle.space.proofs.space.Goals as goal
use Rattle.space.proofs.space.Goals.{in-13-1, in_default+else-this-lt9+then-this-lt11}

pub space-init : goal.space-init
space-init c = stop refl

pub bounds-text-end : goal.bounds-text-end
bounds-text-end c = omega arith

pub overflow_add-end : goal.overflow_add-end
overflow_add-end c = omega arith

pub space-smaller-in-9 : goal.space-smaller-in-9
space-smaller-in-9 c = omega arith

pub space-preserved-in-9 : goal.space-preserved-in-9
space-preserved-in-9 c = let i = c.space.end in
    let here = c.space-test.true in
    snoc c.space.invariant (elim c.in-9-1.branch [ in-13-1 w ↦ blank_key i here w.in-13-1.keys1 | in_default+else-this-lt9+then-this-lt11 w ↦ blank_low i here (omega arith) (omega arith) ])

pub overflow_add-end-in-space : goal.overflow_add-end-in-space
overflow_add-end-in-space c = omega arith

pub loop-i-init : goal.loop-i-init
loop-i-init c = let t = c.eights-i.ensures.takes in
    (refl, inside t (omega arith), units_run 8 t)

pub bounds-text-i : goal.bounds-text-i
bounds-text-i c = omega arith

pub overflow_add-end-then-text-i-eq-GRAVE : goal.overflow_add-end-then-text-i-eq-GRAVE
overflow_add-end-then-text-i-eq-GRAVE c = omega arith

pub space-smaller : goal.space-smaller
space-smaller c = omega (arith, forward c.loop-i.invariant.2)

pub space-preserved : goal.space-preserved
space-preserved c =
    let opener : Takes c.args.text.now (one grave) c.space.end (c.space.end + 1) = byte_is 0x60 c.space.end c.space-test.true c.in-96.is in
    snoc c.space.invariant (comment_blank opener c.loop-i.invariant.2 (byte_is 0x60 c.loop-i.i (omega arith) c.if-text-i-eq-GRAVE.true))

pub overflow_add-i : goal.overflow_add-i
overflow_add-i c = omega arith

pub loop-i-smaller : goal.loop-i-smaller
loop-i-smaller c = omega arith

pub loop-i-preserved : goal.loop-i-preserved
loop-i-preserved c = (c.loop-i.invariant.0, omega arith, snoc c.loop-i.invariant.2 (byte_but 0x5F c.loop-i.i (omega arith) c.if-text-i-eq-GRAVE.false (c.type_inv.text c.loop-i.i).fits))

pub returns-after-space : goal.returns-after-space
returns-after-space c = skips c.space.invariant (no_blank_end c.space-test.false)

pub returns-in_default : goal.returns-in_default
returns-in_default c = skips c.space.invariant (no_blank c.space.end (λ l h. omega arith) (λ k. omega (arith, k)) (λ e. omega arith))

pub returns-in_default-2 : goal.returns-in_default-2
returns-in_default-2 c = skips c.space.invariant (no_blank c.space.end (λ l h. omega arith) (λ k. omega (arith, k)) (λ e. omega arith))

pub returns-then-i-text : goal.returns-then-i-text
returns-then-i-text c =
    let opener : Takes c.args.text.now (one grave) c.space.end (c.space.end + 1) = byte_is 0x60 c.space.end c.space-test.true c.in-96.is in
    rw c.loop-i.invariant.0
    (skips c.space.invariant (lone_grave opener c.loop-i.invariant.2 (omega arith)))
