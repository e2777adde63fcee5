-- `text::digit::counted` meets its contract. Assumes nothing.
use mathlib.Core.Path.{refl, ap, ◌∙◌}
use mathlib.Core.List.{foldl}
use Prim.Native.Nat.{ℕ}
use native.Mathlib.Omega.{arith}
use lib.ListN.{get_or}
use Rattle.std.proofs.lemmas.List.{take_all}
use Rattle.lexicon.specs.Bytes.{radix}
use Rattle.lexicon.specs.Limited.{limited}
use Rattle.text.proofs.Counts.{radix_is, folded_more, counted_full}
use Rattle.text.proofs.digit.counted.Goals as goal

pub loop-b-init : goal.loop-b-init
loop-b-init c = refl

pub loop-b-preserved : goal.loop-b-preserved
loop-b-preserved c = let a = c.args in
    folded_more (limited (radix a.base)) a.sum a.digits.now c.loop-b-test.true c.loop-b.invariant
    (c.limited-number.ensures ∙ ap (λ (n : ℕ). limited n c.loop-b.number (get_or a.digits.now c.loop-b.b-index 0)) (radix_is a.base c.digit_set.ensures c.radix-radix.ensures))

pub returns-after-loop-b : goal.returns-after-loop-b
returns-after-loop-b c = let a = c.args in
    c.loop-b.invariant ∙ ap (foldl (limited (radix a.base)) a.sum) (take_all _ a.digits.now (omega arith))

pub returns-then-number-eq-LIMIT : goal.returns-then-number-eq-LIMIT
returns-then-number-eq-LIMIT c = let a = c.args in counted_full a.base a.sum _ a.digits.now c.loop-b.invariant c.if-number-eq-LIMIT.true
