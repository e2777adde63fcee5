-- `word::word::form` meets its contract: an entry that isn't the word is passed over, and the entries are all the head words.
-- Assumes nothing.
use Prim.Native.Nat.{◌<◌}
use native.Mathlib.Omega.{arith}
use Rattle.std.proofs.Common.{refl}
use Rattle.rules.proofs.Tests.{refuted}
use Rattle.text.proofs.Gets.{got, not_got}
use Rattle.word.proofs.Words.{no_capital, no_head, the_head, no_part, part_says, pass}
use Rattle.word.proofs.word.form.Goals as goal

pub returns-in_default : goal.returns-in_default
returns-in_default c = let g = got _ _ c.in_default.field-0 (rw c.in_default.is at c.get.ensures.lookup) in no_capital (λ l a b. grind arith)

pub returns-in_default-2 : goal.returns-in_default-2
returns-in_default-2 c = let g = got _ _ c.in_default.field-0 (rw c.in_default.is at c.get.ensures.lookup) in no_capital (λ l a b. grind arith)

pub returns-in_default-3 : goal.returns-in_default-3
returns-in_default-3 c = let g = not_got _ _ (rw c.in_default.is at c.get.ensures.lookup) in no_capital (λ l a b. omega arith)

pub returns-in_default-get : goal.returns-in_default-get
returns-in_default-get c = no_part c.get-2.ensures.lookup c.in_default-get.is

pub loop-spelling-init : goal.loop-spelling-init
loop-spelling-init c = (record { same = refl }, record { none = λ k d l h. absurd (omega arith) })

pub returns-then-eq : goal.returns-then-eq
returns-then-eq c =
    let inside : c.loop-spelling.spelling-index < 13 = omega arith in
    the_head c.loop-spelling.invariant.0 c.loop-spelling.spelling-index _ inside ((part_says c.get-2.ensures.lookup c.in-Some.word _ c.in-Some.is c.eq.ensures).true_holds c.if-eq.true)

pub loop-spelling-preserved : goal.loop-spelling-preserved
loop-spelling-preserved c =
    let inside : c.loop-spelling.spelling-index < 13 = omega arith in
    (c.loop-spelling.invariant.0, pass _ inside c.loop-spelling.invariant.1 (refuted (part_says c.get-2.ensures.lookup c.in-Some.word _ c.in-Some.is c.eq.ensures) c.if-eq.false))

pub returns : goal.returns
returns c = no_head c.loop-spelling.invariant.0 (omega arith) c.loop-spelling.invariant.1
