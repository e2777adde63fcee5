-- A sign, and what it leaves of an Integer: the place behind the sign and its dividing space is fixed, so an Integer is a number
-- from there. Assumes nothing.
use mathlib.Core.Path.{◌≡◌, refl, subst, sym, ◌∙◌}
use mathlib.Core.Bool.{true}
use mathlib.Core.List.{List}
use Prim.Native.Nat.{ℕ, ◌<◌}
use lib.ListN.{get_or}
use Rattle.rules.specs.Class.{In}
use Rattle.rules.specs.Rule.{At, Takes, nothing, byte, both, left, right}
use Rattle.rules.proofs.Classes.{apart, apart_span, apart_no}
use Rattle.rules.proofs.Matches.{starting}
use Rattle.rules.proofs.Ways.{never}
use Rattle.lexicon.specs.Bytes.{decimal, word_rest}
use Rattle.lexicon.specs.Space.{blank}
use Rattle.lexicon.specs.Literals.{sign, plus_minus, integer}
use Rattle.lexicon.proofs.Spaces.{skips_same, landed, Ahead}
use Rattle.lexicon.specs.Parts.{SomeNumeral, Start, behind, unsigned}
use Rattle.lexicon.proofs.Numbers.{numeral_at, numeral_cut, of_nonsigned, to_nonsigned, to_base}

pub decimal_blank : never decimal blank ≡ true
unfolding never apart apart_span
decimal_blank = refl

signs_digits : apart plus_minus decimal ≡ true
unfolding apart apart_span
signs_digits = refl

module _ (text : List ℕ) where
  pub start_same : {i g h : ℕ} → Start text i g → Takes text sign i h → At text decimal h → h ≡ g
  start_same (behind x s) (left (both (byte y e) t)) a = skips_same (landed decimal decimal_blank (starting e t) a) s
  start_same {i} (behind x s) (right (nothing e)) a =
      absurd (apart_no plus_minus decimal (get_or text i 0) signs_digits x.1 (subst (λ (k : ℕ). In decimal (get_or text k 0)) (sym e) a.1))
  start_same (unsigned f p) (left (both (byte y e) t)) a = absurd (f y)
  start_same (unsigned f p) (right (nothing e)) a = sym e ∙ sym p

  -- a sign that a number follows has such a place
  pub start_of : {i h : ℕ} → Takes text sign i h → At text decimal h → Start text i h
  start_of (left (both (byte y e) t)) a = behind y (landed decimal decimal_blank (starting e t) a)
  start_of {i} (right (nothing e)) a =
      unsigned (λ x. apart_no plus_minus decimal (get_or text i 0) signs_digits x.1 (subst (λ (k : ℕ). In decimal (get_or text k 0)) (sym e) a.1)) (sym e)

  pub start_sign : {i g : ℕ} → Start text i g → Takes text sign i g
  start_sign (behind x s) = left (both (byte x refl) s.takes)
  start_sign (unsigned f p) = right (nothing (sym p))

  numeral_from : {i j k : ℕ} → i ≡ k → SomeNumeral text i j → SomeNumeral text k j
  numeral_from {j = j} e n = subst (λ (x : ℕ). SomeNumeral text x j) e n

  -- the number behind a sign
  pub signed_number : {i g h j : ℕ} → Start text i g → Takes text sign i h → SomeNumeral text h j → SomeNumeral text g j
  signed_number s t n = numeral_from (start_same s t (numeral_at text n.is)) n

  pub of_integer : {i g j : ℕ} → Start text i g → Takes text integer i j → SomeNumeral text g j
  of_integer s (both t n) = signed_number s t (of_nonsigned text n)

  pub to_integer : {i g j : ℕ} → Start text i g → SomeNumeral text g j → Takes text integer i j
  to_integer s n = both (start_sign s) (to_nonsigned text n.of (to_base text n.is))

  pub some_cut : {i j k : ℕ} → SomeNumeral text i j → SomeNumeral text i k → j < k → Ahead text word_rest j
  some_cut n m h = numeral_cut text n.is m.is h
