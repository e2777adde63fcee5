-- A match from within a run of ink does not pass a byte that the rule does not take. Assumes nothing.
use mathlib.Core.Path.{◌≡◌, refl, subst}
use mathlib.Core.Bool.{true}
use mathlib.Core.List.{List}
use Prim.Native.Nat.{ℕ, zero, suc, ◌+◌, ◌≤◌}
use native.Mathlib.Omega.{arith}
use native.Mathlib.Decide.{dec_le}
use lib.ListN.{get_or}
use Rattle.rules.specs.Class.{Class, In, any_of}
use Rattle.rules.specs.Rule.{Rule, many, opt, Takes, nothing, byte, both, left, right, stop, more, At}
use Rattle.rules.proofs.Classes.{apart, apart_span, apart_no}
use Rattle.rules.proofs.Matches.{forward}
use Rattle.rules.proofs.Ways.{never, never_takes}
use Rattle.lexicon.specs.Space.{sp}
use Rattle.lexicon.specs.Literals.{joint, unit}
use Rattle.lexicon.specs.Values.{Digits, last_unit, next_unit}
use Rattle.lexicon.proofs.Groups.{to_row}
use Rattle.lexicon.proofs.Segments.{quote}
use Rattle.form.proofs.Fits.{ink, Sub, Mode, Fits, none, one_of, seq, alt, star, space, units, segments, wide, narrow}

ink_space : never ink sp ≡ true
unfolding never apart apart_span
ink_space = refl

ink_quote : apart ink quote ≡ true
unfolding apart apart_span
ink_quote = refl

-- from i up to j stands ink, and at j a byte of the barrier, which is ink and neither kept nor `_`
module _ (text : List ℕ) (kept barrier : Class) (free : apart kept barrier ≡ true) (plain : apart (any_of "_") barrier ≡ true) (start j : ℕ)
    (run : (x : ℕ) → start ≤ x → x ≤ j → At text ink x) (wall : At text barrier j) where
  byte_stays : (c : Class) {i k : ℕ} → Sub c kept → start ≤ i → i ≤ j → At text c i → k ≡ i + 1 → k ≤ j
  byte_stays c {i} {k} e s h a f = go (dec_le k j)
    where
      go : Dec (k ≤ j) → k ≤ j
      go (yes p) = p
      go (no p) = absurd (apart_no kept barrier _ free (e.into _ a.1) (subst (λ (x : ℕ). In barrier (get_or text x 0)) (omega (arith, p)) wall.1))

  space_stays : {i k : ℕ} → start ≤ i → i ≤ j → Takes text (opt sp) i k → k ≤ j
  space_stays s h (left t) = absurd (never_takes text ink sp ink_space (run _ s h) t)
  space_stays s h (right (nothing e)) = omega arith

  joint_stays : {i k : ℕ} → start ≤ i → i ≤ j → Takes text (opt joint) i k → k ≤ j
  joint_stays {i} {k} s h (left (left (byte a e))) = go (dec_le k j)
    where
      go : Dec (k ≤ j) → k ≤ j
      go (yes p) = p
      go (no p) = absurd (apart_no (any_of "_") barrier _ plain a.1 (subst (λ (x : ℕ). In barrier (get_or text x 0)) (omega (arith, p)) wall.1))
  joint_stays s h (left (right t)) = absurd (never_takes text ink sp ink_space (run _ s h) t)
  joint_stays s h (right (nothing e)) = omega arith

  unit_stays : (n : ℕ) (c : Class) {i k : ℕ} → Sub c kept → start ≤ i → i ≤ j → Takes text (unit n c) i k → k ≤ j
  unit_stays zero c e s h (nothing f) = omega arith
  unit_stays (suc n) c e s h (both (byte a f) u) = unit_stays n c e (omega (arith, s, f)) (byte_stays c e s h a f) u

  row_stays : (n : ℕ) (c : Class) {i k : ℕ} {ds : List ℕ} → Sub c kept → start ≤ i → i ≤ j → Digits text n c i k ds → k ≤ j
  row_stays n c e s h (last_unit u) = unit_stays n c e s h u
  row_stays n c e s h (next_unit u t d) =
      let p = unit_stays n c e s h u in
      let x = forward u in let y = forward t in
      row_stays n c e (omega (arith, s, x, y)) (joint_stays (omega (arith, s, x)) p t) d

  many_stays : {r : Rule} {i k : ℕ} → ((i k : ℕ) → start ≤ i → i ≤ j → Takes text r i k → k ≤ j) → start ≤ i → i ≤ j → Takes text (many r) i k → k ≤ j
  many_stays f s h (stop e) = omega arith
  many_stays f s h (more t u) = let p = f _ _ s h t in let x = forward t in many_stays f (omega (arith, s, x)) p u

  pub stays : {Quotes : Type 0} {m o : Mode} {r : Rule} {i k : ℕ} → Fits kept Quotes m r o → start ≤ i → i ≤ j → Takes text r i k → k ≤ j
  stays none s h (nothing e) = omega arith
  stays (one_of {c = c} e) s h (byte a f) = byte_stays c e s h a f
  stays (seq f g) s h (both t u) = let p = stays f s h t in let x = forward t in stays g (omega (arith, s, x)) p u
  stays (alt f g) s h (left t) = stays f s h t
  stays (alt f g) s h (right t) = stays g s h t
  stays (star f) s h t = many_stays (λ i k a b u. stays f a b u) s h t
  stays space s h t = space_stays s h t
  stays (units n {c = c} e) s h t = row_stays (suc n) c e s h (to_row text (suc n) c t).1
  stays (segments q) s h (both (byte a e) t) = absurd (apart_no ink quote _ ink_quote (run _ s h).1 a.1)
  stays (wide f) s h t = stays f s h t
  stays (narrow f) s h t = stays f s h t
