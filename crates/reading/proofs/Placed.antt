-- The place of a refusal at a token: it is one, not before the token, and a test that holds has one. Assumes nothing.
use mathlib.Core.Path.{◌≡◌, refl, sym, ◌∙◌}
use mathlib.Core.Logic.{inl, inr}
use mathlib.Core.Bool.{Bool, true, false}
use mathlib.Core.List.{List}
use Prim.Native.Nat.{ℕ, ◌≤◌}
use native.Mathlib.Omega.{arith}
use borrow.Author.Tests.{eqb-true, eqb-false}
use lib.Dec.{eqb}
use Rattle.lexicon.specs.declared.Kind.{Kind}
use Rattle.lexicon.specs.declared.Token as Token
use Rattle.lexicon.specs.declared.Next.TheVariants as Next
use Rattle.lexicon.specs.Token.{Bad, BadPlace, Comes}
use Rattle.lexicon.proofs.Places.{one_place, place_from, place_not_none}
use Rattle.grammar.specs.Tokens.{Tok}
use Rattle.grammar.specs.Level.{Level}
use Rattle.reading.specs.declared.Limits.{Limits}
use Rattle.reading.specs.Tests.{First}
use Rattle.reading.specs.Faults.{tests, PlaceOf, of_value, of_token, Fault, at_token}
use Rattle.reading.proofs.Tests.{None, all_fail}

module _ {bytes : List ℕ} {t : Token.Token} where
  pub one_placed : {n p q : ℕ} → PlaceOf bytes t n p → PlaceOf bytes t n q → p ≡ q
  one_placed (of_value e x) (of_value f y) = one_place bytes x y
  one_placed (of_value e x) (of_token k f) = absurd (k e)
  one_placed (of_token k e) (of_value f y) = absurd (k f)
  one_placed (of_token k e) (of_token m f) = e ∙ sym f

  pub placed_from : {n q : ℕ} → PlaceOf bytes t n q → t.first ≤ q
  placed_from (of_value e x) = place_from bytes x
  placed_from (of_token k e) = omega (arith, e)

  -- of every refusal but 5 it is the first byte
  pub placed_first : {n q : ℕ} → (n ≡ 5 → ⊥) → PlaceOf bytes t n q → q ≡ t.first
  placed_first k (of_value e x) = absurd (k e)
  placed_first k (of_token m e) = e

  pub at_first : {n : ℕ} → (n ≡ 5 → ⊥) → PlaceOf bytes t n t.first
  at_first k = of_token k refl

-- every bad value has a place
abbrev pub Places : List ℕ → Type 0
Places bytes = (k : Kind) (i j : ℕ) → Bad bytes k i j → (q : ℕ) × BadPlace bytes k i j q

module _ (limits : Limits) (l : Level) (bytes : List ℕ) where
  -- 5 is given for a bad value only
  pub five_bad : {ts : List Tok} (t : Token.Token) {n : ℕ} → First (tests limits l bytes ts t) n → n ≡ 5 → t.bad ≡ true
  five_bad t (inl x) e = absurd (omega (arith, x.0, e))
  five_bad t (inr (f, inl x)) e = absurd (omega (arith, x.0, e))
  five_bad t (inr (f, inr (g, inl x))) e = absurd (omega (arith, x.0, e))
  five_bad t (inr (f, inr (g, inr (k, inl x)))) e = x.1
  five_bad t (inr (f, inr (g, inr (k, inr (m, inl x))))) e = absurd (omega (arith, x.0, e))
  five_bad t (inr (f, inr (g, inr (k, inr (m, inr x))))) e = absurd x.1

  -- a test that holds is a fault, at some place
  place_or_lem : {P : Type 0} {ts : List Tok} {p n : ℕ} {t : Token.Token} → (Bad bytes t.kind t.first t.end → ((q : ℕ) → BadPlace bytes t.kind t.first t.end q → P) → P) →
      Comes bytes p (Next.Token t) → First (tests limits l bytes ts t) n → ((q : ℕ) → PlaceOf bytes t n q → P) → P
  place_or_lem {P} {n = n} {t = t} f c x k = by (eqb n 5) refl
    where
      by : (b : Bool) → eqb n 5 ≡ b → P
      by true e = let five = eqb-true n 5 e in f (c.3.true_holds (five_bad t x five)) (λ q y. k q (of_value five y))
      by false e = k t.first (at_first (eqb-false n 5 e))

  -- where the places of bad values are found
  pub placed : Places bytes → {ts : List Tok} {p n : ℕ} {t : Token.Token} → Comes bytes p (Next.Token t) → First (tests limits l bytes ts t) n → (q : ℕ) × PlaceOf bytes t n q
  placed places {t = t} c x = place_or_lem (λ b k. let y = places t.kind t.first t.end b in k y.0 y.1) c x (λ q y. (q, y))

  -- so at a token without a fault none holds
  pub no_test_holds : {ts : List Tok} {p : ℕ} {t : Token.Token} → Comes bytes p (Next.Token t) → ((n q : ℕ) → Fault limits l bytes ts p n q → ⊥) → None (tests limits l bytes ts t)
  no_test_holds {ts} {t = t} c k = all_fail (tests limits l bytes ts t) (λ n x. place_or_lem (place_not_none bytes t.kind) c x (λ q y. k n q (at_token c x y)))
