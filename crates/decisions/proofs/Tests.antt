-- Tests put together: each says whether something holds. Assumes nothing.
use mathlib.Core.Path.{◌≡◌, refl, ap, ◌∙◌}
use mathlib.Core.Logic.{◌⊎◌, inl, inr, ⊎_elim}
use mathlib.Core.Bool.{Bool, true, false, not, ◌&&◌, ◌||◌}
use mathlib.Core.List.{List, [], ◌∷◌}
use Prim.Native.Nat.{ℕ, ◌≤◌, ◌<◌}
use native.Mathlib.Omega.{arith}
use borrow.Author.Tests.{leb-true, ltb-true, eqb-true, eq-eqb, le-leb, lt-ltb}
use lib.Dec.{leb, ltb, eqb}
use lib.ListN.{length, get_or, drop}
use Rattle.rules.specs.Test.{Says}
use Rattle.rules.proofs.Bools.{and_left, and_right, and_both, or_cases, or_left, or_right, decide, not_both}
use Rattle.rules.proofs.Tests.{says_no, says_yes, refuted}
use Rattle.lexicon.specs.declared.Base.{Base}
use Rattle.lexicon.specs.declared.Base.TheVariants.{Two, Eight, Ten, Sixteen}

-- the same in other words
pub by : {b : Bool} {P Q : Type 0} → (P → Q) → (Q → P) → Says b P → Says b Q
by f g s = record { true_holds = λ e. f (s.true_holds e); holds_true = λ q. s.holds_true (g q) }

pub and : {a b : Bool} {P Q : Type 0} → Says a P → Says b Q → Says (a && b) (P × Q)
and {a} {b} s t =
    record {
      true_holds = λ e. (s.true_holds (and_left a b e), t.true_holds (and_right a b e));
      holds_true = λ x. and_both a b (s.holds_true x.0) (t.holds_true x.1);
    }

pub either : {a b : Bool} {P Q : Type 0} → Says a P → Says b Q → Says (a || b) (P ⊎ Q)
either {a} {b} s t =
    record {
      true_holds = λ e. ⊎_elim (λ x. inl (s.true_holds x)) (λ x. inr (t.true_holds x)) (or_cases a b e);
      holds_true = λ x. ⊎_elim (λ p. or_left a b (s.holds_true p)) (λ q. or_right a b (t.holds_true q)) x;
    }

unless : (b : Bool) → (b ≡ true → ⊥) → not b ≡ true
unless true n = absurd (n refl)
unless false n = refl

pub denied : {b : Bool} {P : Type 0} → Says b P → Says (not b) (P → ⊥)
denied {b} s = record { true_holds = λ e p. not_both b (s.holds_true p) e; holds_true = λ n. unless b (λ e. n (s.true_holds e)) }

-- what a test says is settled
pub settled : {b : Bool} {P : Type 0} → Says b P → P ⊎ (P → ⊥)
settled {b} s = ⊎_elim (λ e. inl (s.true_holds e)) (λ e. inr λ p. refuted s e p) (decide b)

-- ---- numbers

pub at_most : (a b : ℕ) → Says (leb a b) (a ≤ b)
at_most a b = record { true_holds = λ e. leb-true a b e; holds_true = λ h. le-leb a b h }

pub below : (a b : ℕ) → Says (ltb a b) (a < b)
below a b = record { true_holds = λ e. ltb-true a b e; holds_true = λ h. lt-ltb a b h }

pub equal : (a b : ℕ) → Says (eqb a b) (a ≡ b)
equal a b = record { true_holds = λ e. eqb-true a b e; holds_true = λ h. eq-eqb a b h }

-- ---- lists of numbers

abbrev pub same_as : List ℕ → List ℕ → Bool
same_as [] [] = true
same_as [] (d ∷ ds) = false
same_as (e ∷ es) [] = false
same_as (e ∷ es) (d ∷ ds) = eqb d e && same_as es ds

pub same_as_lem : (es ds : List ℕ) → Says (same_as es ds) (ds ≡ es)
same_as_lem [] [] = says_yes refl
same_as_lem [] (d ∷ ds) = says_no (λ e. omega (arith, ap length e))
same_as_lem (e ∷ es) [] = says_no (λ x. omega (arith, ap length x))
same_as_lem (e ∷ es) (d ∷ ds) =
    by
    (λ x. ap (λ (n : ℕ). n ∷ ds) x.0 ∙ ap (λ (l : List ℕ). e ∷ l) x.1)
    (λ x. (ap (λ (l : List ℕ). get_or l 0 0) x, ap (λ (l : List ℕ). drop 1 l) x))
    (and (equal d e) (same_as_lem es ds))

-- ---- bases

abbrev pub any_base : (Base → Bool) → Bool
any_base f = f Two || (f Eight || (f Ten || f Sixteen))

pub of_any : (f : Base → Bool) (P : Base → Type 0) → ((b : Base) → Says (f b) (P b)) → Says (any_base f) ((b : Base) × P b)
of_any f P s = by to from (either (s Two) (either (s Eight) (either (s Ten) (s Sixteen))))
  where
    to : P Two ⊎ (P Eight ⊎ (P Ten ⊎ P Sixteen)) → (b : Base) × P b
    to (inl x) = (Two, x)
    to (inr (inl x)) = (Eight, x)
    to (inr (inr (inl x))) = (Ten, x)
    to (inr (inr (inr x))) = (Sixteen, x)

    from : (b : Base) × P b → P Two ⊎ (P Eight ⊎ (P Ten ⊎ P Sixteen))
    from (Two, x) = inl x
    from (Eight, x) = inr (inl x)
    from (Ten, x) = inr (inr (inl x))
    from (Sixteen, x) = inr (inr (inr x))
