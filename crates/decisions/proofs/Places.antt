-- Places as a list in which none stands twice. Assumes nothing.
use mathlib.Core.Path.{◌≡◌, refl, sym, subst}
use mathlib.Core.Logic.{◌⊎◌, inl, inr, ⊎_elim}
use mathlib.Core.Bool.{Bool, true, false, ◌||◌, false≢true}
use mathlib.Core.List.{List, [], ◌∷◌, ◌++◌}
use Prim.Native.Nat.{ℕ}
use borrow.Author.Tests.{eqb-true, eq-eqb}
use lib.Dec.{eqb}
use Rattle.rules.proofs.Bools.{or_cases, or_left, or_right, decide, clash}

abbrev pub member : ℕ → List ℕ → Bool
member k [] = false
member k (s ∷ S) = eqb k s || member k S

infix 40 ◌∈◌
abbrev pub ◌∈◌ : ℕ → List ℕ → Type 0
k ∈ S = member k S ≡ true

abbrev pub keep : Bool → ℕ → List ℕ → List ℕ
keep true s S = s ∷ S
keep false s S = S

abbrev pub union : List ℕ → List ℕ → List ℕ
union [] T = T
union (s ∷ S) T = elim (member s T) [ true ↦ union S T | false ↦ s ∷ union S T ]

-- those of the first that are not in the second
abbrev pub minus : List ℕ → List ℕ → List ℕ
minus [] T = []
minus (s ∷ S) T = elim (member s T) [ true ↦ minus S T | false ↦ s ∷ minus S T ]

pub here : (s : ℕ) (S : List ℕ) → s ∈ s ∷ S
here s S = or_left (eqb s s) (member s S) (eq-eqb s s refl)

pub there : (k s : ℕ) (S : List ℕ) → k ∈ S → k ∈ s ∷ S
there k s S h = or_right (eqb k s) (member k S) h

pub first_or_rest : (k s : ℕ) (S : List ℕ) → k ∈ s ∷ S → (k ≡ s) ⊎ (k ∈ S)
first_or_rest k s S h = ⊎_elim (λ e. inl (eqb-true k s e)) (λ e. inr e) (or_cases (eqb k s) (member k S) h)

pub only : (k s : ℕ) → k ∈ s ∷ [] → k ≡ s
only k s h = ⊎_elim (λ e. e) (λ e. absurd (false≢true e)) (first_or_rest k s [] h)

pub in_place : (k s : ℕ) (S : List ℕ) → k ≡ s → k ∈ s ∷ S
in_place k s S e = or_left (eqb k s) (member k S) (eq-eqb k s e)

pub moved : (k s : ℕ) (S : List ℕ) → k ≡ s → s ∈ S → k ∈ S
moved k s S e h = subst (λ (x : ℕ). x ∈ S) (sym e) h

pub append_left : (k : ℕ) (S T : List ℕ) → k ∈ S → k ∈ S ++ T
append_left k [] T h = absurd (false≢true h)
append_left k (s ∷ S) T h = ⊎_elim (λ e. in_place k s (S ++ T) e) (λ e. there k s (S ++ T) (append_left k S T e)) (first_or_rest k s S h)

pub append_right : (k : ℕ) (S T : List ℕ) → k ∈ T → k ∈ S ++ T
append_right k [] T h = h
append_right k (s ∷ S) T h = there k s (S ++ T) (append_right k S T h)

pub in_append : (k : ℕ) (S T : List ℕ) → k ∈ S ++ T → (k ∈ S) ⊎ (k ∈ T)
in_append k [] T h = inr h
in_append k (s ∷ S) T h =
    ⊎_elim (λ e. inl (in_place k s S e)) (λ e. ⊎_elim (λ x. inl (there k s S x)) (λ x. inr x) (in_append k S T e)) (first_or_rest k s (S ++ T) h)

-- one place more, unless it is there
abbrev unless : Bool → ℕ → List ℕ → List ℕ
unless b s S = elim b [ true ↦ S | false ↦ s ∷ S ]

unless_in : (b : Bool) (k s : ℕ) (S : List ℕ) → k ∈ unless b s S → (k ≡ s) ⊎ (k ∈ S)
unless_in true k s S h = inr h
unless_in false k s S h = first_or_rest k s S h

unless_rest : (b : Bool) (k s : ℕ) (S : List ℕ) → k ∈ S → k ∈ unless b s S
unless_rest true k s S h = h
unless_rest false k s S h = there k s S h

unless_here : (b : Bool) (k s : ℕ) (S : List ℕ) → k ≡ s → b ≡ false → k ∈ unless b s S
unless_here true k s S e h = absurd (clash refl h)
unless_here false k s S e h = in_place k s S e

pub in_union : (k : ℕ) (S T : List ℕ) → k ∈ union S T → (k ∈ S) ⊎ (k ∈ T)
in_union k [] T h = inr h
in_union k (s ∷ S) T h =
    ⊎_elim (λ e. inl (in_place k s S e)) (λ e. ⊎_elim (λ x. inl (there k s S x)) (λ x. inr x) (in_union k S T e))
    (unless_in (member s T) k s (union S T) h)

pub union_right : (k : ℕ) (S T : List ℕ) → k ∈ T → k ∈ union S T
union_right k [] T h = h
union_right k (s ∷ S) T h = unless_rest (member s T) k s (union S T) (union_right k S T h)

pub union_left : (k : ℕ) (S T : List ℕ) → k ∈ S → k ∈ union S T
union_left k [] T h = absurd (false≢true h)
union_left k (s ∷ S) T h =
    ⊎_elim
    (λ e.
    ⊎_elim (λ x. unless_rest (member s T) k s (union S T) (union_right k S T (moved k s T e x))) (λ x. unless_here (member s T) k s (union S T) e x)
    (decide (member s T)))
    (λ e. unless_rest (member s T) k s (union S T) (union_left k S T e))
    (first_or_rest k s S h)

pub in_minus : (k : ℕ) (S T : List ℕ) → k ∈ minus S T → k ∈ S
in_minus k [] T h = h
in_minus k (s ∷ S) T h = ⊎_elim (λ e. in_place k s S e) (λ e. there k s S (in_minus k S T e)) (unless_in (member s T) k s (minus S T) h)

pub minus_or : (k : ℕ) (S T : List ℕ) → k ∈ S → (k ∈ minus S T) ⊎ (k ∈ T)
minus_or k [] T h = absurd (false≢true h)
minus_or k (s ∷ S) T h =
    ⊎_elim
    (λ e. ⊎_elim (λ x. inr (moved k s T e x)) (λ x. inl (unless_here (member s T) k s (minus S T) e x)) (decide (member s T)))
    (λ e. ⊎_elim (λ x. inl (unless_rest (member s T) k s (minus S T) x)) (λ x. inr x) (minus_or k S T e))
    (first_or_rest k s S h)
