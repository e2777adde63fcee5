-- The numbers that have a property, as a list; and the least of them. Assumes nothing.
use mathlib.Core.Path.{◌≡◌, refl, subst}
use mathlib.Core.Logic.{◌⊎◌, inl, inr, ⊎_elim}
use mathlib.Core.Bool.{Bool, true, false, false≢true}
use mathlib.Core.List.{List, [], ◌∷◌, ◌++◌}
use Prim.Native.Nat.{ℕ, ◌≤◌, min}
use native.Mathlib.Omega.{arith, min_cases}
use Rattle.rules.specs.Test.{Says}
use Rattle.rules.specs.Rule.{Rule, many, Takes, Among}
use Rattle.rules.proofs.Tests.{refuted}
use Rattle.decisions.proofs.Places.{◌∈◌, here, there, first_or_rest, only, in_place, moved, append_left, append_right, in_append}
use Rattle.decisions.proofs.Ends.{ends_at, takes_end, end_among}
use Rattle.decisions.proofs.Cuts.{reaches, takes}

pub record Lists (S : List ℕ) (Q : ℕ → Type 0) : Type 0 where
  pub has : (p : ℕ) → p ∈ S → Q p
  pub listed : (p : ℕ) → Q p → p ∈ S

-- the same in other words
pub in_words : {S : List ℕ} {P Q : ℕ → Type 0} → ((p : ℕ) → P p → Q p) → ((p : ℕ) → Q p → P p) → Lists S P → Lists S Q
in_words f g l = record { has = λ p h. f p (l.has p h); listed = λ p q. l.listed p (g p q) }

pub just_one : (n : ℕ) → Lists (n ∷ []) (λ p. p ≡ n)
just_one n = record { has = λ p h. only p n h; listed = λ p e. in_place p n [] e }

pub either_list : {S T : List ℕ} {P Q : ℕ → Type 0} → Lists S P → Lists T Q → Lists (S ++ T) (λ p. P p ⊎ Q p)
either_list {S} {T} l m =
    record {
      has = λ p h. ⊎_elim (λ x. inl (l.has p x)) (λ x. inr (m.has p x)) (in_append p S T h);
      listed = λ p x. ⊎_elim (λ y. append_left p S T (l.listed p y)) (λ y. append_right p S T (m.listed p y)) x;
    }

-- only if a test says so
abbrev pub only_if : Bool → List ℕ → List ℕ
only_if true S = S
only_if false S = []

pub tested_list : (b : Bool) {P : Type 0} {S : List ℕ} {Q : ℕ → Type 0} → Says b P → Lists S Q → Lists (only_if b S) (λ p. P × Q p)
tested_list true s l = record { has = λ p h. (s.true_holds refl, l.has p h); listed = λ p x. l.listed p x.1 }
tested_list false s l = record { has = λ p h. absurd (false≢true h); listed = λ p x. absurd (refuted s refl x.0) }

-- ---- behind a match

-- the lists of all of these
abbrev pub gather : (ℕ → List ℕ) → List ℕ → List ℕ
gather f [] = []
gather f (s ∷ S) = f s ++ gather f S

record Within (f : ℕ → List ℕ) (S : List ℕ) (p : ℕ) : Type 0 where
  place : ℕ
  among : place ∈ S
  holds : p ∈ f place

gather_within : (f : ℕ → List ℕ) (S : List ℕ) (p : ℕ) → p ∈ gather f S → Within f S p
gather_within f [] p h = absurd (false≢true h)
gather_within f (s ∷ S) p h = go (in_append p (f s) (gather f S) h) (λ x. gather_within f S p x)
  where
    go : (p ∈ f s) ⊎ (p ∈ gather f S) → (p ∈ gather f S → Within f S p) → Within f (s ∷ S) p
    go (inl x) g = record { place = s; among = here s S; holds = x }
    go (inr x) g = let y = g x in record { place = y.place; among = there y.place s S y.among; holds = y.holds }

within_gather : (f : ℕ → List ℕ) (S : List ℕ) (k p : ℕ) → k ∈ S → p ∈ f k → p ∈ gather f S
within_gather f [] k p h x = absurd (false≢true h)
within_gather f (s ∷ S) k p h x =
    ⊎_elim (λ e. append_left p (f s) (gather f S) (subst (λ (y : ℕ). p ∈ f y) e x)) (λ e. append_right p (f s) (gather f S) (within_gather f S k p e x))
    (first_or_rest k s S h)

module _ (text : List ℕ) where
  abbrev pub behind : Rule → ℕ → (ℕ → List ℕ) → List ℕ
  behind r i f = gather f (ends_at text r i)

  pub behind_list : (r : Rule) (i : ℕ) (f : ℕ → List ℕ) (Q : ℕ → ℕ → Type 0) → ((k : ℕ) → Takes text r i k → Lists (f k) (Q k)) → Lists (behind r i f) (λ p. (k : ℕ) × Takes text r i k × Q k p)
  behind_list r i f Q l = record { has = has; listed = λ p x. within_gather f (ends_at text r i) x.0 p (end_among text r i x.0 x.1) ((l x.0 x.1).listed p x.2) }
    where
      has : (p : ℕ) → p ∈ behind r i f → (k : ℕ) × Takes text r i k × Q k p
      has p h =
          let x = gather_within f (ends_at text r i) p h in
          let t = takes_end text r i x.place x.among in
          (x.place, t, (l x.place t).has p x.holds)

  -- of one of the matches that a row consists of
  abbrev pub in_row : Rule → (ℕ → ℕ → List ℕ) → ℕ → ℕ → List ℕ
  in_row r f i j = behind (many r) i (λ x. behind r x (λ y. only_if (reaches text (many r) y j) (f x y)))

  pub row_list : (r : Rule) (f : ℕ → ℕ → List ℕ) (P : ℕ → ℕ → ℕ → Type 0) → ((x y : ℕ) → Lists (f x y) (P x y)) → (i j : ℕ) → Lists (in_row r f i j) (λ p. Among text r (λ x y. P x y p) i j)
  row_list r f P l i j =
      in_words (λ p x. record { from = x.0; upto = x.2.0; before = x.1; match = x.2.1; holds = x.2.2.1; behind = x.2.2.0 })
      (λ p a. (a.from, a.before, (a.upto, a.match, (a.behind, a.holds))))
      (behind_list (many r) i (λ x. behind r x (λ y. only_if (reaches text (many r) y j) (f x y))) (λ x p. (y : ℕ) × Takes text r x y × (Takes text (many r) y j × P x y p))
      (λ x t.
      behind_list r x (λ y. only_if (reaches text (many r) y j) (f x y)) (λ y p. Takes text (many r) y j × P x y p)
      (λ y u. tested_list (reaches text (many r) y j) (takes text (many r) y j) (l x y))))

-- ---- the least

abbrev pub least_of : List ℕ → ℕ
least_of [] = 0
least_of (s ∷ []) = s
least_of (s ∷ t ∷ S) = min s (least_of (t ∷ S))

pub record Least (Q : ℕ → Type 0) (p : ℕ) : Type 0 where
  pub holds : Q p
  pub most : (q : ℕ) → Q q → p ≤ q

least_in : (s : ℕ) (S : List ℕ) → least_of (s ∷ S) ∈ s ∷ S
least_in s [] = here s []
least_in s (t ∷ S) =
    min_cases s (least_of (t ∷ S)) (least_of (s ∷ t ∷ S) ∈ s ∷ t ∷ S)
    (λ h e. in_place _ s (t ∷ S) e)
    (λ h e. there _ s (t ∷ S) (moved _ (least_of (t ∷ S)) (t ∷ S) e (least_in t S)))

least_most : (S : List ℕ) (q : ℕ) → q ∈ S → least_of S ≤ q
least_most [] q h = absurd (false≢true h)
least_most (s ∷ []) q h = omega (arith, only q s h)
least_most (s ∷ t ∷ S) q h =
    ⊎_elim (λ e. omega (arith, e)) (λ x. omega (arith, least_most (t ∷ S) q x)) (first_or_rest q s (t ∷ S) h)

pub least_is : {S : List ℕ} {Q : ℕ → Type 0} → Lists S Q → {q : ℕ} → Q q → Least Q (least_of S)
least_is {S} {Q} l {q} x = go S l (l.listed q x)
  where
    go : (S : List ℕ) → Lists S Q → q ∈ S → Least Q (least_of S)
    go [] l h = absurd (false≢true h)
    go (s ∷ S) l h = record { holds = l.has (least_of (s ∷ S)) (least_in s S); most = λ p y. least_most (s ∷ S) p (l.listed p y) }
