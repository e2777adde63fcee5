-- Whether a rule takes a text from one place to another, whether a match of it begins, and whether a place that it leads to passes a test.
-- Assumes nothing.
use mathlib.Core.Path.{◌≡◌, subst}
use mathlib.Core.Logic.{◌⊎◌, inl, inr, ⊎_elim}
use mathlib.Core.Bool.{Bool, true, false, ◌&&◌, ◌||◌, false≢true}
use mathlib.Core.List.{List, [], ◌∷◌}
use Prim.Native.Nat.{ℕ}
use Rattle.rules.specs.Test.{Says}
use Rattle.rules.specs.Rule.{Rule, many, Takes, Fails, Among}
use Rattle.rules.proofs.Bools.{or_cases, or_left, or_right}
use Rattle.rules.proofs.Tests.{refuted, says_yes}
use Rattle.decisions.proofs.Tests.{by, and}
use Rattle.decisions.proofs.Places.{member, ◌∈◌, here, there, first_or_rest}
use Rattle.decisions.proofs.Ends.{ends_at, takes_end, end_among}

-- one of a list of places passes
abbrev pub any : (ℕ → Bool) → List ℕ → Bool
any f [] = false
any f (s ∷ S) = f s || any f S

record Found (f : ℕ → Bool) (S : List ℕ) : Type 0 where
  place : ℕ
  among : place ∈ S
  passes : f place ≡ true

any_found : (f : ℕ → Bool) (S : List ℕ) → any f S ≡ true → Found f S
any_found f [] e = absurd (false≢true e)
any_found f (s ∷ S) e = go (or_cases (f s) (any f S) e) (λ x. any_found f S x)
  where
    go : (f s ≡ true) ⊎ (any f S ≡ true) → (any f S ≡ true → Found f S) → Found f (s ∷ S)
    go (inl x) g = record { place = s; among = here s S; passes = x }
    go (inr x) g = let y = g x in record { place = y.place; among = there y.place s S y.among; passes = y.passes }

found_any : (f : ℕ → Bool) (S : List ℕ) (k : ℕ) → k ∈ S → f k ≡ true → any f S ≡ true
found_any f [] k h e = h
found_any f (s ∷ S) k h e =
    ⊎_elim (λ x. or_left (f s) (any f S) (subst (λ (y : ℕ). f y ≡ true) x e)) (λ x. or_right (f s) (any f S) (found_any f S k x e)) (first_or_rest k s S h)

module _ (text : List ℕ) where
  abbrev pub reaches : Rule → ℕ → ℕ → Bool
  reaches r i j = member j (ends_at text r i)

  pub takes : (r : Rule) (i j : ℕ) → Says (reaches r i j) (Takes text r i j)
  takes r i j = record { true_holds = λ e. takes_end text r i j e; holds_true = λ t. end_among text r i j t }

  -- a place that a match of the rule leads to passes
  abbrev pub leads : Rule → ℕ → (ℕ → Bool) → Bool
  leads r i f = any f (ends_at text r i)

  pub cut : (r : Rule) (i : ℕ) (f : ℕ → Bool) (P : ℕ → Type 0) → ((k : ℕ) → Takes text r i k → Says (f k) (P k)) → Says (leads r i f) ((k : ℕ) × Takes text r i k × P k)
  cut r i f P s = record { true_holds = yes; holds_true = λ x. found_any f (ends_at text r i) x.0 (end_among text r i x.0 x.1) ((s x.0 x.1).holds_true x.2) }
    where
      yes : leads r i f ≡ true → (k : ℕ) × Takes text r i k × P k
      yes e =
          let x = any_found f (ends_at text r i) e in
          let t = takes_end text r i x.place x.among in
          (x.place, t, (s x.place t).true_holds x.passes)

  -- a match of the rule begins
  abbrev pub begins : Rule → ℕ → Bool
  begins r i = leads r i (λ _. true)

  pub begun : (r : Rule) (i : ℕ) → Says (begins r i) ((k : ℕ) × Takes text r i k)
  begun r i = by (λ x. (x.0, x.1)) (λ x. (x.0, x.1, tt)) (cut r i (λ _. true) (λ _. Unit {0}) (λ _ _. says_yes tt))

  pub none_begins_lem : {r : Rule} {i : ℕ} → begins r i ≡ false → Fails text r i
  none_begins_lem {r} {i} e = record { none = λ {k} t. refuted (begun r i) e (k, t) }

  -- one of the matches that a row of them consists of passes
  abbrev pub leads_among : Rule → (ℕ → ℕ → Bool) → ℕ → ℕ → Bool
  leads_among r f i j = leads (many r) i (λ x. leads r x (λ y. f x y && reaches (many r) y j))

  pub among : (r : Rule) (f : ℕ → ℕ → Bool) (P : ℕ → ℕ → Type 0) → ((x y : ℕ) → Says (f x y) (P x y)) → (i j : ℕ) → Says (leads_among r f i j) (Among text r P i j)
  among r f P s i j =
      by (λ x. record { from = x.0; upto = x.2.0; before = x.1; match = x.2.1; holds = x.2.2.0; behind = x.2.2.1 })
      (λ a. (a.from, a.before, (a.upto, a.match, (a.holds, a.behind))))
      (cut (many r) i (λ x. leads r x (λ y. f x y && reaches (many r) y j)) (λ x. (y : ℕ) × Takes text r x y × (P x y × Takes text (many r) y j))
      (λ x t. cut r x (λ y. f x y && reaches (many r) y j) (λ y. P x y × Takes text (many r) y j) (λ y u. and (s x y) (takes (many r) y j))))
