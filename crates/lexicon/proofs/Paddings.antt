-- How `=` stands among base-64 characters, one character after the other: a machine, and that it tells `Fit`. Its states: 0 at the start; a
-- character's byte and 4 while no `=` has come; behind the first `=` 1 if one more may come, 2 if none may; 3 once the characters so far
-- encode no bytes: too many `=` for the bits before them, or another character behind a `=`. Assumes nothing.
use mathlib.Core.Path.{◌≡◌, refl, sym, ap, subst, subst⁻¹, ◌∙◌}
use mathlib.Core.Logic.{◌⊎◌, inl, inr}
use mathlib.Core.Bool.{Bool, true, false, cond}
use mathlib.Core.List.{List, [], ◌∷◌, ◌++◌, foldl}
use Prim.Native.Nat.{ℕ, zero, suc, ◌+◌, ◌-◌, ◌%◌, ◌^◌, ◌≤◌, ◌<◌}
use native.Mathlib.Decide.{ℕ_discrete}
use native.Mathlib.Omega.{arith}
use lib.Dec.{leb, eqb}
use lib.ListN.{replicate}
use borrow.Author.Tests.{le-leb, lt-leb, eq-eqb, ne_eqb, eqb-true}
use Rattle.rules.specs.Class.{byte_of}
use Rattle.rules.specs.Test.{Says}
use Rattle.rules.specs.Every.{Every, none, also}
use Rattle.lexicon.specs.Parts.{sextet}
use Rattle.lexicon.proofs.Fit.{FitFrom, Fit, fit_nothing, last_from}
use Rattle.lexicon.proofs.Expansions.{same_cons}
use Rattle.lexicon.proofs.Encodings.{NoPad}

-- the characters so far encode no bytes
abbrev pub unfit : ℕ
unfit = 3

-- behind the first `=`, by the value of the character before it: each `=` wants two bits of it to be zero
unfoldable pub opened : ℕ → ℕ
opened v = cond (eqb (v % 16) 0) 1 (cond (eqb (v % 4) 0) 2 unfit)

-- the state behind a `=` more
unfoldable pub pad : ℕ → ℕ
pad s = cond (leb 4 s) (opened (sextet (s - 4))) (cond (leb s 2) (s + 1) s)

-- the state behind a character more
unfoldable pub next_state_of : ℕ → ℕ → ℕ
next_state_of s b = cond (eqb b (byte_of "=")) (pad s) (cond (leb 4 s) (b + 4) (cond (eqb s 0) (b + 4) unfit))

abbrev pub run : ℕ → List ℕ → ℕ
run s ds = foldl next_state_of s ds

-- ---- one character

module _ (v : ℕ) where
  pub opened_one : v % 16 ≡ 0 → 1 ≡ opened v
  unfolding opened
  opened_one e = rw (eq-eqb (v % 16) 0 e) refl

  pub opened_two : (v % 16 ≡ 0 → ⊥) → v % 4 ≡ 0 → 2 ≡ opened v
  unfolding opened
  opened_two n e = rw (ne_eqb (v % 16) 0 n, eq-eqb (v % 4) 0 e) refl

  pub opened_unfit : (v % 4 ≡ 0 → ⊥) → unfit ≡ opened v
  unfolding opened
  opened_unfit n = rw (ne_eqb (v % 16) 0 (λ e. n (omega (arith, e))), ne_eqb (v % 4) 0 n) refl

  opened_range : (1 ≤ opened v) × (opened v ≤ unfit)
  unfolding opened
  opened_range = by (eqb (v % 16) 0) (eqb (v % 4) 0)
    where
      by : (a b : Bool) → (1 ≤ cond a 1 (cond b 2 unfit)) × (cond a 1 (cond b 2 unfit) ≤ unfit)
      by true b = omega arith
      by false true = omega arith
      by false false = omega arith

module _ (s : ℕ) where
  pub pad_first : (v r : ℕ) → 4 ≤ s → v ≡ sextet (s - 4) → r ≡ opened v → r ≡ pad s
  unfolding pad
  pad_first v r h e f = rw (le-leb 4 s h) (f ∙ ap opened e)

  pub pad_next : s < unfit → s + 1 ≡ pad s
  unfolding pad
  pad_next h = rw (lt-leb 4 s (omega (arith, h)), le-leb s 2 (omega (arith, h))) refl

  pub pad_stays : s < 4 → unfit ≤ s → s ≡ pad s
  unfolding pad
  pad_stays h l = rw (lt-leb 4 s h, lt-leb s 2 l) refl

  module _ (b : ℕ) where
    pub state_pad : (r : ℕ) → b ≡ 0x3D → r ≡ pad s → r ≡ next_state_of s b
    unfolding next_state_of
    state_pad r e f = rw (eq-eqb b 0x3D e) f

    pub state_character : (b ≡ 0x3D → ⊥) → 4 ≤ s → b + 4 ≡ next_state_of s b
    unfolding next_state_of
    state_character n h = rw (ne_eqb b 0x3D n, le-leb 4 s h) refl

    pub state_first : (b ≡ 0x3D → ⊥) → s ≡ 0 → b + 4 ≡ next_state_of s b
    unfolding next_state_of
    state_first n e = rw (ne_eqb b 0x3D n, e) refl

    pub state_unfit : (b ≡ 0x3D → ⊥) → s < 4 → (s ≡ 0 → ⊥) → unfit ≡ next_state_of s b
    unfolding next_state_of
    state_unfit n h m = rw (ne_eqb b 0x3D n, lt-leb 4 s h, ne_eqb s 0 m) refl

-- ---- the state behind it

step : (s d : ℕ) (ds : List ℕ) {t : ℕ} → t ≡ next_state_of s d → run s (d ∷ ds) ≡ run t ds
step s d ds e = ap (λ (x : ℕ). run x ds) (sym e)

next_pad : (s d : ℕ) (ds : List ℕ) → d ≡ 0x3D → s < unfit → run s (d ∷ ds) ≡ run (s + 1) ds
next_pad s d ds e h = step s d ds (state_pad s d (s + 1) e (pad_next s h))

-- what encodes no bytes does so with any character more
stays : (ds : List ℕ) → run unfit ds ≡ unfit
stays [] = refl
stays (d ∷ ds) = by (ℕ_discrete d 0x3D) (stays ds)
  where
    by : Dec (d ≡ 0x3D) → run unfit ds ≡ unfit → run unfit (d ∷ ds) ≡ unfit
    by (yes e) h = step unfit d ds (state_pad unfit d unfit e (pad_stays unfit (omega arith) (omega arith))) ∙ h
    by (no n) h = step unfit d ds (state_unfit unfit d n (omega arith) (λ e. omega (arith, e))) ∙ h

-- no `=` has come
abbrev Before : ℕ → Type 0
Before s = (s ≡ 0) ⊎ (4 ≤ s)

-- the value of the last character
abbrev last : ℕ → ℕ
last s = cond (leb 4 s) (sextet (s - 4)) 0

last_is : (d : ℕ) → last (d + 4) ≡ sextet d
last_is d = rw (le-leb 4 (d + 4) (omega arith)) (ap sextet (omega arith))

first_pad : (s d : ℕ) (ds : List ℕ) → d ≡ 0x3D → Before s → run s (d ∷ ds) ≡ run (opened (last s)) ds
unfolding pad opened
first_pad s d ds e b = step s d ds (state_pad s d (opened (last s)) e (by b))
  where
    by : Before s → opened (last s) ≡ pad s
    by (inl z) = rw z refl
    by (inr h) = rw (le-leb 4 s h) refl

character : (s d : ℕ) (ds : List ℕ) → (d ≡ 0x3D → ⊥) → Before s → run s (d ∷ ds) ≡ run (d + 4) ds
character s d ds n (inl e) = step s d ds (state_first s d n e)
character s d ds n (inr h) = step s d ds (state_character s d n h)

-- ---- behind the first `=`: nothing but `=`, and few

record Pads (t : ℕ) (ds : List ℕ) : Type 0 where
  count : ℕ
  are : ds ≡ replicate count 0x3D
  few : t + count ≤ 2

good_pads : (t : ℕ) (ds : List ℕ) → 1 ≤ t → t ≤ unfit → (run t ds ≡ unfit → ⊥) → Pads t ds
good_pads t [] l h g = record { count = 0; are = refl; few = omega (arith, h, g) }
good_pads t (d ∷ ds) l h g = by (ℕ_discrete t unfit) (ℕ_discrete d 0x3D) (λ x y. good_pads (t + 1) ds x y)
  where
    by : Dec (t ≡ unfit) → Dec (d ≡ 0x3D) → (1 ≤ t + 1 → t + 1 ≤ unfit → (run (t + 1) ds ≡ unfit → ⊥) → Pads (t + 1) ds) → Pads t (d ∷ ds)
    by (yes m) x r = absurd (g (ap (λ (s : ℕ). run s (d ∷ ds)) m ∙ stays (d ∷ ds)))
    by (no m) (no n) r = absurd (g (step t d ds (state_unfit t d n (omega (arith, h)) (λ e. omega (arith, e, l))) ∙ stays ds))
    by (no m) (yes e) r =
        let p = r (omega arith) (omega (arith, m, h)) (λ x. g (next_pad t d ds e (omega (arith, m, h)) ∙ x)) in
        record { count = suc p.count; are = same_cons e p.are; few = omega (arith, p.few) }

-- the same of rows of `=`
pads_good : (t n : ℕ) → t + n ≤ 2 → run t (replicate n 0x3D) ≡ t + n
pads_good t zero h = omega arith
pads_good t (suc n) h = next_pad t 0x3D (replicate n 0x3D) refl (omega arith) ∙ pads_good (t + 1) n (omega arith) ∙ omega arith

-- ---- the bits of the last character

-- those of each `=` are zero
zeros : (v n : ℕ) → opened v + n ≤ 2 → v % 4 ^ suc n ≡ 0
zeros v n h = by (ℕ_discrete (v % 16) 0) (ℕ_discrete (v % 4) 0) n h
  where
    by : Dec (v % 16 ≡ 0) → Dec (v % 4 ≡ 0) → (n : ℕ) → opened v + n ≤ 2 → v % 4 ^ suc n ≡ 0
    by (yes e) x zero h = omega (arith, e)
    by (yes e) x (suc zero) h = e
    by (yes e) x (suc (suc n)) h = absurd (omega (arith, opened_one v e, h))
    by (no m) (yes e) zero h = e
    by (no m) (yes e) (suc n) h = absurd (omega (arith, opened_two v m e, h))
    by (no m) (no o) n h = absurd (omega (arith, opened_unfit v o, h))

few : (v n : ℕ) → n ≤ 1 → v % 4 ^ suc n ≡ 0 → opened v + n ≤ 2
few v zero h e = by (ℕ_discrete (v % 16) 0)
  where
    by : Dec (v % 16 ≡ 0) → opened v + 0 ≤ 2
    by (yes f) = omega (arith, opened_one v f)
    by (no m) = omega (arith, opened_two v m e)
few v (suc zero) h e = omega (arith, opened_one v e)
few v (suc (suc n)) h e = absurd (omega arith)

-- ---- from the front, behind a character of value v

good_fit : (s : ℕ) (ds : List ℕ) → Before s → (run s ds ≡ unfit → ⊥) → FitFrom (last s) ds
good_fit s [] b g = fit_nothing
good_fit s (d ∷ ds) b g = by (ℕ_discrete d 0x3D) (good_fit (d + 4) ds (inr (omega arith)))
  where
    by : Dec (d ≡ 0x3D) → ((run (d + 4) ds ≡ unfit → ⊥) → FitFrom (last (d + 4)) ds) → FitFrom (last s) (d ∷ ds)
    by (yes e) r =
        let o = opened_range (last s) in
        let p = good_pads (opened (last s)) ds o.0 o.1 (λ x. g (first_pad s d ds e b ∙ x)) in
        record {
          characters = [];
          padding = suc p.count;
          are = same_cons e p.are;
          no_pad = none;
          at_most_two = omega (arith, p.few, o);
          left_over = zeros (last s) p.count p.few;
        }
    by (no n) r =
        let f = r (λ x. g (character s d ds n b ∙ x)) in
        record {
          characters = d ∷ f.characters;
          padding = f.padding;
          are = ap (λ (l : List ℕ). d ∷ l) f.are;
          no_pad = also n f.no_pad;
          at_most_two = f.at_most_two;
          left_over = subst (λ (v : ℕ). last_from v f.characters % 4 ^ f.padding ≡ 0) (last_is d) f.left_over;
        }

fit_good : (s : ℕ) (cs : List ℕ) (n : ℕ) → Before s → Every NoPad cs → n ≤ 2 → last_from (last s) cs % 4 ^ n ≡ 0 → run s (cs ++ replicate n 0x3D) ≡ unfit → ⊥
fit_good s [] zero (inl e) a h l u = omega (arith, e, u)
fit_good s [] zero (inr e) a h l u = omega (arith, e, u)
fit_good s [] (suc n) b a h l u =
    let x = few (last s) n (omega (arith, h)) l in
    omega (arith, first_pad s 0x3D (replicate n 0x3D) refl b ∙ pads_good (opened (last s)) n x, x, u)
fit_good s (c ∷ cs) n b (also m a) h l u =
    fit_good (c + 4) cs n (inr (omega arith)) a h (subst⁻¹ (λ (v : ℕ). last_from v cs % 4 ^ n ≡ 0) (last_is c) l) (sym (character s c (cs ++ replicate n 0x3D) m b) ∙ u)

-- ---- the test

pub unfit_says : (ds : List ℕ) → Says (eqb (run 0 ds) unfit) (Fit ds → ⊥)
unfit_says ds =
    record {
      true_holds = λ e f. fit_good 0 f.characters f.padding (inl refl) f.no_pad f.at_most_two f.left_over (sym (ap (run 0) f.are) ∙ eqb-true (run 0 ds) unfit e);
      holds_true = λ n. by (ℕ_discrete (run 0 ds) unfit) n;
    }
  where
    by : Dec (run 0 ds ≡ unfit) → (Fit ds → ⊥) → eqb (run 0 ds) unfit ≡ true
    by (yes e) n = eq-eqb (run 0 ds) unfit e
    by (no m) n = absurd (n (good_fit 0 ds (inl refl) m))
