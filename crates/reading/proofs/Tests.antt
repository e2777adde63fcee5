-- Tests in their order: one decides, and it is found. Assumes nothing.
use mathlib.Core.Path.{◌≡◌, refl, sym, ◌∙◌}
use mathlib.Core.Logic.{◌⊎◌, inl, inr}
use mathlib.Core.Bool.{Bool, false, ◌||◌}
use mathlib.Core.List.{List, [], ◌∷◌}
use Prim.Native.Nat.{ℕ}
use borrow.Author.Tests.{eqb-false}
use lib.Dec.{eqb}
use Rattle.rules.proofs.Bools.{or_false_left, or_false_right}
use Rattle.reading.specs.Tests.{Test, First}

-- none holds
abbrev pub None : List Test → Type 0
None [] = Unit {0}
None (t ∷ ts) = (t.holds → ⊥) × None ts

pub one_test : (ts : List Test) {m n : ℕ} → First ts m → First ts n → m ≡ n
one_test [] a b = absurd a
one_test (t ∷ ts) (inl a) (inl b) = a.0 ∙ sym b.0
one_test (t ∷ ts) (inl a) (inr b) = absurd (b.0 a.1)
one_test (t ∷ ts) (inr a) (inl b) = absurd (a.0 b.1)
one_test (t ∷ ts) (inr a) (inr b) = one_test ts a.1 b.1

pub no_test : (ts : List Test) (n : ℕ) → None ts → First ts n → ⊥
no_test [] n x f = f
no_test (t ∷ ts) n x (inl a) = x.0 a.1
no_test (t ∷ ts) n x (inr a) = no_test ts n x.1 a.1

pub all_fail : (ts : List Test) → ((n : ℕ) → First ts n → ⊥) → None ts
all_fail [] k = tt
all_fail (t ∷ ts) k =
    let f : t.holds → ⊥ = λ x. k t.number (inl (refl, x)) in
    (f, all_fail ts (λ n x. k n (inr (f, x))))

-- each holds or not
abbrev pub Each : List Test → Type 0
Each [] = Unit {0}
Each (t ∷ ts) = (t.holds ⊎ (t.holds → ⊥)) × Each ts

pub first_or_none : (ts : List Test) → Each ts → ((n : ℕ) × First ts n) ⊎ None ts
first_or_none [] x = inr tt
first_or_none (t ∷ ts) (inl h, x) = inl (t.number, inl (refl, h))
first_or_none (t ∷ ts) (inr h, x) = rest (first_or_none ts x)
  where
    rest : ((n : ℕ) × First ts n) ⊎ None ts → ((n : ℕ) × First (t ∷ ts) n) ⊎ None (t ∷ ts)
    rest (inl f) = inl (f.0, inr (h, f.1))
    rest (inr f) = inr (h, f)

-- the same numbers, and each holds exactly when the other's does
abbrev pub Alike : List Test → List Test → Type 0
Alike [] [] = Unit {0}
Alike [] (t ∷ ts) = ⊥
Alike (s ∷ ss) [] = ⊥
Alike (s ∷ ss) (t ∷ ts) = (s.number ≡ t.number) × (s.holds → t.holds) × (t.holds → s.holds) × Alike ss ts

pub same : (ts : List Test) → Alike ts ts
same [] = tt
same (t ∷ ts) = (refl, (λ x. x), (λ x. x), same ts)

pub alike_back : (ss ts : List Test) → Alike ss ts → Alike ts ss
alike_back [] [] a = tt
alike_back [] (t ∷ ts) a = absurd a
alike_back (s ∷ ss) [] a = absurd a
alike_back (s ∷ ss) (t ∷ ts) a = (sym a.0, a.2, a.1, alike_back ss ts a.3)

pub first_alike : (ss ts : List Test) (n : ℕ) → Alike ss ts → First ss n → First ts n
first_alike [] [] n a f = f
first_alike [] (t ∷ ts) n a f = absurd a
first_alike (s ∷ ss) [] n a f = absurd a
first_alike (s ∷ ss) (t ∷ ts) n a (inl f) = inl (f.0 ∙ a.0, a.1 f.1)
first_alike (s ∷ ss) (t ∷ ts) n a (inr f) = inr ((λ x. f.0 (a.2 x)), first_alike ss ts n a.3 f.1)

pub none_alike : (ss ts : List Test) → Alike ss ts → None ss → None ts
none_alike [] [] a f = f
none_alike [] (t ∷ ts) a f = absurd a
none_alike (s ∷ ss) [] a f = absurd a
none_alike (s ∷ ss) (t ∷ ts) a f = ((λ x. f.0 (a.2 x)), none_alike ss ts a.3 f.1)

-- all but the first
abbrev pub behind : List Test → List Test
behind [] = []
behind (t ∷ ts) = ts

-- a test has the number
abbrev pub has : List Test → ℕ → Bool
has [] n = false
has (t ∷ ts) n = eqb n t.number || has ts n

pub no_number : (ts : List Test) (n : ℕ) → has ts n ≡ false → First ts n → ⊥
no_number [] n e f = f
no_number (t ∷ ts) n e (inl f) = eqb-false n t.number (or_false_left (eqb n t.number) (has ts n) e) f.0
no_number (t ∷ ts) n e (inr f) = no_number ts n (or_false_right (eqb n t.number) (has ts n) e) f.1
