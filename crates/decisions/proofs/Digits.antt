-- Whether the digits from one place to another pass a test, and whether the number written with them does. Assumes nothing.
use mathlib.Core.Path.{◌≡◌, refl, sym, subst}
use mathlib.Core.Logic.{◌⊎◌, inl, inr}
use mathlib.Core.Bool.{Bool, false, ◌&&◌, ◌||◌}
use mathlib.Core.List.{List, ◌++◌}
use Prim.Native.Nat.{ℕ, zero, suc, ◌+◌, ◌≤◌}
use native.Mathlib.Omega.{arith}
use lib.Dec.{eqb}
use Rattle.rules.specs.Test.{Says}
use Rattle.rules.specs.Class.{Class}
use Rattle.rules.specs.Rule.{opt, Takes}
use Rattle.rules.proofs.Tests.{says_no}
use Rattle.rules.proofs.Matches.{forward}
use Rattle.lexicon.specs.declared.Base.{Base}
use Rattle.lexicon.specs.Bytes.{digits, radix}
use Rattle.lexicon.specs.Literals.{unit, joint, prefix, nonsigned}
use Rattle.lexicon.specs.Values.{read, value, Digits, last_unit, next_unit, Number}
use Rattle.lexicon.proofs.Groups.{unit_end, digits_forward}
use Rattle.lexicon.proofs.Numbers.{numeral, to_base, to_nonsigned}
use Rattle.decisions.proofs.Tests.{by, and, either, equal, any_base, of_any}
use Rattle.decisions.proofs.Cuts.{leads, cut}

module _ (text : List ℕ) (w : ℕ) (c : Class) where
  -- units of w + 1 bytes from i to j, at most n of them, whose bytes pass
  abbrev pub rows : ℕ → (List ℕ → Bool) → ℕ → ℕ → Bool
  rows zero f i j = false
  rows (suc n) f i j =
      leads text (unit (suc w) c) i (λ m. (eqb j m && f (read text i (suc w))) || leads text (opt joint) m (λ k. rows n (λ ds. f (read text i (suc w) ++ ds)) k j))

  -- by where the first unit ends
  abbrev Parts : (List ℕ → Type 0) → ℕ → ℕ → ℕ → Type 0
  Parts Q i j m =
      ((j ≡ m) × Q (read text i (suc w))) ⊎ ((k : ℕ) × Takes text (opt joint) m k × ((es : List ℕ) × Digits text (suc w) c k j es × Q (read text i (suc w) ++ es)))

  parts : (Q : List ℕ → Type 0) {i j : ℕ} {ds : List ℕ} → Digits text (suc w) c i j ds → Q ds → (m : ℕ) × Takes text (unit (suc w) c) i m × Parts Q i j m
  parts Q {i} {j} (last_unit t) q = (j, t, inl (refl, q))
  parts Q (next_unit {m = m} {k = k} {ds = es} t u d) q = (m, t, inr (k, u, (es, d, q)))

  whole : (Q : List ℕ → Type 0) (i j m : ℕ) → Takes text (unit (suc w) c) i m → Parts Q i j m → (ds : List ℕ) × Digits text (suc w) c i j ds × Q ds
  whole Q i j m t (inl x) = (_, last_unit (subst (λ (y : ℕ). Takes text (unit (suc w) c) i y) (sym x.0) t), x.1)
  whole Q i j m t (inr (k, u, (es, d, q))) = (_, next_unit t u d, q)

  pub row : (n : ℕ) (f : List ℕ → Bool) (Q : List ℕ → Type 0) → ((ds : List ℕ) → Says (f ds) (Q ds)) → (i j : ℕ) → j ≤ i + n → Says (rows n f i j) ((ds : List ℕ) × Digits text (suc w) c i j ds × Q ds)
  row zero f Q s i j h = says_no (λ x. omega (arith, h, digits_forward x.1))
  row (suc n) f Q s i j h =
      by (λ x. whole Q i j x.0 x.1 x.2) (λ x. parts Q x.1 x.2)
      (cut text (unit (suc w) c) i
      (λ m. (eqb j m && f (read text i (suc w))) || leads text (opt joint) m (λ k. rows n (λ ds. f (read text i (suc w) ++ ds)) k j)) (Parts Q i j)
      (λ m t.
      either (and (equal j m) (s (read text i (suc w))))
      (cut text (opt joint) m (λ k. rows n (λ ds. f (read text i (suc w) ++ ds)) k j)
      (λ k. (es : List ℕ) × Digits text (suc w) c k j es × Q (read text i (suc w) ++ es))
      (λ k u.
      row n (λ ds. f (read text i (suc w) ++ ds)) (λ ds. Q (read text i (suc w) ++ ds)) (λ ds. s (read text i (suc w) ++ ds)) k j
      (omega (arith, h, unit_end (suc w) c t, forward u))))))

module _ (text : List ℕ) where
  -- the number without a sign from i to j passes
  abbrev pub number_test : (ℕ → Bool) → ℕ → ℕ → Bool
  number_test f i j = any_base (λ b. leads text (prefix b) i (λ s. rows text 0 (digits b) j (λ ds. f (value (radix b) ds)) s j))

  -- behind the prefix of a base, digits whose value has the property
  abbrev Written : (ℕ → Type 0) → ℕ → Base → ℕ → Type 0
  Written P j b k = (ds : List ℕ) × Digits text 1 (digits b) k j ds × P (value (radix b) ds)

  abbrev Prefixed : (ℕ → Type 0) → ℕ → ℕ → Base → Type 0
  Prefixed P i j b = (k : ℕ) × Takes text (prefix b) i k × Written P j b k

  pub number : (f : ℕ → Bool) (P : ℕ → Type 0) → ((v : ℕ) → Says (f v) (P v)) → (i j : ℕ) → Says (number_test f i j) ((v : ℕ) × Number text i j v × P v)
  number f P s i j =
      by to from
      (of_any (λ b. leads text (prefix b) i (λ k. rows text 0 (digits b) j (λ ds. f (value (radix b) ds)) k j)) (Prefixed P i j)
      (λ b.
      cut text (prefix b) i (λ k. rows text 0 (digits b) j (λ ds. f (value (radix b) ds)) k j) (Written P j b)
      (λ k t. row text 0 (digits b) j (λ ds. f (value (radix b) ds)) (λ ds. P (value (radix b) ds)) (λ ds. s (value (radix b) ds)) k j (omega arith))))
    where
      to : (b : Base) × Prefixed P i j b → (v : ℕ) × Number text i j v × P v
      to (b, (k, t, (ds, d, p))) = (value (radix b) ds, (b, record { start = k; before = t; bytes = ds; digits_are = d; value_is = refl }), p)

      from : (v : ℕ) × Number text i j v × P v → (b : Base) × Prefixed P i j b
      from (v, (b, o), p) = (b, (o.start, o.before, (o.bytes, o.digits_are, subst P o.value_is p)))

  pub number_takes : {s e v : ℕ} → Number text s e v → Takes text nonsigned s e
  number_takes m = to_nonsigned text m.0 (to_base text (numeral text m.1))
