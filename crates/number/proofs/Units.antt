-- Bytes of a class side by side, and the units among them. Assumes nothing.
use mathlib.Core.Path.{◌≡◌, refl, sym, subst, ◌∙◌}
use mathlib.Core.Bool.{Bool, true, false, not}
use mathlib.Core.List.{List}
use Prim.Native.Nat.{ℕ, zero, suc, ◌+◌, ◌-◌, ◌*◌, ◌/◌, ◌≤◌, ◌<◌}
use native.Mathlib.Nat.{zero-mul, suc-mul, div-mul-le_self, lt-div-mul-add}
use native.Mathlib.Omega.{arith}
use lib.ListN.{length, get_or}
use borrow.Author.Tests.{not-false}
use Rattle.rules.specs.Class.{Class, has}
use Rattle.rules.specs.Rule.{one, many, At, Takes, nothing, byte, both, stop, more, Longest}
use Rattle.rules.proofs.Bools.{not_both}
use Rattle.rules.proofs.Chains.{join, snoc, many_of_times, longest}
use Rattle.rules.proofs.Matches.{forward, starting, one_at, byte_at}
use Rattle.lexicon.specs.Literals.{unit}
use Rattle.lexicon.proofs.Groups.{unit_end, unit_single, units_run}
use Rattle.lexicon.proofs.Spaces.{byte_single}

-- ---- a run of bytes

module _ (text : List ℕ) (c : Class) (at i : ℕ) where
  run_stops : Takes text (many (one c)) at i → (At text c i → ⊥) → Longest text (many (one c)) at i
  run_stops t n = longest (byte_single c) t (record { none = λ b. n (byte_at b) })

  -- a byte is none of the class
  pub run_other : (o : Bool) → Takes text (many (one c)) at i → o ≡ has c (get_or text i 0) → not o ≡ true → Longest text (many (one c)) at i
  run_other o t e n = run_stops t (λ a. not_both o (e ∙ a.1) n)

  -- the text ends
  pub run_all : Takes text (many (one c)) at i → length text ≤ i → Longest text (many (one c)) at i
  run_all t h = run_stops t (λ a. omega (arith, a.0))

  -- one byte more
  pub run_next : (o : Bool) → Takes text (many (one c)) at i → i < length text → o ≡ has c (get_or text i 0) → not o ≡ false → Takes text (many (one c)) at (i + 1)
  run_next o t h e n = snoc t (one_at (h, sym e ∙ not-false o n))

-- ---- the units of a run

module _ {text : List ℕ} (c : Class) where
  -- the first bytes of a run are a unit
  first_unit : (n : ℕ) {i j : ℕ} (m : ℕ) → m ≡ i + n → m ≤ j → Takes text (many (one c)) i j → Takes text (unit n c) i m × Takes text (many (one c)) m j
  first_unit zero {i} m e h t = let x : i ≡ m = omega arith in (nothing x, starting x t)
  first_unit (suc n) m e h (stop x) = absurd (omega arith)
  first_unit (suc n) m e h (more (byte a x) t) = let r = first_unit n m (omega arith) h t in (both (byte a x) r.0, r.1)

  -- so many units
  some_units : (q n : ℕ) {i j : ℕ} (m : ℕ) → m ≡ i + q * n → m ≤ j → Takes text (many (one c)) i j → Takes text (many (unit n c)) i m
  some_units zero n {i} m e h t = let x : i ≡ m = omega (arith, zero-mul n) in stop x
  some_units (suc q) n {i} m e h t =
      let x = suc-mul q n in
      let r = first_unit n (i + n) refl (omega arith) t in more r.0 (some_units q n m (omega arith) h r.1)

-- as many as there is room for
module _ (text : List ℕ) (c : Class) (n at end : ℕ) (run : Longest text (many (one c)) at end) where
  pub units_room : at + (end - at) / n * n ≤ end
  units_room = omega (arith, forward run.takes, div-mul-le_self (end - at) n)

  pub all_units : 1 ≤ n → Longest text (many (unit n c)) at (at + (end - at) / n * n)
  all_units h = longest (unit_single n c) us (record { none = λ u. short u })
    where
      us : Takes text (many (unit n c)) at (at + (end - at) / n * n)
      us = some_units c ((end - at) / n) n (at + (end - at) / n * n) refl units_room run.takes

      short : {k : ℕ} → Takes text (unit n c) (at + (end - at) / n * n) k → ⊥
      short u =
          omega (arith, unit_end n c u, run.most (join (units_run n us) (many_of_times n u)), forward run.takes, lt-div-mul-add {a = end - at} {b = n} h)

-- each byte is one
pub byte_units : (text : List ℕ) (c : Class) (n at end : ℕ) → Longest text (many (one c)) at end → n ≡ 1 → Longest text (many (unit n c)) at end
byte_units text c n at end run e =
    let x : at + (end - at) / 1 * 1 ≡ end = omega (arith, forward run.takes) in
    subst (λ (m : ℕ). Longest text (many (unit m c)) at end) (sym e)
    (subst (λ (j : ℕ). Longest text (many (unit 1 c)) at j) x (all_units text c 1 at end run (omega arith)))
