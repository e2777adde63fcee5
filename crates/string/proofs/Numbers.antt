-- The number of a row of digits, counted up to the limit. Assumes nothing.
use mathlib.Core.Path.{◌≡◌, refl, subst, sym, ap, ◌∙◌}
use mathlib.Core.Logic.{inl, inr}
use mathlib.Core.Bool.{Bool, true, false, not}
use mathlib.Core.List.{List, foldl}
use Prim.Native.Nat.{ℕ, suc, ◌+◌, ◌-◌, ◌≤◌, ◌<◌, min}
use native.Mathlib.Omega.{arith}
use borrow.Author.Tests.{not-false}
use lib.ListN.{length, get_or}
use Rattle.std.specs.Prelude.{Some}
use Rattle.rules.specs.Test.{Says}
use Rattle.rules.specs.Class.{has}
use Rattle.rules.specs.Rule.{one, many, Takes, both, stop, more, At, Fails}
use Rattle.rules.proofs.Bools.{not_both}
use Rattle.rules.proofs.Chains.{snoc, longest}
use Rattle.rules.proofs.Matches.{starting, one_at, byte_at}
use Rattle.lexicon.specs.declared.Base.{Base}
use Rattle.lexicon.specs.declared.Set.{Set}
use Rattle.lexicon.specs.Bytes.{members, digit_set_of, digits, radix}
use Rattle.lexicon.specs.Parts.{size}
use Rattle.lexicon.specs.Found.{Judges}
use Rattle.lexicon.specs.Values.{read}
use Rattle.lexicon.specs.Limited.{limit, limited}
use Rattle.lexicon.specs.Bad.{Scalar}
use Rattle.lexicon.proofs.Bases.{size_radix}
use Rattle.lexicon.proofs.Limits.{limited_value, read_more}
use Rattle.string.specs.Parts.{number, BadNumber, Counts}
use Rattle.lexicon.proofs.Spaces.{byte_single}

-- the limit is no code point
scalar_limit : (v : ℕ) → Scalar v → Scalar (min limit v)
scalar_limit v (inl h) = inl (omega arith)
scalar_limit v (inr h) = inr (omega arith, omega arith)

limit_scalar : (v : ℕ) → Scalar (min limit v) → Scalar v
limit_scalar v (inl h) = inl (omega arith)
limit_scalar v (inr h) = inr (omega arith, omega arith)

-- ---- the row of digits as it grows

number_more : (f : ℕ → ℕ → ℕ) (text : List ℕ) (i j : ℕ) → i ≤ j → foldl f 0 (read text i (j + 1 - i)) ≡ f (foldl f 0 (read text i (j - i))) (get_or text j 0)
number_more f text i j h =
    let e : j + 1 - i ≡ suc (j - i) = omega arith in
    let p : i + (j - i) ≡ j = omega arith in
    ap (λ (n : ℕ). foldl f 0 (read text i n)) e
    ∙ read_more f text 0 i (j - i)
    ∙ ap (λ (k : ℕ). f (foldl f 0 (read text i (j - i))) (get_or text k 0)) p

pub record Counting (text : List ℕ) (s : Set) (i j v : ℕ) : Type 0 where
  pub all : Takes text (many (one (members s))) i j
  pub ahead : i ≤ j
  pub code : v ≡ foldl (limited (size s)) 0 (read text i (j - i))

pub counting_none : (text : List ℕ) (s : Set) (i : ℕ) → Counting text s i i 0
counting_none text s i =
    let e : i - i ≡ 0 = omega arith in
    record {
      all = stop refl;
      ahead = omega arith;
      code = ap (λ (n : ℕ). foldl (limited (size s)) 0 (read text i n)) (sym e);
    }

module _ {text : List ℕ} {s : Set} {i j v : ℕ} where
  pub counting_more : {o : Bool} {n w : ℕ} → Counting text s i j v → n ≡ size s → j < length text → o ≡ has (members s) (get_or text j 0) → not o ≡ false → w ≡ limited n v (get_or text j 0) → Counting text s i (j + 1) w
  counting_more {o} c m h e t f =
      record {
        all = snoc c.all (one_at (h, sym e ∙ not-false o t));
        ahead = let x = c.ahead in omega arith;
        code =
            f
            ∙ ap (λ (x : ℕ). limited x v (get_or text j 0)) m
            ∙ ap (λ (x : ℕ). limited (size s) x (get_or text j 0)) c.code
            ∙ sym (number_more (limited (size s)) text i j c.ahead);
      }

  counting_stops : {b : Base} → Counting text s i j v → s ≡ digit_set_of b → (At text (members s) j → ⊥) → Counts text b i j v
  counting_stops {b} c q n = whole (subst (λ (x : Set). Counting text x i j v) q c) (subst (λ (x : Set). At text (members x) j → ⊥) q n)
    where
      whole : Counting text (digit_set_of b) i j v → (At text (digits b) j → ⊥) → Counts text b i j v
      whole d m =
          record {
            all = d.all;
            ends = record { none = λ t. m (byte_at t) };
            code =
                d.code
                ∙ ap (λ (n : ℕ). foldl (limited n) 0 (read text i (j - i))) (size_radix b)
                ∙ limited_value (radix b) 0 (read text i (j - i));
          }

  pub counting_ends : {b : Base} {o : Bool} → Counting text s i j v → s ≡ digit_set_of b → o ≡ has (members s) (get_or text j 0) → not o ≡ true → Counts text b i j v
  counting_ends {o = o} c q e n = counting_stops c q (λ a. not_both o (e ∙ a.1) n)

  pub counting_all : {b : Base} → Counting text s i j v → s ≡ digit_set_of b → length text ≤ j → Counts text b i j v
  counting_all c q h = counting_stops c q (λ a. omega (arith, a.0))

module _ {text : List ℕ} (b : Base) where
  -- ---- what it says of the number

  pub no_number : {i j v : ℕ} → Counts text b i j v → j ≡ i → Fails text (number b) i
  no_number {i} {j} c e = record { none = go }
    where
      go : {k : ℕ} → Takes text (number b) i k → ⊥
      go (both t u) = c.ends.none (starting (sym e) t)

  some_many : {i j : ℕ} → Takes text (many (one (digits b))) i j → (j ≡ i → ⊥) → Takes text (number b) i j
  some_many (stop e) n = absurd (n (sym e))
  some_many (more t u) n = both t u

  pub number_judged : {i j v : ℕ} {bad : Bool} → Counts text b i j v → (j ≡ i → ⊥) → Says bad (Scalar v → ⊥) → Judges text (number b) (BadNumber text b) i (Some (record { end = j; bad = bad }))
  number_judged {i} {j} {v} {bad} c n y = (
    record { takes = some_many c.all n; most = most },
    record {
      true_holds = λ e s. y.true_holds e (subst (λ (x : ℕ). Scalar x) (sym c.code) (scalar_limit _ s));
      holds_true = λ m. y.holds_true (λ s. m (limit_scalar _ (subst (λ (x : ℕ). Scalar x) c.code s)));
    },
  )
    where
      most : {k : ℕ} → Takes text (number b) i k → k ≤ j
      most (both t u) = (longest (byte_single (digits b)) c.all c.ends).most (more t u)
