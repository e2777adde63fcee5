-- A row of units, one stretch of units more at a time. Assumes nothing.
use mathlib.Core.Path.{◌≡◌, refl, sym, ap, subst, ◌∙◌}
use mathlib.Core.List.{List, foldl, foldl-append}
use Prim.Native.Nat.{ℕ, ◌+◌, ◌-◌, ◌≤◌}
use native.Mathlib.Nat.{add-zero}
use native.Mathlib.Omega.{arith}
use lib.ListN.{length}
use Rattle.rules.specs.Rule.{many, opt, At, Takes, nothing, right, stop, more as further, Longest, Fails}
use Rattle.rules.proofs.Chains.{snoc}
use Rattle.rules.proofs.Matches.{forward, inside, starting, move_at}
use Rattle.lexicon.specs.declared.Set.{Set}
use Rattle.lexicon.specs.Bytes.{members}
use Rattle.lexicon.specs.Literals.{unit, joint}
use Rattle.lexicon.specs.Values.{Digits, read, last_unit}
use Rattle.lexicon.proofs.Groups.{unit_end, unit_byte, joint_end, snoc_digits}
use Rattle.number.specs.Groups.{OfDigits, Summed, Row}
use Rattle.std.specs.List.{slice_range}
use Rattle.text.proofs.Counts.{slice_read}
use Rattle.number.proofs.Sums.{split}
use Rattle.number.proofs.Joints.{clear_digits}

module _ (text : List ℕ) (set : Set) (n : ℕ) where
  abbrev Unit : ℕ → ℕ → Type 0
  Unit i j = Takes text (unit n (members set)) i j

  abbrev Units : ℕ → ℕ → Type 0
  Units i j = Longest text (many (unit n (members set))) i j

  abbrev Chain : ℕ → ℕ → Type 0
  Chain i j = Takes text (many (unit n (members set))) i j

  -- ---- its end

  -- no unit stands behind units
  pub units_end : (i j : ℕ) → 1 ≤ n → Units i j → Fails text (unit n (members set)) j
  units_end i j h l =
      record { none = λ u. omega (arith, h, unit_end n (members set) u, l.most (snoc l.takes u)) }

  pub no_units : (i j : ℕ) → 1 ≤ n → Units i j → j ≡ i → Fails text (unit n (members set)) i
  no_units i j h l e = subst (λ (k : ℕ). Fails text (unit n (members set)) k) e (units_end i j h l)

  -- units lie within the text
  pub units_within : {i j : ℕ} → 1 ≤ n → Units i j → (j ≡ i → ⊥) → j ≤ length text
  units_within {i} {j} h l d = go l.takes
    where
      go : Chain i j → j ≤ length text
      go (stop e) = absurd (d (sym e))
      go (further u us) = let a = (unit_byte n (members set) i u 0 h).0 in inside us (inside u (omega arith))

  -- ---- the sum

  module _ {S : Type 0} (more : S → ℕ → S) (start : S) where
    abbrev Sum : ℕ → ℕ → S → Type 0
    Sum i j s = Summed more start text set n i j s

    -- one unit more
    next_unit_lem : {i j m e : ℕ} {s : S} → Sum i j s → Takes text (opt joint) j m → Unit m e → Sum i e (foldl more s (read text m n))
    next_unit_lem {m = m} r t u =
        record {
          bytes = _;
          digits_are = snoc_digits r.digits_are t u;
          sum_is = ap (λ (x : S). foldl more x (read text m n)) r.sum_is ∙ sym (foldl-append more start r.bytes (read text m n));
        }

    -- the sum over units is that over the first and over the others
    unit_first : {m l e : ℕ} (s : S) {t : S} → Unit m l → Chain l e → t ≡ foldl more s (read text m (e - m)) → t ≡ foldl more (foldl more s (read text m n)) (read text l (e - l))
    unit_first {m} {l} {e} s u us f =
        let x = unit_end n (members set) u in
        let y : e - m ≡ n + (e - l) = omega (arith, forward us) in
        f
        ∙ ap (λ (k : ℕ). foldl more s (read text m k)) y
        ∙ split more text s m n (e - l)
        ∙ ap (λ (k : ℕ). foldl more (foldl more s (read text m n)) (read text k (e - l))) (sym x)

    -- units side by side more
    next_units : {i m e : ℕ} {s t : S} → Sum i m s → Chain m e → t ≡ foldl more s (read text m (e - m)) → Sum i e t
    next_units {i} {m} {e = j} {s = s} r (stop e) f =
        let z : j - m ≡ 0 = omega arith in
        record {
          bytes = r.bytes;
          digits_are = subst (λ (k : ℕ). Digits text n (members set) i k r.bytes) e r.digits_are;
          sum_is = f ∙ ap (λ (k : ℕ). foldl more s (read text m k)) z ∙ r.sum_is;
        }
    next_units {s = s} r (further u us) f = next_units (next_unit_lem r (right (nothing refl)) u) us (unit_first s u us f)

    -- ---- the row's parts

    read_sum : {m e : ℕ} (s : S) {t : S} → 1 ≤ n → Units m e → (e ≡ m → ⊥) → t ≡ foldl more s (slice_range text m e) → t ≡ foldl more s (read text m (e - m))
    read_sum {m} {e} s h l d f = f ∙ ap (foldl more s) (slice_read text m e (forward l.takes) (units_within h l d))

    pub first_units : {i j : ℕ} {s : S} → 1 ≤ n → Units i j → (j ≡ i → ⊥) → s ≡ foldl more start (slice_range text i j) → Sum i j s
    first_units {i} {j} {s} h l d f = go l.takes
      where
        go : Chain i j → Sum i j s
        go (stop e) = absurd (d (sym e))
        go (further u us) = next_units (record { bytes = read text i n; digits_are = last_unit u; sum_is = refl }) us (unit_first start u us (read_sum start h l d f))

    pub later_units : {i j m e : ℕ} {s t : S} → 1 ≤ n → Sum i j s → Longest text (opt joint) j m → Units m e → (e ≡ m → ⊥) → t ≡ foldl more s (slice_range text m e) → Sum i e t
    later_units {i} {j} {m} {e} {s} {t} h r p l d f = go l.takes
      where
        go : Chain m e → Sum i e t
        go (stop x) = absurd (d (sym x))
        go (further u us) = next_units (next_unit_lem r p.takes u) us (unit_first s u us (read_sum s h l d f))

    -- ---- its end

    module _ {i j m : ℕ} {s : S} (h : 1 ≤ n) (d : OfDigits set) (r : Sum i j s) (p : Longest text (opt joint) j m) where
      -- none behind the joint either
      ended : Fails text (unit n (members set)) m → Row more start text set n i j s
      ended f = record { row = r; ended = record { stops = λ x. go x.joined x.next } }
        where
          first_byte_lem : {k e : ℕ} → Unit k e → At text (members set) k
          first_byte_lem {k} u = move_at text (members set) (add-zero k) (unit_byte n (members set) k u 0 h)

          go : {k e : ℕ} → Takes text (opt joint) j k → Unit k e → ⊥
          go t u = f.none (starting (joint_end (members set) (clear_digits d) t (first_byte_lem u) p) u)

      pub row_unjoined : Fails text (unit n (members set)) j → m ≡ j → Row more start text set n i j s
      row_unjoined f e = ended (subst (λ (k : ℕ). Fails text (unit n (members set)) k) (sym e) f)

      pub row_joined : (e : ℕ) → Units m e → e ≡ m → Row more start text set n i j s
      row_joined e l q = ended (no_units m e h l q)
