-- The steps of the UTF-8 test: a place has one count of them at most, which is no greater than the place; where eight plain
-- bytes do not come next; and the count of a text that is all plain ASCII. Assumes nothing.
use mathlib.Core.Path.{◌≡◌, refl, sym, subst}
use mathlib.Core.List.{List, [], ◌∷◌}
use Prim.Native.Nat.{ℕ, zero, suc, ◌+◌, ◌*◌, ◌/◌, ◌%◌, ◌≤◌, ◌<◌}
use native.Mathlib.Nat.{not-suc-le-zero}
use native.Mathlib.Decide.{dec_le}
use native.Mathlib.Omega.{arith}
use lib.ListN.{length}
use Rattle.rules.specs.Class.{Class, ◌upto◌}
use Rattle.rules.specs.Every.{Every}
use Rattle.rules.specs.Rule.{Rule, many, times, At, Takes, nothing, byte, both, left, stop, Fails}
use Rattle.rules.proofs.Classes.{in_first_lem}
use Rattle.rules.proofs.Every.{every_at}
use Rattle.rules.proofs.Matches.{starting}
use Rattle.rules.proofs.Chains.{Single, join, snoc, many_of_times, each}
use Rattle.rules.proofs.Ways.{grows}
use Rattle.lexicon.specs.Utf8.{range, sequence}
use Rattle.lexicon.specs.Steps.{eight, Steps, start, eight_bytes, one_sequence}
use Rattle.lexicon.proofs.Groups.{unit_end, unit_single, unit_missed, unit_inside, byte_unit}
use Rattle.lexicon.proofs.Determined.{sequence_single}

abbrev plain : Class
plain = 0x00 upto 0x7F ∷ []

-- ---- so many matches of one rule

module _ {text : List ℕ} where
  -- one fewer
  times_fewer : (n : ℕ) {r : Rule} {i j : ℕ} → Takes text (times (suc n) r) i j → (m : ℕ) × Takes text (times n r) i m
  times_fewer zero t = (_, nothing refl)
  times_fewer (suc n) (both t u) = let x = times_fewer n u in (_, both t x.1)

  -- where they do not come, they do not come behind the first of them either
  times_fail : (n : ℕ) {r : Rule} {i j : ℕ} → Fails text (times (suc n) r) i → Takes text r i j → Fails text (times (suc n) r) j
  times_fail n f t = record { none = λ u. f.none (both t (times_fewer n u).1) }

module _ (text : List ℕ) where
  -- ---- where eight plain bytes come next, and where not

  pub eight_end : {i j : ℕ} → Takes text eight i j → j ≡ i + 8
  eight_end t = unit_end 8 plain t

  pub eight_single : Single text eight
  eight_single = unit_single 8 plain

  -- by a look at the place
  pub no_eight : {i : ℕ} → (Takes text eight i (i + 8) → ⊥) → Fails text eight i
  no_eight n = unit_missed 8 plain n

  pub no_eight_next : {i j : ℕ} → Fails text eight i → Takes text (range 0x00 0x7F) i j → Fails text eight j
  no_eight_next f t = times_fail 7 f t

  no_eight_left : {i : ℕ} → length text < i + 8 → Fails text eight i
  no_eight_left h = record { none = λ t. omega (arith, h, eight_end t, unit_inside 7 plain t) }

  -- ---- what the steps reach

  -- eight plain bytes are sequences
  pub sequences : {i j : ℕ} → Takes text eight i j → Takes text (many sequence) i j
  sequences t = each (λ _ _ b. left b) (many_of_times 8 t)

  pub steps_reach : {j n : ℕ} → Steps text j n → Takes text (many sequence) 0 j
  steps_reach start = stop refl
  steps_reach (eight_bytes s t) = join (steps_reach s) (sequences t)
  steps_reach (one_sequence s f t) = snoc (steps_reach s) t

  -- each takes a byte at least
  pub steps_within : {j n : ℕ} → Steps text j n → n ≤ j
  steps_within start = omega arith
  steps_within (eight_bytes s t) = omega (arith, steps_within s, eight_end t)
  steps_within (one_sequence s f t) = omega (arith, steps_within s, grows sequence refl t)

  -- ---- one count

  -- so many steps lead to one place
  step_place : {i j n : ℕ} → Steps text i n → Steps text j n → i ≡ j
  step_place start start = refl
  step_place (eight_bytes a t) (eight_bytes b u) = omega (arith, step_place a b, eight_end t, eight_end u)
  step_place (eight_bytes a t) (one_sequence b f u) = absurd (f.none (starting (step_place a b) t))
  step_place (one_sequence a f t) (eight_bytes b u) = absurd (f.none (starting (sym (step_place a b)) u))
  step_place (one_sequence a f t) (one_sequence b g u) = (sequence_single text).same (starting (step_place a b) t) u

  -- more of them lead further: by the last one, from k to j
  further : {i k j n m : ℕ} → Steps text i n → Steps text k m → k < j → n < suc m → (n < m → i < k) → i < j
  further {i} {k} {j} {n} {m} a b g h less = by (dec_le (suc n) m)
    where
      by : Dec (suc n ≤ m) → i < j
      by (yes l) = omega (arith, less l, g)
      by (no l) = let e : n ≡ m = omega (arith, l, h) in omega (arith, step_place (subst (Steps text i) e a) b, g)

  step_later : {i j n m : ℕ} → Steps text i n → Steps text j m → n < m → i < j
  step_later a start h = absurd (not-suc-le-zero h)
  step_later a (eight_bytes b t) h = further a b (omega (arith, eight_end t)) h (step_later a b)
  step_later a (one_sequence b f t) h = further a b (grows sequence refl t) h (step_later a b)

  pub one_count : {j n m : ℕ} → Steps text j n → Steps text j m → n ≡ m
  one_count {j} {n} {m} a b = by (dec_le (suc n) m) (dec_le (suc m) n)
    where
      by : Dec (suc n ≤ m) → Dec (suc m ≤ n) → n ≡ m
      by (yes l) k = absurd (omega (arith, step_later a b l))
      by (no l) (yes k) = absurd (omega (arith, step_later b a k))
      by (no l) (no k) = omega (arith, l, k)

  -- ---- all plain ASCII: 'n / 8 rounded down plus the remainder'

  module _ (all : Every (λ (b : ℕ). b < 0x80) text) where
    plain_at : (i : ℕ) → i < length text → At text plain i
    plain_at i h = (h, in_first_lem 0x00 0x7F [] _ (omega arith) (omega (arith, every_at all 0 i h)))

    eights : (q i : ℕ) → i ≡ q * 8 → i ≤ length text → Steps text i q
    eights zero i e h = subst (λ (x : ℕ). Steps text x 0) (omega (arith, e)) start
    eights (suc q) i e h =
        eight_bytes (eights q (q * 8) refl (omega (arith, e, h))) (byte_unit 8 plain (q * 8) {j = i} (omega (arith, e)) (λ k l. plain_at (q * 8 + k) (omega (arith, e, h, l))))

    singles : (q r i : ℕ) → i ≡ q * 8 + r → i ≤ length text → length text < q * 8 + 8 → Steps text i (q + r)
    singles q zero i e h g = subst (Steps text i) (omega arith) (eights q i (omega (arith, e)) h)
    singles q (suc r) i e h g =
        subst (Steps text i) (omega arith)
        (one_sequence (singles q r (q * 8 + r) refl (omega (arith, e, h)) g) (no_eight_left (omega (arith, g))) (left (byte {j = i} (plain_at (q * 8 + r) (omega (arith, e, h))) (omega (arith, e)))))

    pub plain_steps : Steps text (length text) (length text / 8 + length text % 8)
    plain_steps = singles (length text / 8) (length text % 8) (length text) (omega arith) (omega arith) (omega arith)
