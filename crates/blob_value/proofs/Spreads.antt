-- Digits as numbers and numbers as bytes: a unit's bytes have the bits of its digits, whatever the widths. Assumes nothing.
use mathlib.Core.Path.{◌≡◌, refl, sym, ap, subst, ◌∙◌}
use mathlib.Core.List.{List, [], ◌∷◌, ◌++◌, map, foldl, append_assoc, append-nil}
use Prim.Native.Nat.{ℕ, zero, suc, ◌+◌, ◌-◌, ◌*◌, ◌/◌, ◌%◌, ◌^◌, ◌≤◌, ◌<◌}
use native.Mathlib.Nat.{mod-lt, add-zero, add-suc, pow-succ', mul-le-mul_left}
use native.Mathlib.Omega.{arith}
use lib.ListN.{length, get_or, take, drop}
use Rattle.std.proofs.lemmas.List.{get_or-take, get_or-drop}
use Rattle.rules.specs.Every.{Every, none, also}
use Rattle.lexicon.specs.Expansion.{bits_of, expand}
use Rattle.lexicon.proofs.Expansions.{power_positive, bits_join, low_bits, last_bits}
use Rattle.buffer.specs.declared.Writer.{Writer}
use Rattle.buffer.specs.Appends.{Appends}
use Rattle.buffer.proofs.Appending.{appends_none, appends_then}
use Rattle.lexicon.specs.Values.{read}
use Rattle.lexicon.proofs.Limits.{read_more}
use Rattle.blob_value.specs.Marks.{value_of}
use Rattle.blob_value.specs.Spread.{with_digit, parts, Small}

-- ---- numbers as bytes

-- the parts of a number have its bits
pub parts_bits : (w k v : ℕ) → expand w (parts w k v) ≡ bits_of (k * w) v
parts_bits w zero v = let e : 0 ≡ 0 * w = omega arith in ap (λ (n : ℕ). bits_of n v) e
parts_bits w (suc k) v =
    let e : w + k * w ≡ suc k * w = omega arith in
    ap (λ (l : List ℕ). l ++ expand w (parts w k v)) (last_bits w (v / 2 ^ (k * w)))
    ∙ ap (λ (l : List ℕ). bits_of w (v / 2 ^ (k * w)) ++ l) (parts_bits w k v ∙ sym (last_bits (k * w) v))
    ∙ sym (low_bits w (k * w) v)
    ∙ ap (λ (n : ℕ). bits_of n v) e

pub parts_small : (w k v : ℕ) → Every (λ b. b < 2 ^ w) (parts w k v)
parts_small w zero v = none
parts_small w (suc k) v = also (mod-lt (v / 2 ^ (k * w)) (power_positive w)) (parts_small w k v)

-- the parts are put but for the last k
pub record Spreading (w count v : ℕ) (u : Writer) (k : ℕ) (u' : Writer) : Type 0 where
  pub before : List ℕ
  pub are : before ++ parts w k v ≡ parts w count v
  pub appends : Appends u before u'

module _ (w count v : ℕ) (u : Writer) where
  pub spread_begins : Spreading w count v u count u
  spread_begins = record { before = []; are = refl; appends = appends_none u }

  pub spread_more : {j k b : ℕ} {x y : Writer} → Spreading w count v u j x → suc k ≡ j → b ≡ v / 2 ^ (k * w) % 2 ^ w →
      Appends x (b ∷ []) y → Spreading w count v u k y
  spread_more {k = k} {b} s f e a =
      record {
        before = s.before ++ (b ∷ []);
        are =
            append_assoc s.before (b ∷ []) (parts w k v)
            ∙ ap (λ (x : ℕ). s.before ++ (x ∷ parts w k v)) e
            ∙ ap (λ (n : ℕ). s.before ++ parts w n v) f
            ∙ s.are;
        appends = appends_then s.appends a;
      }

-- ---- digits as a number

-- the number of a row of digits has their bits, behind those of the number before
pub number_bits : (w n a : ℕ) (ds : List ℕ) → Every (λ b. value_of (2 ^ w) b < 2 ^ w) ds →
    bits_of (n + length ds * w) (foldl (with_digit (2 ^ w)) a ds) ≡ bits_of n a ++ expand w (map (value_of (2 ^ w)) ds)
number_bits w n a [] s =
    let e : n + 0 * w ≡ n = omega arith in
    ap (λ (m : ℕ). bits_of m a) e ∙ sym (append-nil (bits_of n a))
number_bits w n a (d ∷ ds) (also h s) =
    let v = value_of (2 ^ w) d in
    let e : n + length (d ∷ ds) * w ≡ n + w + length ds * w = omega arith in
    ap (λ (m : ℕ). bits_of m (foldl (with_digit (2 ^ w)) (a * 2 ^ w + v) ds)) e
    ∙ number_bits w (n + w) (a * 2 ^ w + v) ds s
    ∙ ap (λ (l : List ℕ). l ++ expand w (map (value_of (2 ^ w)) ds)) (bits_join w n a v h)
    ∙ append_assoc (bits_of n a) (bits_of w v) (expand w (map (value_of (2 ^ w)) ds))

-- so the parts of a unit's number have the bits of its digits, if they are as many
pub unit_bits : (w m k : ℕ) (ds : List ℕ) → Every (λ b. value_of (2 ^ w) b < 2 ^ w) ds → length ds * w ≡ k * m →
    expand m (parts m k (foldl (with_digit (2 ^ w)) 0 ds)) ≡ expand w (map (value_of (2 ^ w)) ds)
unit_bits w m k ds s e =
    let v = foldl (with_digit (2 ^ w)) 0 ds in
    let f : k * m ≡ 0 + length ds * w = omega (arith, e) in
    parts_bits m k v ∙ ap (λ (n : ℕ). bits_of n v) f ∙ number_bits w 0 0 ds s

-- ---- the sum over a unit, digit by digit

power_grows : (k d : ℕ) → 64 ^ k ≤ 64 ^ (k + d)
power_grows k zero = subst (λ (n : ℕ). 64 ^ k ≤ 64 ^ n) (sym (add-zero k)) (omega arith)
power_grows k (suc d) = subst (λ (n : ℕ). 64 ^ k ≤ 64 ^ n) (sym (add-suc k d)) (omega (arith, power_grows k d, pow-succ' 64 (k + d)))

module _ (piece : List ℕ) (i n radix : ℕ) where
  -- the sum of k digits
  pub record Sum (k sum : ℕ) : Type 0 where
    pub within : k ≤ n
    pub small : sum < 64 ^ k
    pub sum_is : sum ≡ foldl (with_digit radix) 0 (read piece i k)

  module _ (s : Small piece i n radix) {k sum : ℕ} (a : Sum k sum) (h : k < n) where
    -- one digit more fits in fewer bits than 64
    below : sum * 64 + 64 ≤ 64 ^ suc k
    below = omega (arith, a.small, pow-succ' 64 k)

    top : 64 ^ suc k ≤ 0x1000000000000
    top =
        let e : suc k + (8 - suc k) ≡ 8 = omega (arith, s.few, h) in
        subst (λ (m : ℕ). 64 ^ suc k ≤ 64 ^ m) e (power_grows (suc k) (8 - suc k))

    product : sum * radix ≤ sum * 64
    product = mul-le-mul_left sum s.radix_small

    pub product_fits : sum * radix < 0x1000000000000
    product_fits = omega (arith, below, top, product)

    -- the digit of the loop, which goes over those of the unit alone
    digit_at : {m v : ℕ} → n ≡ m → v ≡ value_of radix (get_or (take m (drop i piece)) k 0) → v ≡ value_of radix (get_or piece (i + k) 0)
    digit_at {m} f e = e ∙ ap (value_of radix) (get_or-take m (drop i piece) k 0 (omega (arith, f, h)) ∙ get_or-drop i piece k 0)

    value_small : {v : ℕ} → v ≡ value_of radix (get_or piece (i + k) 0) → v < 64
    value_small e = omega (arith, e, s.digits_small k h, s.radix_small)

    pub sum_fits : {m v : ℕ} → n ≡ m → v ≡ value_of radix (get_or (take m (drop i piece)) k 0) → sum * radix + v < 0x1000000000000
    sum_fits f e = omega (arith, below, top, product, value_small (digit_at f e))

    pub sum_more : {m v : ℕ} → n ≡ m → v ≡ value_of radix (get_or (take m (drop i piece)) k 0) → Sum (k + 1) (sum * radix + v)
    sum_more {v = v} f e =
        let one : suc k ≡ k + 1 = omega arith in
        let d = digit_at f e in
        record {
          within = omega (arith, h);
          small = subst (λ (m : ℕ). sum * radix + v < 64 ^ m) one (omega (arith, below, product, value_small d));
          sum_is =
              ap (λ (x : ℕ). x * radix + v) a.sum_is
              ∙ ap (λ (x : ℕ). foldl (with_digit radix) 0 (read piece i k) * radix + x) d
              ∙ sym (read_more (with_digit radix) piece 0 i k)
              ∙ ap (λ (m : ℕ). foldl (with_digit radix) 0 (read piece i m)) one;
        }
