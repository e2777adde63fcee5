-- The digit expansion, once over the digit's width: the bits of a number are as many as the width and tell it, any row of bits is a
-- number's, and so of rows of numbers; the bits left over at the end are the last number's lowest. Assumes nothing.
use mathlib.Core.Path.{◌≡◌, refl, sym, ap, subst, ◌∙◌}
use mathlib.Core.List.{List, [], ◌∷◌, ◌++◌, append_assoc, append-nil}
use Prim.Native.Nat.{ℕ, zero, suc, ◌+◌, ◌*◌, ◌/◌, ◌%◌, ◌^◌, ◌≤◌, ◌<◌}
use native.Mathlib.Nat.{pow-succ', one-le-pow, add-zero, add-suc, mul-zero, mul-suc, mul_left_comm, div-add-mod', mod-lt, mul-le-mul_right}
use native.Mathlib.Omega.{arith}
use lib.ListN.{length, length-append, length-replicate, replicate, replicate-append-replicate, get_or, drop}
use Rattle.rules.specs.Every.{Every, none, also}
use Rattle.rules.proofs.Every.{every_append}
use Rattle.lexicon.specs.Expansion.{bits_of, expand}

-- ---- lists

pub same_cons : {a b : ℕ} {us vs : List ℕ} → a ≡ b → us ≡ vs → a ∷ us ≡ b ∷ vs
same_cons {b = b} {us = us} p q = ap (λ (u : ℕ). u ∷ us) p ∙ ap (λ (l : List ℕ). b ∷ l) q

-- parts of the same lengths are the same
pub parts_same : (us vs : List ℕ) {xs ys : List ℕ} → length us ≡ length vs → us ++ xs ≡ vs ++ ys → (us ≡ vs) × (xs ≡ ys)
parts_same [] [] e h = (refl, h)
parts_same [] (v ∷ vs) e h = absurd (omega (arith, e))
parts_same (u ∷ us) [] e h = absurd (omega (arith, e))
parts_same (u ∷ us) (v ∷ vs) e h =
    let r = parts_same us vs (omega (arith, e)) (ap (drop 1) h) in (same_cons (ap (λ (l : List ℕ). get_or l 0 0) h) r.0, r.1)

pub ends_same : (us vs : List ℕ) {xs ys : List ℕ} → length xs ≡ length ys → us ++ xs ≡ vs ++ ys → (us ≡ vs) × (xs ≡ ys)
ends_same us vs {xs} {ys} e h =
    let n = length-append us xs in let m = length-append vs ys in let l = ap length h in
    parts_same us vs (omega (arith, e, n, m, l)) h

pub every_parts : {P : ℕ → Type 0} (us : List ℕ) {vs : List ℕ} → Every P (us ++ vs) → Every P us × Every P vs
every_parts [] e = (none, e)
every_parts (u ∷ us) (also p e) = let r = every_parts us e in (also p r.0, r.1)

-- the first n of a list that is long enough
pub first_of : (n : ℕ) (bs : List ℕ) → n ≤ length bs → (us : List ℕ) × (vs : List ℕ) × (length us ≡ n) × (us ++ vs ≡ bs)
first_of zero bs h = ([], bs, refl, refl)
first_of (suc n) [] h = absurd (omega (arith, h))
first_of (suc n) (b ∷ bs) h =
    let r = first_of n bs (omega (arith, h)) in (b ∷ r.0, r.1, omega (arith, r.2), ap (λ (l : List ℕ). b ∷ l) r.3)

-- the last of a list that is not empty
pub record Last (xs : List ℕ) : Type 0 where
  pub front : List ℕ
  pub last : ℕ
  pub are : xs ≡ front ++ (last ∷ [])

pub last_of : (xs : List ℕ) → 1 ≤ length xs → Last xs
last_of [] h = absurd (omega (arith, h))
last_of (x ∷ []) h = record { front = []; last = x; are = refl }
last_of (x ∷ y ∷ xs) h =
    let l = last_of (y ∷ xs) (omega arith) in
    record { front = x ∷ l.front; last = l.last; are = ap (λ (zs : List ℕ). x ∷ zs) l.are }

-- ---- the bits of a number

pub power_positive : (w : ℕ) → 0 < 2 ^ w
power_positive w = one-le-pow w 2 (omega arith)

-- a number and w more bits behind it
pub bits_join : (w n a v : ℕ) → v < 2 ^ w → bits_of (n + w) (a * 2 ^ w + v) ≡ bits_of n a ++ bits_of w v
bits_join zero n a v h =
    let e : a * 1 + v ≡ a = omega arith in
    ap (λ (m : ℕ). bits_of m (a * 1 + v)) (add-zero n) ∙ ap (bits_of n) e ∙ sym (append-nil (bits_of n a))
bits_join (suc w) n a v h =
    let p : a * 2 ^ suc w ≡ 2 * (a * 2 ^ w) = ap (λ (x : ℕ). a * x) (pow-succ' 2 w) ∙ mul_left_comm a 2 (2 ^ w) in
    let q : (a * 2 ^ suc w + v) / 2 ≡ a * 2 ^ w + v / 2 = omega (arith, p) in
    let r : (a * 2 ^ suc w + v) % 2 ≡ v % 2 = omega (arith, p) in
    let s : v / 2 < 2 ^ w = omega (arith, pow-succ' 2 w) in
    ap (λ (m : ℕ). bits_of m (a * 2 ^ suc w + v)) (add-suc n w)
    ∙ ap (λ (x : ℕ). bits_of (n + w) x ++ ((a * 2 ^ suc w + v) % 2 ∷ [])) q
    ∙ ap (λ (x : ℕ). bits_of (n + w) (a * 2 ^ w + v / 2) ++ (x ∷ [])) r
    ∙ ap (λ (l : List ℕ). l ++ (v % 2 ∷ [])) (bits_join w n a (v / 2) s)
    ∙ append_assoc (bits_of n a) (bits_of w (v / 2)) (v % 2 ∷ [])

pub bits_length : (w v : ℕ) → length (bits_of w v) ≡ w
bits_length zero v = refl
bits_length (suc w) v = length-append (bits_of w (v / 2)) (v % 2 ∷ []) ∙ omega (arith, bits_length w (v / 2))

pub bits_bits : (w v : ℕ) → Every (λ b. b < 2) (bits_of w v)
bits_bits zero v = none
bits_bits (suc w) v = every_append (bits_bits w (v / 2)) (also (mod-lt v (omega arith)) none)

-- the bits tell the number
pub bits_value : (w a b : ℕ) → a < 2 ^ w → b < 2 ^ w → bits_of w a ≡ bits_of w b → a ≡ b
bits_value zero a b h k e = omega arith
bits_value (suc w) a b h k e =
    let s = ends_same (bits_of w (a / 2)) (bits_of w (b / 2)) refl e in
    let q = bits_value w (a / 2) (b / 2) (omega (arith, pow-succ' 2 w)) (omega (arith, pow-succ' 2 w)) s.0 in
    let r : a % 2 ≡ b % 2 = ap (λ (l : List ℕ). get_or l 0 0) s.1 in
    omega (arith, q, r)

-- any row of bits is a number's
pub number_of : (w : ℕ) (bits : List ℕ) → Every (λ b. b < 2) bits → length bits ≡ w → (v : ℕ) × (v < 2 ^ w) × (bits_of w v ≡ bits)
number_of zero [] a e = (0, omega arith, refl)
number_of zero (b ∷ bits) a e = absurd (omega (arith, e))
number_of (suc w) [] a e = absurd (omega (arith, e))
number_of (suc w) (b ∷ bits) (also h a) e =
    let r = number_of w bits a (omega (arith, e)) in
    let m : b * 2 ^ w ≤ 1 * 2 ^ w = mul-le-mul_right (2 ^ w) (omega arith) in
    let q : b % 2 ≡ b = omega arith in
    let one : suc w ≡ 1 + w = omega arith in (
      b * 2 ^ w + r.0,
      omega (arith, m, r.1, pow-succ' 2 w),
      ap (λ (k : ℕ). bits_of k (b * 2 ^ w + r.0)) one ∙ bits_join w 1 b r.0 r.1 ∙ same_cons q r.2,
    )

abbrev zeros : ℕ → List ℕ
zeros k = replicate k 0

pub bits_zero : (w : ℕ) → bits_of w 0 ≡ replicate w 0
bits_zero zero = refl
bits_zero (suc w) = ap (λ (l : List ℕ). l ++ zeros 1) (bits_zero w) ∙ replicate-append-replicate w 1 0 ∙ ap zeros one
  where
    one : w + 1 ≡ suc w
    one = omega arith

-- the lowest k
pub low_bits : (n k v : ℕ) → bits_of (n + k) v ≡ bits_of n (v / 2 ^ k) ++ bits_of k (v % 2 ^ k)
low_bits n k v =
    ap (bits_of (n + k)) (sym (div-add-mod' v (2 ^ k))) ∙ bits_join k n (v / 2 ^ k) (v % 2 ^ k) (mod-lt v (power_positive k))

-- no others matter
pub last_bits : (w v : ℕ) → bits_of w (v % 2 ^ w) ≡ bits_of w v
last_bits w v =
    let e : 0 + w ≡ w = omega arith in
    sym (low_bits 0 w v) ∙ ap (λ (n : ℕ). bits_of n v) e

-- ---- the bits of a row

pub expand_append : (w : ℕ) (us vs : List ℕ) → expand w (us ++ vs) ≡ expand w us ++ expand w vs
expand_append w [] vs = refl
expand_append w (u ∷ us) vs =
    ap (λ (l : List ℕ). bits_of w u ++ l) (expand_append w us vs) ∙ sym (append_assoc (bits_of w u) (expand w us) (expand w vs))

-- one digit more
pub expand_more : (w : ℕ) (vs : List ℕ) (v : ℕ) → expand w (vs ++ (v ∷ [])) ≡ expand w vs ++ bits_of w v
expand_more w vs v = expand_append w vs (v ∷ []) ∙ ap (λ (l : List ℕ). expand w vs ++ l) (append-nil (bits_of w v))

pub expand_length : (w : ℕ) (vs : List ℕ) → length (expand w vs) ≡ w * length vs
expand_length w [] = sym (mul-zero w)
expand_length w (v ∷ vs) =
    let n = length-append (bits_of w v) (expand w vs) in
    omega (arith, n, bits_length w v, expand_length w vs, mul-suc w (length vs))

pub expand_bits : (w : ℕ) (vs : List ℕ) → Every (λ b. b < 2) (expand w vs)
expand_bits w [] = none
expand_bits w (v ∷ vs) = every_append (bits_bits w v) (expand_bits w vs)

-- the bits tell the row
pub expand_same : (w : ℕ) → 1 ≤ w → (us vs : List ℕ) → Every (λ v. v < 2 ^ w) us → Every (λ v. v < 2 ^ w) vs → expand w us ≡ expand w vs → us ≡ vs
expand_same w o [] [] f g e = refl
expand_same w o [] (v ∷ vs) f g e = absurd (omega (arith, o, bits_length w v, length-append (bits_of w v) (expand w vs), ap length e))
expand_same w o (u ∷ us) [] f g e = absurd (omega (arith, o, bits_length w u, length-append (bits_of w u) (expand w us), ap length e))
expand_same w o (u ∷ us) (v ∷ vs) (also h f) (also k g) e =
    let r = parts_same (bits_of w u) (bits_of w v) (bits_length w u ∙ sym (bits_length w v)) e in
    same_cons (bits_value w u v h k r.0) (expand_same w o us vs f g r.1)

-- any row of bits, w for each of n numbers, is a row's
pub record RowOf (w n : ℕ) (bits : List ℕ) : Type 0 where
  pub numbers : List ℕ
  pub count : length numbers ≡ n
  pub small : Every (λ v. v < 2 ^ w) numbers
  pub bits_are : expand w numbers ≡ bits

pub rows : (w n : ℕ) (bits : List ℕ) → Every (λ b. b < 2) bits → length bits ≡ w * n → RowOf w n bits
rows w zero [] a e = record { numbers = []; count = refl; small = none; bits_are = refl }
rows w zero (b ∷ bits) a e = absurd (omega (arith, e, mul-zero w))
rows w (suc n) bits a e = go (λ vs b l. rows w n vs b l) (first_of w bits (omega (arith, e, mul-suc w n)))
  where
    more : (us vs : List ℕ) → us ++ vs ≡ bits → (v : ℕ) × (v < 2 ^ w) × (bits_of w v ≡ us) → RowOf w n vs → RowOf w (suc n) bits
    more us vs f (v, h, g) r =
        record {
          numbers = v ∷ r.numbers;
          count = omega (arith, r.count);
          small = also h r.small;
          bits_are = ap (λ (l : List ℕ). l ++ expand w r.numbers) g ∙ ap (λ (l : List ℕ). us ++ l) r.bits_are ∙ f;
        }

    go : ((vs : List ℕ) → Every (λ b. b < 2) vs → length vs ≡ w * n → RowOf w n vs) → (us : List ℕ) × (vs : List ℕ) × (length us ≡ w) × (us ++ vs ≡ bits) → RowOf w (suc n) bits
    go again (us, vs, l, f) =
        let p = every_parts us (subst (Every (λ b. b < 2)) (sym f) a) in
        let m : length vs ≡ w * n = omega (arith, e, mul-suc w n, l, length-append us vs, ap length f) in
        more us vs f (number_of w us p.0 l) (again vs p.1 m)

-- of width 1, the row itself
pub expand_one : (bits : List ℕ) → Every (λ b. b < 2) bits → expand 1 bits ≡ bits
expand_one [] a = refl
expand_one (b ∷ bits) (also h a) = same_cons (omega arith) (expand_one bits a)

-- ---- the bits left over are the last number's

pub left_zero : (vs : List ℕ) (v n k : ℕ) (bits : List ℕ) → expand (n + k) (vs ++ (v ∷ [])) ≡ bits ++ replicate k 0 → v % 2 ^ k ≡ 0
left_zero vs v n k bits e =
    let f : (expand (n + k) vs ++ bits_of n (v / 2 ^ k)) ++ bits_of k (v % 2 ^ k) ≡ bits ++ replicate k 0 =
    append_assoc (expand (n + k) vs) (bits_of n (v / 2 ^ k)) (bits_of k (v % 2 ^ k))
    ∙ ap (λ (l : List ℕ). expand (n + k) vs ++ l) (sym (low_bits n k v))
    ∙ sym (expand_more (n + k) vs v)
    ∙ e in
    let g = ends_same (expand (n + k) vs ++ bits_of n (v / 2 ^ k)) bits (bits_length k (v % 2 ^ k) ∙ sym (length-replicate k 0)) f in
    bits_value k (v % 2 ^ k) 0 (mod-lt v (power_positive k)) (power_positive k) (g.1 ∙ sym (bits_zero k))

pub zero_left : (vs : List ℕ) (v n k : ℕ) → v % 2 ^ k ≡ 0 → expand (n + k) (vs ++ (v ∷ [])) ≡ (expand (n + k) vs ++ bits_of n (v / 2 ^ k)) ++ replicate k 0
zero_left vs v n k e =
    expand_more (n + k) vs v
    ∙ ap (λ (l : List ℕ). expand (n + k) vs ++ l) (low_bits n k v ∙ ap (λ (r : ℕ). bits_of n (v / 2 ^ k) ++ bits_of k r) e ∙ ap (λ (l : List ℕ). bits_of n (v / 2 ^ k) ++ l) (bits_zero k))
    ∙ sym (append_assoc (expand (n + k) vs) (bits_of n (v / 2 ^ k)) (replicate k 0))
