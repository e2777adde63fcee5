-- Every text and every place has one line and one column, and only one; where the line begins; and the column in plain ASCII. Assumes
-- nothing.
use mathlib.Core.Path.{◌≡◌, refl, sym, subst}
use mathlib.Core.Logic.{◌⊎◌, inl, inr}
use mathlib.Core.List.{List, []}
use Prim.Native.Nat.{ℕ, zero, suc, min, ◌+◌, ◌≤◌, ◌<◌}
use native.Mathlib.Nat.{not-suc-le-zero}
use native.Mathlib.Decide.{dec_le}
use native.Mathlib.Omega.{arith}
use lib.ListN.{length, get_or}
use Rattle.rules.specs.Every.{Every}
use Rattle.rules.specs.Rule.{Takes, byte, left, Fails}
use Rattle.rules.proofs.Classes.{in_first_lem}
use Rattle.rules.proofs.Every.{every_at}
use Rattle.rules.proofs.Matches.{starting, byte_end}
use Rattle.rules.proofs.Ways.{grows, end_takes}
use Rattle.lexicon.specs.Utf8.{sequence}
use Rattle.lexicon.proofs.Determined.{sequence_single}
use Rattle.decisions.proofs.Tests.{settled}
use Rattle.decisions.proofs.Cuts.{takes, begun}
use Rattle.values.specs.Position.{feed, Lines, first, next, same, Character, encoded, single, Characters, none, more, Before, Position, stands}

module _ (text : List ℕ) where
  -- ---- only one

  one_line : {p q l m b c : ℕ} → Lines text p l b → Lines text q m c → p ≡ q → (l ≡ m) × (b ≡ c)
  one_line first first e = (refl, refl)
  one_line first (next y u) e = absurd (omega (arith, e, byte_end u))
  one_line first (same y h g) e = absurd (omega (arith, e))
  one_line (next x t) first e = absurd (omega (arith, e, byte_end t))
  one_line (next x t) (next y u) e = let z = one_line x y (omega (arith, e, byte_end t, byte_end u)) in (omega (arith, z.0), e)
  one_line (next x t) (same y h g) e = absurd (g.none (starting (omega (arith, e, byte_end t)) t))
  one_line (same x h f) first e = absurd (omega (arith, e))
  one_line (same x h f) (next y u) e = absurd (f.none (starting (omega (arith, e, byte_end u)) u))
  one_line (same x h f) (same y k g) e = one_line x y (omega (arith, e))

  pub one_character : {i j k : ℕ} → Character text i j → Character text i k → j ≡ k
  one_character (encoded t) (encoded u) = (sequence_single text).same t u
  one_character (encoded t) (single h f) = absurd (f.none t)
  one_character (single h f) (encoded t) = absurd (f.none t)
  one_character (single h f) (single k g) = refl

  pub character_grows : {i j : ℕ} → Character text i j → i < j
  character_grows (encoded t) = grows sequence refl t
  character_grows (single h f) = omega arith

  moved : {i j k : ℕ} → i ≡ j → Character text i k → Character text j k
  moved {k = k} e c = subst (λ (x : ℕ). Character text x k) e c

  -- so many characters lead to one place
  same_count : {b r s n : ℕ} → Characters text b r n → Characters text b s n → r ≡ s
  same_count none none = refl
  same_count (more a c) (more b d) = one_character (moved (same_count a b) c) d

  -- fewer of them lead to a place behind which one more stands
  one_more_lem : {b r s n m : ℕ} → Characters text b r n → Characters text b s m → n < m → (j : ℕ) × Character text r j × (j ≤ s)
  one_more_lem x none h = absurd (not-suc-le-zero h)
  one_more_lem {b} {r} {s} {n} x (more {i = i} {n = m} y c) h = by (dec_le (suc n) m) (one_more_lem x y)
    where
      by : Dec (suc n ≤ m) → (n < m → (j : ℕ) × Character text r j × (j ≤ i)) → (j : ℕ) × Character text r j × (j ≤ s)
      by (yes l) near = let z = near l in (z.0, z.1, omega (arith, z.2, character_grows c))
      by (no l) near =
          let e : n ≡ m = omega (arith, l, h) in
          (s, moved (sym (same_count (subst (Characters text b r) e x) y)) c, omega arith)

  -- none is left before the place
  fewest : {p b n m : ℕ} → Before text b p n → Before text b p m → m ≤ n
  fewest {p} {b} {n} {m} x y = by (dec_le m n)
    where
      by : Dec (m ≤ n) → m ≤ n
      by (yes l) = l
      by (no l) = let z = one_more_lem x.characters y.characters (omega (arith, l)) in absurd (omega (arith, x.last z.1, z.2, y.within))

  pub one_position : {p l m c d : ℕ} → Position text p l c → Position text p m d → (l ≡ m) × (c ≡ d)
  one_position (stands {end = end} {b = b} {n = n} q x c) (stands {end = other} r y d) =
      let e : end ≡ other = omega (arith, q, r) in
      let z = one_line x y e in
      let w = subst (λ (y : ℕ). Before text y other n) z.1 (subst (λ (y : ℕ). Before text b y n) e c) in
      (z.0, omega (arith, fewest w d, fewest d w))

  -- ---- one for every place

  lines : (p : ℕ) → p ≤ length text → (l : ℕ) × (b : ℕ) × Lines text p l b
  lines zero h = (1, 0, first)
  lines (suc i) h = by (lines i (omega (arith, h))) (settled (takes text feed i (suc i)))
    where
      by : ((l : ℕ) × (b : ℕ) × Lines text i l b) → Takes text feed i (suc i) ⊎ (Takes text feed i (suc i) → ⊥) → (l : ℕ) × (b : ℕ) × Lines text (suc i) l b
      by x (inl t) = (_, _, next x.2 t)
      by x (inr n) = (_, _, same x.2 (omega (arith, h)) (record { none = λ t. n (subst (Takes text feed i) (omega (arith, byte_end t)) t) }))

  -- the character at a place
  character : (i : ℕ) → i < length text → (j : ℕ) × Character text i j
  character i h = by (settled (begun text sequence i))
    where
      by : ((j : ℕ) × Takes text sequence i j) ⊎ (((j : ℕ) × Takes text sequence i j) → ⊥) → (j : ℕ) × Character text i j
      by (inl x) = (x.0, encoded x.1)
      by (inr n) = (suc i, single h (record { none = λ {k} t. n (k, t) }))

  -- up to an end in the text
  module _ (end b : ℕ) (h : end ≤ length text) where
    before : (fuel i n : ℕ) → i ≤ end → end ≤ i + fuel → Characters text b i n → (m : ℕ) × Before text b end m
    before zero i n g f c = (n, record { reached = i; characters = c; within = g; last = λ d. omega (arith, f, character_grows d) })
    before (suc fuel) i n g f c = by (dec_le (suc i) end) (λ j k l d. before fuel j (suc n) l (omega (arith, f, k)) (more c d))
      where
        stay : ((j : ℕ) → Character text i j → end < j) → (m : ℕ) × Before text b end m
        stay l = (n, record { reached = i; characters = c; within = g; last = λ {j} d. l j d })

        on : (j : ℕ) → Character text i j → Dec (j ≤ end) → ((j : ℕ) → i < j → j ≤ end → Character text i j → (m : ℕ) × Before text b end m) → (m : ℕ) × Before text b end m
        on j d (yes l) further = further j (character_grows d) l d
        on j d (no l) further = stay (λ k e. omega (arith, l, one_character d e))

        by : Dec (suc i ≤ end) → ((j : ℕ) → i < j → j ≤ end → Character text i j → (m : ℕ) × Before text b end m) → (m : ℕ) × Before text b end m
        by (yes l) further = let x = character i (omega (arith, l, h)) in on x.0 x.1 (dec_le x.0 end) further
        by (no l) further = stay (λ j d. omega (arith, l, character_grows d))

  pub begins_before : {p l b : ℕ} → Lines text p l b → b ≤ p
  begins_before first = omega arith
  begins_before (next x t) = omega arith
  begins_before (same x h f) = omega (arith, begins_before x)

  pub line_small : {p l b : ℕ} → Lines text p l b → l ≤ suc p
  line_small first = omega arith
  line_small (next x t) = omega (arith, line_small x, byte_end t)
  line_small (same x h f) = omega (arith, line_small x)

  pub count_small : {b r n : ℕ} → Characters text b r n → n ≤ r
  count_small none = omega arith
  count_small (more x c) = omega (arith, count_small x, character_grows c)

  position : (p : ℕ) → (l : ℕ) × (c : ℕ) × Position text p l c
  position p =
      let end = min p (length text) in
      let x = lines end (omega arith) in
      let y = before end x.1 (omega arith) end x.1 0 (begins_before x.2) (omega arith) none in
      (x.0, suc y.0, stands refl x.2 y.1)

  pub exactly_one : (p : ℕ) → (line : ℕ) × (column : ℕ) × Position text p line column ×
      ((l c : ℕ) → Position text p l c → (l ≡ line) × (c ≡ column))
  exactly_one p = let x = position p in (x.0, x.1, x.2, λ l c y. one_position y x.2)

  -- ---- where a line begins

  -- at the front or behind a byte 0A, and none stands between there and the place
  pub line_begins : {p l b : ℕ} → Lines text p l b → (b ≡ 0) ⊎ ((i : ℕ) × Takes text feed i b)
  line_begins first = inl refl
  line_begins (next {i = i} x t) = inr (i, t)
  line_begins (same x h f) = line_begins x

  pub none_between : {p l b i : ℕ} → Lines text p l b → b ≤ i → i < p → Fails text feed i
  none_between first g h = absurd (omega (arith, g, h))
  none_between (next x t) g h = absurd (omega (arith, g, h))
  none_between {i = i} (same {i = k} x h f) g l = by (dec_le (suc i) k) (none_between x g)
    where
      by : Dec (suc i ≤ k) → (i < k → Fails text feed i) → Fails text feed i
      by (yes m) before = before m
      by (no m) before = subst (Fails text feed) (omega (arith, m, l)) f

  -- ---- in plain ASCII the column is by bytes

  pub plain_byte_lem : {i : ℕ} → i < length text → get_or text i 0 < 0x80 → Character text i (i + 1)
  plain_byte_lem h l = encoded (left (byte (h, in_first_lem 0x00 0x7F [] _ (omega arith) (omega (arith, l))) refl))

  module _ (all : Every (λ (b : ℕ). b < 0x80) text) where
    plain_character : {i : ℕ} → i < length text → Character text i (i + 1)
    plain_character {i} h = plain_byte_lem h (every_at all 0 i h)

    character_within : {i j : ℕ} → Character text i j → i < length text
    character_within {i} (encoded t) = by (dec_le (suc i) (length text))
      where
        by : Dec (suc i ≤ length text) → i < length text
        by (yes l) = l
        by (no l) = absurd (end_takes text sequence refl (omega (arith, l)) t)
    character_within (single h f) = h

    plain_count : {b r n : ℕ} → Characters text b r n → r ≡ b + n
    plain_count none = omega arith
    plain_count (more x c) = omega (arith, plain_count x, one_character c (plain_character (character_within c)))

    plain_reached : {b p n : ℕ} (x : Before text b p n) → p ≤ length text → x.reached ≡ p
    plain_reached {p = p} x h = by (dec_le (suc x.reached) p)
      where
        by : Dec (suc x.reached ≤ p) → x.reached ≡ p
        by (yes l) = absurd (omega (arith, l, x.last (plain_character (omega (arith, l, h)))))
        by (no l) = omega (arith, l, x.within)

    pub plain_column : {p l c : ℕ} → Position text p l c → (b : ℕ) × Lines text (min p (length text)) l b × (b + c ≡ suc (min p (length text)))
    plain_column (stands {l = l} {b = b} q x y) =
        (b, subst (λ (e : ℕ). Lines text e l b) q x, omega (arith, q, plain_count y.characters, plain_reached y (omega (arith, q))))
