-- A Fraction: a significand, by its view a number, a point or a slash, and digits or a number; and a power. A significand that is
-- shorter than another is followed by a byte of a word, so a power stands only behind the longest one. Assumes nothing.
use mathlib.Core.Path.{◌≡◌, refl, subst}
use mathlib.Core.Bool.{true}
use mathlib.Core.List.{List}
use Prim.Native.Nat.{ℕ, ◌+◌, ◌≤◌, ◌<◌}
use native.Mathlib.Decide.{dec_le}
use native.Mathlib.Nat.{le_antisymm}
use native.Mathlib.Omega.{arith}
use Rattle.rules.specs.Class.{Class, just}
use Rattle.rules.specs.Rule.{one, ◌then◌, opt, At, Takes, byte, both, left, right}
use Rattle.rules.proofs.Classes.{apart, apart_span}
use Rattle.rules.proofs.Matches.{starting}
use Rattle.rules.proofs.Ways.{never}
use Rattle.lexicon.specs.declared.Base.{Base}
use Rattle.lexicon.specs.Bytes.{decimal, word_rest, digits}
use Rattle.lexicon.specs.Space.{blank, sp, Skips}
use Rattle.lexicon.specs.Literals.{sign, point_of_base, nonsigned_point, significand}
use Rattle.lexicon.specs.Values.{Digits}
use Rattle.lexicon.proofs.Bases.{some_base, any_base_lem}
use Rattle.lexicon.proofs.Spaces.{skips_same, landed, Ahead, ahead_apart}
use Rattle.lexicon.proofs.Groups.{digits_cut, digits_at, to_row, of_row}
use Rattle.lexicon.specs.Parts.{Numeral, SomeNumeral, Start}
use Rattle.lexicon.proofs.Numbers.{clear, view, numeral_at, numeral_same, valued, of_nonsigned, to_nonsigned, to_base, further_ahead}
use Rattle.lexicon.proofs.Integers.{decimal_blank, start_sign, start_same, start_of, to_integer, some_cut}

-- ---- a symbol with dividing space on both sides

pub record Symbol (text : List ℕ) (c i k : ℕ) : Type 0 where
  pub place : ℕ
  pub skipped : Skips text i place
  pub stands : At text (just c) place
  pub rest : Takes text (opt sp) (place + 1) k

-- a byte that begins no dividing space and is none of a word
pub record Apart (c : ℕ) : Type 0 where
  pub no_blank : never (just c) blank ≡ true
  pub no_word : apart word_rest (just c) ≡ true

module _ (text : List ℕ) where
  pub of_spaced : (c : ℕ) → Apart c → {i k : ℕ} → Takes text (opt sp then one (just c) then opt sp) i k → Symbol text c i k
  of_spaced c a (both s (both (byte x e) t)) = record { place = _; skipped = landed (just c) a.no_blank s x; stands = x; rest = starting e t }

  pub to_spaced : (c : ℕ) {i k : ℕ} → Symbol text c i k → Takes text (opt sp then one (just c) then opt sp) i k
  to_spaced c s = both s.skipped.takes (both (byte s.stands refl) s.rest)

  pub symbol_ahead : {c i k : ℕ} → Symbol text c i k → Ahead text (just c) i
  symbol_ahead s = record { place = s.place; skipped = s.skipped; stands = s.stands }

  -- a number that such a byte follows is no shorter than another
  pub stops : (c : ℕ) → Apart c → {j : ℕ} → Ahead text (just c) j → Ahead text word_rest j → ⊥
  stops c a x y = ahead_apart word_rest (just c) a.no_word y x

  -- where what follows begins is fixed
  pub symbol_same : (c d : Class) {b i k l : ℕ} → never c blank ≡ true → never d blank ≡ true → Symbol text b i k → At text c k → Symbol text b i l → At text d l → k ≡ l
  symbol_same c d {b} {k = k} {l = l} p q s x t y =
      skips_same (landed c p s.rest x)
      (subst (λ (o : ℕ). Skips text (o + 1) l) (skips_same t.skipped s.skipped) (landed d q t.rest y))

pub point_apart : Apart 0x2E
unfolding never apart apart_span
point_apart = record { no_blank = refl; no_word = refl }

pub slash_apart : Apart 0x2F
unfolding never apart apart_span
slash_apart = record { no_blank = refl; no_word = refl }

pub star_apart : Apart 0x2A
unfolding never apart apart_span
star_apart = record { no_blank = refl; no_word = refl }

pub caret_apart : Apart 0x5E
unfolding never apart apart_span
caret_apart = record { no_blank = refl; no_word = refl }

pub point_slash : apart (just 0x2E) (just 0x2F) ≡ true
unfolding apart apart_span
point_slash = refl

-- ---- the significand

-- from g, the place behind the sign
pub data Significand (text : List ℕ) (g j : ℕ) : Type 0 where
  pointed : {b : Base} {e p : ℕ} {ds es : List ℕ} → Numeral text b g e ds → Symbol text 0x2E e p → Digits text 1 (digits b) p j es → Significand text g j
  divided : {e p : ℕ} → SomeNumeral text g e → Symbol text 0x2F e p → SomeNumeral text p j → Significand text g j

module _ (text : List ℕ) where
  point_view : (b : Base) {h j : ℕ} → Takes text (point_of_base b) h j → Significand text h j
  point_view b (both p (both m (both s n))) =
      pointed (view b p (to_row text 1 (digits b) m).1) (of_spaced text 0x2E point_apart s) (to_row text 1 (digits b) n).1

  some_point : {h j : ℕ} → Takes text nonsigned_point h j → Significand text h j
  some_point t = let s = some_base point_of_base t in point_view s.0 s.1

  significand_at : {g j : ℕ} → Significand text g j → At text decimal g
  significand_at (pointed n s d) = numeral_at text n
  significand_at (divided n s m) = numeral_at text n.is

  from_start : {i g h j : ℕ} → Start text i g → Takes text sign i h → Significand text h j → Significand text g j
  from_start {j = j} st t s = subst (λ (x : ℕ). Significand text x j) (start_same text st t (significand_at s)) s

  pub of_significand : {i g j : ℕ} → Start text i g → Takes text significand i j → Significand text g j
  of_significand st (left (both t p)) = from_start st t (some_point p)
  of_significand st (right (both (both t n) (both s m))) =
      from_start st t (divided (of_nonsigned text n) (of_spaced text 0x2F slash_apart s) (of_nonsigned text m))

  pub significand_start : {i j : ℕ} → Takes text significand i j → (g : ℕ) × Start text i g
  significand_start (left (both t p)) = (_, start_of text t (significand_at (some_point p)))
  significand_start (right (both (both t n) u)) = (_, start_of text t (numeral_at text (of_nonsigned text n).is))

  to_point : (b : Base) {h j : ℕ} → Takes text (point_of_base b) h j → Takes text nonsigned_point h j
  to_point b t = any_base_lem point_of_base b t

  pub to_significand : {i g j : ℕ} → Start text i g → Significand text g j → Takes text significand i j
  to_significand st (pointed {b} n s d) =
      let v = valued text n in
      left (both (start_sign text st) (to_point b (both v.before (both (of_row text 1 (digits b) v.digits_are) (both (to_spaced text 0x2E s) (of_row text 1 (digits b) d))))))
  to_significand st (divided n s m) =
      right (both (to_integer text st n) (both (to_spaced text 0x2F s) (to_nonsigned text m.of (to_base text m.is))))

  -- ---- a number that a symbol follows is the longest

  pub ahead_most : (c : ℕ) → Apart c → {g e k : ℕ} → SomeNumeral text g e → Ahead text (just c) e → SomeNumeral text g k → k ≤ e
  ahead_most c a {e = e} {k = k} n x m = go (dec_le k e)
    where
      go : Dec (k ≤ e) → k ≤ e
      go (yes h) = h
      go (no h) = absurd (stops text c a x (some_cut text n m (omega (arith, h))))

  -- so two of them are the same
  pub ends_same : (c d : ℕ) → Apart c → Apart d → {g e f : ℕ} → SomeNumeral text g e → Ahead text (just c) e → SomeNumeral text g f → Ahead text (just d) f → f ≡ e
  ends_same c d a b n x m y = le_antisymm (ahead_most c a n x m) (ahead_most d b m y n)

  pub some : {b : Base} {g e : ℕ} {ds : List ℕ} → Numeral text b g e ds → SomeNumeral text g e
  some n = record { of = _; bytes = _; is = n }

  pub symbol_from : {c i j k : ℕ} → i ≡ j → Symbol text c i k → Symbol text c j k
  symbol_from {c} {k = k} e s = subst (λ (x : ℕ). Symbol text c x k) e s

  -- what follows a symbol begins where the dividing space behind it ends
  pub behind_symbol : (c : Class) {b i m p k : ℕ} → never c blank ≡ true → Skips text i m → Skips text (m + 1) p → Symbol text b i k → At text c k → k ≡ p
  behind_symbol c {k = k} e q r s x =
      skips_same (subst (λ (o : ℕ). Skips text (o + 1) k) (skips_same s.skipped q) (landed c e s.rest x)) r

  -- the digits behind the point of a significand whose number ends at e
  pub align_point : {b : Base} {g e m p k : ℕ} {ds : List ℕ} → Numeral text b g e ds → Skips text e m → At text (just 0x2E) m → Skips text (m + 1) p → Significand text g k → (es : List ℕ) × Digits text 1 (digits b) p k es
  align_point {b} {g} {e} {m} {p} {k} n q x r (pointed {b = c} {e = f} {p = l} {ds = fs} {es = es} n' s d) =
      let a : Ahead text (just 0x2E) e = record { place = m; skipped = q; stands = x } in
      let h : f ≡ e = ends_same 0x2E 0x2E point_apart point_apart (some n) a (some n') (symbol_ahead text s) in
      let o : l ≡ p = behind_symbol (digits c) (clear c).no_blank q r (symbol_from h s) (digits_at text 0 (digits c) (clear c) d) in
      let y : c ≡ b = (numeral_same text n (subst (λ (z : ℕ). Numeral text c g z fs) h n')).0 in
      (es, subst (λ (z : Base). Digits text 1 (digits z) p k es) y (subst (λ (z : ℕ). Digits text 1 (digits c) z k es) o d))
  align_point {e = e} {m = m} n q x r (divided {e = f} n' s w) =
      let a : Ahead text (just 0x2E) e = record { place = m; skipped = q; stands = x } in
      let h : f ≡ e = ends_same 0x2E 0x2F point_apart slash_apart (some n) a n' (symbol_ahead text s) in
      absurd (ahead_apart (just 0x2E) (just 0x2F) point_slash a (symbol_ahead text (symbol_from h s)))

  -- the number behind the slash
  pub align_ratio : {g e m p k : ℕ} → SomeNumeral text g e → Skips text e m → At text (just 0x2F) m → Skips text (m + 1) p → Significand text g k → SomeNumeral text p k
  align_ratio {e = e} {m = m} {p = p} {k = k} n q x r (divided {e = f} {p = l} n' s w) =
      let a : Ahead text (just 0x2F) e = record { place = m; skipped = q; stands = x } in
      let h : f ≡ e = ends_same 0x2F 0x2F slash_apart slash_apart n a n' (symbol_ahead text s) in
      let o : l ≡ p = behind_symbol decimal decimal_blank q r (symbol_from h s) (numeral_at text w.is) in
      subst (λ (z : ℕ). SomeNumeral text z k) o w
  align_ratio {e = e} {m = m} n q x r (pointed {e = f} n' s d) =
      let a : Ahead text (just 0x2F) e = record { place = m; skipped = q; stands = x } in
      let h : f ≡ e = ends_same 0x2F 0x2E slash_apart point_apart n a (some n') (symbol_ahead text s) in
      absurd (ahead_apart (just 0x2E) (just 0x2F) point_slash (symbol_ahead text (symbol_from h s)) a)

  -- ---- a shorter significand goes on

  pub significand_cut : {g j k : ℕ} → Significand text g j → Significand text g k → j < k → Ahead text word_rest j
  significand_cut (pointed {b} n s d) t h =
      let a = align_point n s.skipped s.stands (landed (digits b) (clear b).no_blank s.rest (digits_at text 0 (digits b) (clear b) d)) t in
      further_ahead text b (digits_cut text 0 (digits b) (clear b) d a.1 h)
  significand_cut (divided n s m) t h =
      some_cut text m (align_ratio n s.skipped s.stands (landed decimal decimal_blank s.rest (numeral_at text m.is)) t) h
