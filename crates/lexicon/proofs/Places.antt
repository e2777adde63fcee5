-- The place of a bad value: it is one, it is never before the literal nor behind it, and no bad value is without. Assumes nothing.
use mathlib.Core.Path.{◌≡◌, refl, sym, ap, subst, ◌∙◌}
use mathlib.Core.Logic.{◌⊎◌, inl, inr}
use mathlib.Core.Bool.{Bool, true, false}
use mathlib.Core.List.{List}
use Prim.Native.Nat.{ℕ, zero, suc, ◌+◌, ◌-◌, ◌≤◌, ◌<◌}
use native.Mathlib.Omega.{arith}
use borrow.Author.Tests.{ltb-true, ltb-false}
use lib.Dec.{ltb}
use lib.ListN.{length}
use Rattle.rules.specs.Class.{codes}
use Rattle.rules.specs.Rule.{lit, Takes, byte, both}
use Rattle.rules.specs.Plain.{between}
use Rattle.rules.proofs.Bools.{clash}
use Rattle.rules.proofs.Matches.{forward, starting, ending, row_end}
use Rattle.rules.proofs.Windows.{Moves, shift, turned, alone}
use Rattle.lexicon.specs.declared.Form.{Form}
use Rattle.lexicon.specs.declared.Form.TheVariants.{Quoted, Word, HeadWord, CodePoint}
use Rattle.lexicon.specs.declared.Kind.{Kind}
use Rattle.lexicon.specs.declared.Kind.TheVariants.{Ignorance, Boolean, Integer, Fraction, Bits, Blob, Text, Later, Symbol, Colon, TwoColons}
use Rattle.lexicon.specs.Bad.{BadEscape, BadSegment, BadQuoted, in_first, in_further, backslash_of, FirstBad}
use Rattle.lexicon.specs.Token.{Is, Bad, BadPlace, inside_quotes, first_byte}
use Rattle.lexicon.proofs.Unique.{token_forward}
use Rattle.lexicon.proofs.Moved.{code_forward, bad_quoted_lem, backslash_moved}
use Rattle.lexicon.proofs.Pieces.{token_within}

-- ---- quoted or not

abbrev quoted_form : Form → Bool
quoted_form Quoted = true
quoted_form Word = false
quoted_form (HeadWord h) = false
quoted_form CodePoint = false

abbrev quoted_kind : Kind → Bool
quoted_kind Ignorance = false
quoted_kind (Boolean b) = false
quoted_kind (Integer signed) = false
quoted_kind Fraction = false
quoted_kind Bits = false
quoted_kind Blob = false
quoted_kind (Text f) = quoted_form f
quoted_kind Later = false
quoted_kind (Symbol s) = false
quoted_kind Colon = false
quoted_kind TwoColons = false

pub not_quoted : (k : Kind) → quoted_kind k ≡ false → k ≡ Text Quoted → ⊥
not_quoted k e q = clash (ap quoted_kind q) e

abbrev pub quoted_or_not : (k : Kind) → (k ≡ Text Quoted) ⊎ (k ≡ Text Quoted → ⊥)
quoted_or_not Ignorance = inr (not_quoted Ignorance refl)
quoted_or_not (Boolean b) = inr (not_quoted (Boolean b) refl)
quoted_or_not (Integer signed) = inr (not_quoted (Integer signed) refl)
quoted_or_not Fraction = inr (not_quoted Fraction refl)
quoted_or_not Bits = inr (not_quoted Bits refl)
quoted_or_not Blob = inr (not_quoted Blob refl)
quoted_or_not (Text Quoted) = inl refl
quoted_or_not (Text Word) = inr (not_quoted (Text Word) refl)
quoted_or_not (Text (HeadWord h)) = inr (not_quoted (Text (HeadWord h)) refl)
quoted_or_not (Text CodePoint) = inr (not_quoted (Text CodePoint) refl)
quoted_or_not Later = inr (not_quoted Later refl)
quoted_or_not (Symbol s) = inr (not_quoted (Symbol s) refl)
quoted_or_not Colon = inr (not_quoted Colon refl)
quoted_or_not TwoColons = inr (not_quoted TwoColons refl)

module _ (text : List ℕ) where
  -- ---- the first bad escape

  two : {i j : ℕ} → Takes text (lit "\\<") i j → i < j
  two (both (byte a e) (byte b f)) = omega (arith, e, f)

  opened : {i j : ℕ} → Takes text (lit "\"\\") i j → i < j
  opened (both (byte a e) (byte b f)) = omega (arith, e, f)

  escape_forward : {i j : ℕ} → BadEscape text i j → i < j
  escape_forward b = omega (arith, two b.before, code_forward text b.code.code, forward b.behind)

  -- it stands behind the quote that opens its segment and before the one that closes it
  pub in_segment_lem : {i j : ℕ} → (b : BadSegment text i j) → (i < b.content.from) × (b.content.from < j)
  in_segment_lem b = (
    omega (arith, opened b.before, forward b.content.before),
    omega (arith, escape_forward b.content.holds, forward b.content.behind, forward b.behind),
  )

  pub in_quoted_lem : {i j : ℕ} → (b : BadQuoted text i j) → (i < backslash_of text b) × (backslash_of text b < j)
  in_quoted_lem (in_first b t) = let h = in_segment_lem b in (h.0, omega (arith, h.1, forward t))
  in_quoted_lem (in_further t a) =
      let h = in_segment_lem a.holds.bad in (
        omega (arith, h.0, forward t, forward a.before, forward a.holds.before),
        omega (arith, h.1, forward a.behind),
      )

  -- there a backslash and an angle stand
  escape_at : {i j : ℕ} → (b : BadQuoted text i j) → (e : ℕ) × Takes text (lit "\\<") (backslash_of text b) e
  escape_at (in_first b t) = (b.content.holds.start, b.content.holds.before)
  escape_at (in_further t a) = (a.holds.bad.content.holds.start, a.holds.bad.content.holds.before)

  pub one_first_bad : {i j p q : ℕ} → FirstBad text i j p → FirstBad text i j q → p ≡ q
  one_first_bad x y = omega (arith, x.there, y.there, x.first y.bad, y.first x.bad)

  pub first_bad_inside : {i j p : ℕ} → FirstBad text i j p → (i < p) × (p < j)
  first_bad_inside x = let h = in_quoted_lem x.bad in (omega (arith, x.there, h.0), omega (arith, x.there, h.1))

  pub first_bad_takes : {i j p : ℕ} → FirstBad text i j p → Takes text (lit "\\<") p (p + 2)
  first_bad_takes {p = p} x =
      let t = escape_at x.bad in
      let u = starting (sym x.there) t.1 in
      ending (row_end (codes "\\<") u) u

  -- there is no text with bad escapes and without a first one
  pub first_bad_not_none : {i j : ℕ} → BadQuoted text i j → ((p : ℕ) → FirstBad text i j p → ⊥) → ⊥
  first_bad_not_none {i} {j} x none = below (suc (backslash_of text x)) x (omega arith)
    where
      sooner : (b o : BadQuoted text i j) (c : Bool) → ltb (backslash_of text o) (backslash_of text b) ≡ c →
          (backslash_of text o < backslash_of text b → ⊥) → backslash_of text b ≤ backslash_of text o
      sooner b o true e k = absurd (k (ltb-true (backslash_of text o) (backslash_of text b) e))
      sooner b o false e k = ltb-false (backslash_of text o) (backslash_of text b) e

      below : (n : ℕ) (b : BadQuoted text i j) → backslash_of text b < n → ⊥
      below zero b h = omega (arith, h)
      below (suc n) b h =
          none (backslash_of text b)
          (record {
            bad = b;
            there = refl;
            first = λ o. sooner b o (ltb (backslash_of text o) (backslash_of text b)) refl (λ l. below n o (omega (arith, l, h)));
          })

  -- ---- the place

  pub one_place : {k : Kind} {i j p q : ℕ} → BadPlace text k i j p → BadPlace text k i j q → p ≡ q
  one_place (inside_quotes e x) (inside_quotes f y) = one_first_bad x y
  one_place (inside_quotes e x) (first_byte n f) = absurd (n e)
  one_place (first_byte n e) (inside_quotes f y) = absurd (n f)
  one_place (first_byte n e) (first_byte m f) = e ∙ sym f

  -- never before the literal
  pub place_from : {k : Kind} {i j p : ℕ} → BadPlace text k i j p → i ≤ p
  place_from (inside_quotes e x) = omega (arith, (first_bad_inside x).0)
  place_from (first_byte n e) = omega (arith, e)

  -- nor behind it
  pub place_within : {k : Kind} {i j p : ℕ} → i < j → BadPlace text k i j p → p < j
  place_within h (inside_quotes e x) = (first_bad_inside x).1
  place_within h (first_byte n e) = omega (arith, h, e)

  pub place_not_none : (k : Kind) {i j : ℕ} → Bad text k i j → ((p : ℕ) → BadPlace text k i j p → ⊥) → ⊥
  place_not_none k {i} {j} b none = by (quoted_or_not k)
    where
      by : (k ≡ Text Quoted) ⊎ (k ≡ Text Quoted → ⊥) → ⊥
      by (inl e) = first_bad_not_none (subst (λ (x : Kind). Bad text x i j) e b) (λ p x. none p (inside_quotes e x))
      by (inr n) = none i (first_byte n refl)

-- ---- of a literal by itself

-- counted from the literal's first byte, the first bad escape moves with its bytes
first_bad_moves : (d : ℕ) → Moves (λ (text : List ℕ) (i j : ℕ). FirstBad text i j (i + d))
first_bad_moves d a b p q n w i j x h k =
    record {
      bad = bad_quoted_lem a b p q n w x.bad h k;
      there = omega (arith, x.there, backslash_moved a b p q n w x.bad h k, h);
      first = λ o.
          let f = in_quoted_lem b o in
          let u : q ≤ shift p q i = omega arith in
          let v : shift p q j ≤ q + n = omega (arith, k) in
          let s = back (omega (arith, h)) (omega (arith, h, f)) (bad_quoted_lem b a q p n (turned w) o u v) in
          omega (arith, s, backslash_moved b a q p n (turned w) o u v, f, h);
    }
  where
    back : {i' j' : ℕ} → i ≡ i' → j ≡ j' → (o : BadQuoted a i' j') → i + d ≤ backslash_of a o
    back {i'} {j'} e f =
        subst (λ (m : ℕ). (o : BadQuoted a m j') → i + d ≤ backslash_of a o) e
        (subst (λ (m : ℕ). (o : BadQuoted a i m) → i + d ≤ backslash_of a o) f x.first)

module _ (text : List ℕ) (k : Kind) {i j : ℕ} (is : Is text k i j) where
  -- so within its piece a literal's place is counted from 0
  pub place_alone : {p : ℕ} → BadPlace text k i j p → BadPlace (between text i j) k 0 (length (between text i j)) (p - i)
  place_alone {p} (inside_quotes e x) =
      let h : p ≡ i + (p - i) = omega (arith, first_bad_inside text x) in
      inside_quotes e
      (subst (λ (m : ℕ). FirstBad (between text i j) 0 (length (between text i j)) m) (omega arith)
      (alone text (omega (arith, token_forward text is)) (token_within text k is) (λ (t : List ℕ) (x y : ℕ). FirstBad t x y (x + (p - i))) (first_bad_moves (p - i))
      (subst (λ (m : ℕ). FirstBad text i j m) h x)))
  place_alone (first_byte n e) = first_byte n (omega (arith, e))
