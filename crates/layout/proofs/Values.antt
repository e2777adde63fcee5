-- Literals in a text laid out anew: their values are the same, and one is bad where the other is. Assumes nothing.
use mathlib.Core.Path.{◌≡◌, refl, subst, ap, ◌∙◌}
use mathlib.Core.Logic.{inl, inr}
use mathlib.Core.Bool.{true, cond}
use mathlib.Core.List.{List}
use Prim.Native.Nat.{ℕ, suc}
use Prim.Native.String.{String}
use lib.Dec.{eqb}
use lib.IntN.{ℤ, pos, neg_ℤ}
use Rattle.rules.specs.Class.{Class, byte_of, has}
use Rattle.rules.specs.Rule.{Rule, ◌then◌, many, opt, lit, Takes, both}
use Rattle.rules.proofs.Classes.{includes, in_some}
use Rattle.rules.proofs.Bounds.{all_of, all_of_lem}
use Rattle.rules.proofs.Ways.{opens, opens_at}
use Rattle.lexicon.specs.declared.Base.{Base}
use Rattle.lexicon.specs.declared.Form.TheVariants.{Word, HeadWord, CodePoint}
use Rattle.lexicon.specs.declared.Form.TheVariants as Form
use Rattle.lexicon.specs.declared.Kind.{Kind}
use Rattle.lexicon.specs.declared.Kind.TheVariants.{Ignorance, Boolean, Integer, Fraction, Bits, Blob, Text, Later, Symbol, Colon, TwoColons}
use Rattle.lexicon.specs.Bytes.{binary, octal, hexadecimal, base64, digits}
use Rattle.lexicon.specs.Space.{sp}
use Rattle.lexicon.specs.Literals.{integer, segment, word, code_point_of}
use Rattle.lexicon.specs.Values.{Number, IntegerOf, Behind, mark_alone, mark_digits, BitsOf, BlobOf, Segment, Quoted, last_segment, next_segment, TextOf, quotes, bare, coded}
use Rattle.lexicon.specs.Bad.{BadCode, BadSegment, BadFurther, BadQuoted, in_first, in_further, ZeroDenominator, SmallRadix, NoBytes}
use Rattle.lexicon.specs.Token.{Bad}
use Rattle.lexicon.proofs.Segments.{quote_blank, segment_begins, bad_takes}
use Rattle.lexicon.proofs.Moved.{segment_moved, bad_segment_lem, text_moved, bad_moved}
use Rattle.values.proofs.Values.{segment_takes}
use Rattle.values.proofs.Shapes.{code_takes}
use Rattle.values.proofs.IntegerDetermined.{is_integer}
use Rattle.form.proofs.Fits.{Sub, sub, Mode, exact, loose, Fits, seq, star, space, segments, class_kept, ink_fits, digits_numeric, prefix_fits, sign_fits, integer_fits, spaced_fits, significand_fits, power_fits, all_in}
use Rattle.layout.specs.Relaid.{quote, ordinary}
use Rattle.layout.proofs.Fit.{numeric}
use Rattle.layout.proofs.Carried.{On, Reached, just_at, Copied, exactly, copied, byte_on, run_on, outside, row_on, segment_on, carries, turn_on, one_on}

digits_ordinary : (b : Base) → Sub (digits b) ordinary
digits_ordinary b = class_kept ordinary (digits b) numeric (digits_numeric b)

module _ (text other : List ℕ) (s t : ℕ) where
  -- what holds from i to j holds in the other text from k to the place that stands for j
  abbrev pub Lands : (ℕ → ℕ → Type 0) → ℕ → ℕ → Type 0
  Lands F j k = (l : ℕ) × F k l × On text other s t j l

  abbrev O : ℕ → ℕ → Type 0
  O = On text other s t

  abbrev R : Mode → ℕ → ℕ → Type 0
  R = Reached text other s t

  -- ---- numbers

  number_on : {i j k v : ℕ} → R loose i k → Number text i j v → Lands (λ k l. Number other k l v) j k
  number_on o (b, n) =
      let p = carries text other s t (prefix_fits ordinary numeric b) o n.before in
      let q = row_on text other s t 0 (digits b) loose (digits_ordinary b) p.2 n.digits_are in
      (q.dest, (b, record { start = p.0; before = p.1; bytes = n.bytes; digits_are = q.digits_are; value_is = n.value_is }), q.on)

  pub integer_on : {i j k : ℕ} {z : ℤ} → O i k → IntegerOf text i j z → Lands (λ k l. IntegerOf other k l z) j k
  unfolding opens includes in_some
  integer_on o x =
      let e = (byte_on text other s t o (opens_at text ordinary integer refl (is_integer text x))).equal in
      let p = carries text other s t (sign_fits ordinary numeric) (just_at o) x.before in
      let n = number_on p.2 x.number in (
        n.0,
        record {
          start = p.0;
          before = p.1;
          size = x.size;
          number = n.1;
          value_is = x.value_is ∙ ap (λ (y : ℕ). cond (eqb y (byte_of "-")) (neg_ℤ (pos x.size)) (pos x.size)) e;
        },
        n.2,
      )

  -- ---- bits and bytes

  behind_on : (mark : String) (n : ℕ) (c : Class) {i j k : ℕ} {ds : List ℕ} → all_of ordinary (lit mark) ≡ true → Sub c ordinary → O i k →
      Behind text mark (suc n) c i j ds → Lands (λ k l. Behind other mark (suc n) c k l ds) j k
  behind_on mark n c e f o (mark_alone u) =
      let p = carries text other s t (ink_fits ordinary (lit mark) e) (just_at o) u in
      (p.0, mark_alone p.1, exactly text other s t p.2)
  behind_on mark n c e f o (mark_digits u d) =
      let p = carries text other s t (seq (ink_fits ordinary (lit mark) e) space) (just_at o) u in
      let q = row_on text other s t n c loose f p.2 d in
      (q.dest, mark_digits p.1 q.digits_are, q.on)

  pub bits_on : {i j k : ℕ} {bs : List ℕ} → O i k → BitsOf text i j bs → Lands (λ k l. BitsOf other k l bs) j k
  unfolding includes in_some
  bits_on o (BitsOf.in_binary x) = let y = behind_on "0bb" 0 binary refl (sub _ _ refl) o x in (y.0, BitsOf.in_binary y.1, y.2)
  bits_on o (BitsOf.in_octal x) = let y = behind_on "0bo" 0 octal refl (sub _ _ refl) o x in (y.0, BitsOf.in_octal y.1, y.2)
  bits_on o (BitsOf.in_hexadecimal x) = let y = behind_on "0bx" 0 hexadecimal refl (sub _ _ refl) o x in (y.0, BitsOf.in_hexadecimal y.1, y.2)

  pub blob_on : {i j k : ℕ} {bs : List ℕ} → O i k → BlobOf text i j bs → Lands (λ k l. BlobOf other k l bs) j k
  unfolding includes in_some
  blob_on o (BlobOf.in_binary x u e) = let y = behind_on "0xb" 7 binary refl (sub _ _ refl) o x in (y.0, BlobOf.in_binary y.1 u e, y.2)
  blob_on o (BlobOf.in_hexadecimal x u e) = let y = behind_on "0xx" 1 hexadecimal refl (sub _ _ refl) o x in (y.0, BlobOf.in_hexadecimal y.1 u e, y.2)
  blob_on o (BlobOf.in_base64 x u e) = let y = behind_on "0xy" 3 base64 refl (sub _ _ refl) o x in (y.0, BlobOf.in_base64 y.1 u e, y.2)

  -- ---- characters

  -- a literal of ordinary bytes is copied, and what moves with its bytes moves with it
  plain_on : (r : Rule) {i j k : ℕ} → all_of ordinary r ≡ true → O i k → Takes text r i j → Copied text other s t i j k
  plain_on r e o u = run_on text other s t o (all_of_lem ordinary u e)

  text_copied : {i j k : ℕ} {cs : List ℕ} (c : Copied text other s t i j k) → TextOf text i j cs → TextOf other k c.dest cs
  text_copied {cs = cs} c x = copied text other s t c (λ (l : List ℕ) (i j : ℕ). TextOf l i j cs) (λ a b p q n w i j y u v. text_moved a b p q n w y u v) x

  segment_copied : {i j k : ℕ} {cs : List ℕ} (c : Copied text other s t i j k) → Segment text i j cs → Segment other k c.dest cs
  segment_copied {cs = cs} c x =
      copied text other s t c (λ (l : List ℕ) (i j : ℕ). Segment l i j cs) (λ a b p q n w i j y u v. segment_moved a b p q n w y u v) x

  -- a segment, also behind dividing space
  first_segment : {i j k : ℕ} → R loose i k → Takes text segment i j → Copied text other s t i j k
  first_segment o u = segment_on text other s t (outside text other s t quote loose quote_blank o (segment_begins text u)) u

  quoted_on : {i j k : ℕ} {cs : List ℕ} → R loose i k → Quoted text i j cs → Lands (λ k l. Quoted other k l cs) j k
  quoted_on o (last_segment x) = let c = first_segment o (segment_takes text x) in (c.dest, last_segment (segment_copied c x), c.on)
  quoted_on o (next_segment x u q) =
      let c = first_segment o (segment_takes text x) in
      let p = carries text other s t {Quotes = ⊥} (space {m = exact}) (just_at c.on) u in
      let r = quoted_on p.2 q in
      (r.0, next_segment (segment_copied c x) p.1 r.1, r.2)

  pub text_on : {i j k : ℕ} {cs : List ℕ} → O i k → TextOf text i j cs → Lands (λ k l. TextOf other k l cs) j k
  unfolding includes in_some
  text_on o (quotes q) = let x = quoted_on (just_at o) q in (x.0, quotes x.1, x.2)
  text_on o (bare u) = let c = plain_on word refl o u in (c.dest, text_copied c (bare u), c.on)
  text_on o (coded x) = let c = plain_on code_point_of refl o (code_takes text x) in (c.dest, text_copied c (coded x), c.on)

  -- ---- bad values

  zero_on : {i j k : ℕ} → O i k → ZeroDenominator text i j → Lands (ZeroDenominator other) j k
  unfolding all_in has
  zero_on o z =
      let a = carries text other s t (seq (integer_fits ordinary numeric) (spaced_fits ordinary numeric (byte_of "/") refl)) (just_at o) z.before in
      let n = number_on a.2 z.zero in
      let b = carries text other s t (power_fits ordinary numeric) (just_at n.2) z.behind in
      (b.0, record { start = a.0; end = n.0; before = a.1; zero = n.1; behind = b.1 }, exactly text other s t b.2)

  radix_on : {i j k : ℕ} → O i k → SmallRadix text i j → Lands (SmallRadix other) j k
  unfolding all_in has
  radix_on o z =
      let a = carries text other s t (seq (significand_fits ordinary numeric) (spaced_fits ordinary numeric (byte_of "*") refl)) (just_at o) z.before in
      let n = number_on a.2 z.number in
      let b = carries text other s t (seq (spaced_fits ordinary numeric (byte_of "^") {m = exact} refl) (integer_fits ordinary numeric)) (just_at n.2) z.behind in
      (b.0, record { start = a.0; end = n.0; before = a.1; radix = z.radix; number = n.1; small = z.small; behind = b.1 }, exactly text other s t b.2)

  bad_segment_on : {i j k : ℕ} → R loose i k → BadSegment text i j → Lands (BadSegment other) j k
  bad_segment_on o z =
      let c = first_segment o (bad_takes text z) in
      (c.dest, copied text other s t c (λ (l : List ℕ). BadSegment l) (λ a b p q n w i j y u v. bad_segment_lem a b p q n w y u v) z, c.on)

  bad_further_on : {i j k : ℕ} → O i k → BadFurther text i j → Lands (BadFurther other) j k
  bad_further_on o z =
      let p = carries text other s t {Quotes = ⊥} (space {m = exact}) (just_at o) z.before in
      let x = bad_segment_on p.2 z.bad in
      (x.0, record { start = p.0; before = p.1; bad = x.1 }, x.2)

  -- further segments
  further_fits : Fits ordinary (Unit {0}) exact (many (opt sp then segment)) exact
  further_fits = star (seq space (segments tt))

  bad_quoted_on : {i j k : ℕ} → O i k → BadQuoted text i j → Lands (BadQuoted other) j k
  bad_quoted_on o (in_first z u) =
      let x = bad_segment_on (just_at o) z in
      let y = carries text other s t further_fits (just_at x.2) u in
      (y.0, in_first x.1 y.1, exactly text other s t y.2)
  bad_quoted_on o (in_further u z) =
      let x = carries text other s t {Quotes = Unit {0}} {m = exact} (segments tt) (just_at o) u in
      let b = carries text other s t further_fits x.2 z.before in
      let h = bad_further_on (exactly text other s t b.2) z.holds in
      let e = carries text other s t further_fits (just_at h.2) z.behind in (
        e.0,
        in_further x.1 (record { from = b.0; upto = h.0; before = b.1; match = both h.1.before (bad_takes other h.1.bad); holds = h.1; behind = e.1 }),
        exactly text other s t e.2,
      )

  bad_code_on : {i j k : ℕ} → O i k → BadCode text i j → Lands (BadCode other) j k
  unfolding includes in_some
  bad_code_on o z =
      let c = plain_on code_point_of refl o (code_takes text z.code) in
      (c.dest, copied text other s t c (λ (l : List ℕ). BadCode l) (λ a b p q n w i j y u v. bad_moved a b p q n w (Text CodePoint) y u v) z, c.on)

  -- at the place that is known to stand for the end
  pub landed : (F : ℕ → ℕ → Type 0) {j k l : ℕ} → O j l → Lands F j k → F k l
  landed F {k = k} o x = subst (F k) (one_on x.2 o) x.1

-- a Blob without bytes is one in the other text too: bytes there would be bytes here
no_bytes_on : (text other : List ℕ) (s t : ℕ) {i j k l : ℕ} → On text other s t i k → On text other s t j l → NoBytes text i j → NoBytes other k l
no_bytes_on text other s t {i} {j} o p z bs y = z bs (landed other text t s (λ i j. BlobOf text i j bs) (turn_on p) (blob_on other text t s (turn_on o) y))

-- ---- of any token

module _ (text other : List ℕ) (s t : ℕ) where
  pub bad_on : (kind : Kind) {i j k l : ℕ} → On text other s t i k → On text other s t j l → Bad text kind i j → Bad other kind k l
  bad_on Ignorance o p x = x
  bad_on (Boolean b) o p x = x
  bad_on (Integer signed) o p x = x
  bad_on Fraction o p (inl x) = inl (landed text other s t (ZeroDenominator other) p (zero_on text other s t o x))
  bad_on Fraction o p (inr x) = inr (landed text other s t (SmallRadix other) p (radix_on text other s t o x))
  bad_on Bits o p x = x
  bad_on Blob o p x = no_bytes_on text other s t o p x
  bad_on (Text Form.Quoted) o p x = landed text other s t (BadQuoted other) p (bad_quoted_on text other s t o x)
  bad_on (Text Word) o p x = x
  bad_on (Text (HeadWord h)) o p x = x
  bad_on (Text CodePoint) o p x = landed text other s t (BadCode other) p (bad_code_on text other s t o x)
  bad_on Later o p x = x
  bad_on (Symbol x) o p y = y
  bad_on Colon o p x = x
  bad_on TwoColons o p x = x
