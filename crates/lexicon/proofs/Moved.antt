-- Literals in two texts that have the same bytes there: numbers, bits, bytes, characters and bad values are those of the bytes,
-- wherever they stand. Assumes nothing.
use mathlib.Core.Path.{◌≡◌, refl, sym, subst, ap, ◌∙◌}
use mathlib.Core.Logic.{inl, inr}
use mathlib.Core.Bool.{cond}
use mathlib.Core.List.{List, ◌++◌}
use Prim.Native.Nat.{ℕ, zero, suc, ◌+◌, ◌-◌, ◌≤◌, ◌<◌}
use Prim.Native.String.{String}
use native.Mathlib.Omega.{arith}
use lib.Dec.{eqb}
use lib.IntN.{ℤ, pos, neg_ℤ}
use Rattle.rules.specs.Class.{Class, In, any_of}
use Rattle.rules.specs.Rule.{Rule, ◌then◌, ◌or◌, opt, Takes}
use Rattle.rules.proofs.Matches.{forward, byte_end}
use Rattle.rules.proofs.Windows.{Window, turned, shift, byte_same, moved, among_forward, among_moved}
use Rattle.lexicon.specs.declared.Kind.{Kind}
use Rattle.lexicon.specs.declared.Kind.TheVariants.{Ignorance, Boolean, Integer, Fraction, Bits, Blob, Text, Later, Symbol, Colon, TwoColons}
use Rattle.lexicon.specs.declared.Form.TheVariants.{Word, HeadWord, CodePoint}
use Rattle.lexicon.specs.declared.Form.TheVariants as Form
use Rattle.lexicon.specs.Bytes.{binary, octal, hexadecimal, base64, digits, radix}
use Rattle.lexicon.specs.Space.{sp}
use Rattle.lexicon.specs.Literals.{unescaped, escape, segment}
use Rattle.lexicon.specs.Values.{Digits, last_unit, next_unit, read, value, scalar, Number, IntegerOf, Behind, mark_alone, mark_digits, BitsOf, BlobOf, Letter, CodeOf, Plain, Escaped, Row, done, Segment, Quoted, last_segment, next_segment, TextOf, quotes, bare, coded}
use Rattle.lexicon.specs.Values as Values
use Rattle.lexicon.specs.Bad.{BadCode, BadEscape, BadSegment, BadFurther, BadQuoted, in_first, in_further, backslash_of, ZeroDenominator, SmallRadix, NoBytes}
use Rattle.lexicon.specs.Token.{Bad}
use Rattle.lexicon.proofs.Groups.{unit_end, digits_forward}
use Rattle.lexicon.proofs.Contents.{blob_forward}

-- ---- these reach forward

module _ (text : List ℕ) where
  pub number_forward : {i j v : ℕ} → Number text i j v → i < j
  number_forward (b, n) = omega (arith, forward n.before, digits_forward n.digits_are)

  pub code_forward : {i j v : ℕ} → CodeOf text i j v → i ≤ j
  code_forward c = omega (arith, forward c.before, forward c.all_digits)

  plain_forward : {i j c : ℕ} → Plain text i j c → i ≤ j
  plain_forward (Plain.itself t) = forward t

  escaped_forward : {i j c : ℕ} → Escaped text i j c → i ≤ j
  escaped_forward (Escaped.itself t) = forward t
  escaped_forward (Escaped.letter t l u) = omega (arith, forward t, forward u)
  escaped_forward (Escaped.number t c u) = omega (arith, forward t, code_forward c, forward u)

  row_forward : {Item : ℕ → ℕ → ℕ → Type 0} → ((i j c : ℕ) → Item i j c → i ≤ j) → {i j : ℕ} {cs : List ℕ} → Row text Item i j cs → i ≤ j
  row_forward f done = omega arith
  row_forward f (Values.next x r) = omega (arith, f _ _ _ x, row_forward f r)

  segment_forward : {i j : ℕ} {cs : List ℕ} → Segment text i j cs → i ≤ j
  segment_forward (Segment.plain t n r u) = omega (arith, forward t, row_forward (λ i j c x. plain_forward x) r, forward u)
  segment_forward (Segment.escaped t r u) = omega (arith, forward t, row_forward (λ i j c x. escaped_forward x) r, forward u)

  quoted_forward : {i j : ℕ} {cs : List ℕ} → Quoted text i j cs → i ≤ j
  quoted_forward (last_segment s) = segment_forward s
  quoted_forward (next_segment s t q) = omega (arith, segment_forward s, forward t, quoted_forward q)

module _ (a b : List ℕ) (p q n : ℕ) (w : Window a b p q n) where
  on : {r : Rule} {i j : ℕ} → Takes a r i j → p ≤ i → j ≤ p + n → Takes b r (shift p q i) (shift p q j)
  on t h k = moved a b p q n w t h k

  -- ---- numbers

  pub read_moved : (m i : ℕ) → p ≤ i → i + m ≤ p + n → read a i m ≡ read b (shift p q i) m
  read_moved zero i h k = refl
  read_moved (suc m) i h k =
      let f : shift p q (i + 1) ≡ shift p q i + 1 = omega (arith, h) in
      let g = byte_same a b p q n w i h (omega (arith, k)) in
      let r = read_moved m (i + 1) (omega (arith, h)) (omega (arith, k)) ∙ ap (λ (x : ℕ). read b x m) f in
      cc (g, r)

  -- the bytes from i to j
  bytes_moved : (i j : ℕ) → p ≤ i → i ≤ j → j ≤ p + n → read a i (j - i) ≡ read b (shift p q i) (shift p q j - shift p q i)
  bytes_moved i j h m k =
      let e : j - i ≡ shift p q j - shift p q i = omega (arith, h, m) in
      read_moved (j - i) i h (omega (arith, m, k)) ∙ ap (read b (shift p q i)) e

  pub digits_moved : (m : ℕ) (c : Class) {i j : ℕ} {ds : List ℕ} → Digits a m c i j ds → p ≤ i → j ≤ p + n → Digits b m c (shift p q i) (shift p q j) ds
  digits_moved m c {i} {j} (last_unit u) h k =
      let x = unit_end m c u in
      subst (Digits b m c (shift p q i) (shift p q j)) (sym (read_moved m i h (omega (arith, x, k)))) (last_unit (on u h k))
  digits_moved m c {i} {j} (next_unit {m = e} {k = l} {ds = ds} u t d) h k =
      let x = unit_end m c u in let z = forward t in let v = digits_forward d in
      let f : e ≤ p + n = omega (arith, z, v, k) in
      let g : p ≤ e = omega (arith, h, x) in
      let o : p ≤ l = omega (arith, g, z) in
      subst (λ (y : List ℕ). Digits b m c (shift p q i) (shift p q j) (y ++ ds)) (sym (read_moved m i h (omega (arith, x, f))))
      (next_unit (on u h f) (on t g (omega (arith, v, k))) (digits_moved m c d o k))

  pub number_moved : {i j v : ℕ} → Number a i j v → p ≤ i → j ≤ p + n → Number b (shift p q i) (shift p q j) v
  number_moved (c, x) h k =
      let f = forward x.before in let g = digits_forward x.digits_are in (
        c,
        record {
          start = shift p q x.start;
          before = on x.before h (omega (arith, g, k));
          bytes = x.bytes;
          digits_are = digits_moved 1 (digits c) x.digits_are (omega (arith, f, h)) k;
          value_is = x.value_is;
        },
      )

  pub integer_moved : {i j : ℕ} {z : ℤ} → IntegerOf a i j z → p ≤ i → j ≤ p + n → IntegerOf b (shift p q i) (shift p q j) z
  integer_moved {i} x h k =
      let f = forward x.before in let g = number_forward a x.number in
      record {
        start = shift p q x.start;
        before = on x.before h (omega (arith, g, k));
        size = x.size;
        number = number_moved x.number (omega (arith, f, h)) k;
        value_is = x.value_is ∙ ap (λ (y : ℕ). cond (eqb y 0x2D) (neg_ℤ (pos x.size)) (pos x.size)) (byte_same a b p q n w i h (omega (arith, f, g, k)));
      }

  -- ---- characters

  pub code_moved : {i j v : ℕ} → CodeOf a i j v → p ≤ i → j ≤ p + n → CodeOf b (shift p q i) (shift p q j) v
  code_moved {i} {j} c h k =
      let f = forward c.before in let g = forward c.all_digits in
      record {
        base = c.base;
        start = shift p q c.start;
        before = on c.before h (omega (arith, g, k));
        all_digits = on c.all_digits (omega (arith, f, h)) k;
        value_is = c.value_is ∙ ap (value (radix c.base)) (bytes_moved c.start j (omega (arith, f, h)) g k);
      }

  plain_moved : {i j c : ℕ} → Plain a i j c → p ≤ i → j ≤ p + n → Plain b (shift p q i) (shift p q j) c
  plain_moved (Plain.itself {i} {j} t) h k =
      subst (Plain b (shift p q i) (shift p q j)) (ap scalar (sym (bytes_moved i j h (forward t) k))) (Plain.itself (on t h k))

  escaped_moved : {i j c : ℕ} → Escaped a i j c → p ≤ i → j ≤ p + n → Escaped b (shift p q i) (shift p q j) c
  escaped_moved (Escaped.itself {i} {j} t) h k =
      subst (Escaped b (shift p q i) (shift p q j)) (ap scalar (sym (bytes_moved i j h (forward t) k))) (Escaped.itself (on t h k))
  escaped_moved (Escaped.letter {j = j} {m = m} {c = c} t l u) h k =
      let f = forward t in let g = byte_end u in
      Escaped.letter (on t h (omega (arith, g, k))) (subst (λ (x : ℕ). Letter x c) (byte_same a b p q n w m (omega (arith, f, h)) (omega (arith, g, k))) l) (on u (omega (arith, f, h)) k)
  escaped_moved (Escaped.number t c u) h k =
      let f = forward t in let g = code_forward a c in let o = forward u in
      Escaped.number (on t h (omega (arith, g, o, k))) (code_moved c (omega (arith, f, h)) (omega (arith, o, k))) (on u (omega (arith, f, g, h)) k)

  row_moved : (P Q : ℕ → ℕ → ℕ → Type 0) → ((i j c : ℕ) → P i j c → i ≤ j) → ((i j c : ℕ) → P i j c → p ≤ i → j ≤ p + n → Q (shift p q i) (shift p q j) c) →
      {i j : ℕ} {cs : List ℕ} → Row a P i j cs → p ≤ i → j ≤ p + n → Row b Q (shift p q i) (shift p q j) cs
  row_moved P Q f g done h k = done
  row_moved P Q f g (Values.next x r) h k =
      let y = f _ _ _ x in let z = row_forward a f r in
      Values.next (g _ _ _ x h (omega (arith, z, k))) (row_moved P Q f g r (omega (arith, y, h)) k)

  pub segment_moved : {i j : ℕ} {cs : List ℕ} → Segment a i j cs → p ≤ i → j ≤ p + n → Segment b (shift p q i) (shift p q j) cs
  segment_moved (Segment.plain {m = m} {e = e} t o r u) h k =
      let f = forward t in let g = row_forward a (λ i j c x. plain_forward a x) r in let v = byte_end u in
      Segment.plain (on t h (omega (arith, g, v, k)))
      (λ x. o (subst (In (any_of "\\")) (sym (byte_same a b p q n w m (omega (arith, f, h)) (omega (arith, g, v, k)))) x))
      (row_moved (Plain a) (Plain b) (λ i j c x. plain_forward a x) (λ i j c x u v. plain_moved x u v) r (omega (arith, f, h)) (omega (arith, v, k)))
      (on u (omega (arith, f, g, h)) k)
  segment_moved (Segment.escaped t r u) h k =
      let f = forward t in let g = row_forward a (λ i j c x. escaped_forward a x) r in let v = forward u in
      Segment.escaped (on t h (omega (arith, g, v, k)))
      (row_moved (Escaped a) (Escaped b) (λ i j c x. escaped_forward a x) (λ i j c x u v. escaped_moved x u v) r (omega (arith, f, h)) (omega (arith, v, k)))
      (on u (omega (arith, f, g, h)) k)

  quoted_moved : {i j : ℕ} {cs : List ℕ} → Quoted a i j cs → p ≤ i → j ≤ p + n → Quoted b (shift p q i) (shift p q j) cs
  quoted_moved (last_segment s) h k = last_segment (segment_moved s h k)
  quoted_moved (next_segment s t r) h k =
      let f = segment_forward a s in let g = forward t in let v = quoted_forward a r in
      next_segment (segment_moved s h (omega (arith, g, v, k))) (on t (omega (arith, f, h)) (omega (arith, v, k))) (quoted_moved r (omega (arith, f, g, h)) k)

  pub text_moved : {i j : ℕ} {cs : List ℕ} → TextOf a i j cs → p ≤ i → j ≤ p + n → TextOf b (shift p q i) (shift p q j) cs
  text_moved (quotes s) h k = quotes (quoted_moved s h k)
  text_moved (bare {i} {j} t) h k =
      subst (TextOf b (shift p q i) (shift p q j)) (sym (bytes_moved i j h (forward t) k)) (bare (on t h k))
  text_moved (coded c) h k = coded (code_moved c h k)

  -- ---- bits and bytes

  pub behind_moved : (mark : String) (m : ℕ) (c : Class) {i j : ℕ} {ds : List ℕ} → Behind a mark m c i j ds → p ≤ i → j ≤ p + n → Behind b mark m c (shift p q i) (shift p q j) ds
  behind_moved mark m c (mark_alone t) h k = mark_alone (on t h k)
  behind_moved mark m c (mark_digits t d) h k =
      let f = forward t in let g = digits_forward d in
      mark_digits (on t h (omega (arith, g, k))) (digits_moved m c d (omega (arith, f, h)) k)

  pub bits_moved : {i j : ℕ} {bs : List ℕ} → BitsOf a i j bs → p ≤ i → j ≤ p + n → BitsOf b (shift p q i) (shift p q j) bs
  bits_moved (BitsOf.in_binary x) h k = BitsOf.in_binary (behind_moved "0bb" 1 binary x h k)
  bits_moved (BitsOf.in_octal x) h k = BitsOf.in_octal (behind_moved "0bo" 1 octal x h k)
  bits_moved (BitsOf.in_hexadecimal x) h k = BitsOf.in_hexadecimal (behind_moved "0bx" 1 hexadecimal x h k)

  pub blob_moved : {i j : ℕ} {bs : List ℕ} → BlobOf a i j bs → p ≤ i → j ≤ p + n → BlobOf b (shift p q i) (shift p q j) bs
  blob_moved (BlobOf.in_binary x o e) h k = BlobOf.in_binary (behind_moved "0xb" 8 binary x h k) o e
  blob_moved (BlobOf.in_hexadecimal x o e) h k = BlobOf.in_hexadecimal (behind_moved "0xx" 2 hexadecimal x h k) o e
  blob_moved (BlobOf.in_base64 x o e) h k = BlobOf.in_base64 (behind_moved "0xy" 4 base64 x h k) o e

  -- ---- bad values: Text

  bad_code_lem : {i j : ℕ} → BadCode a i j → p ≤ i → j ≤ p + n → BadCode b (shift p q i) (shift p q j)
  bad_code_lem z h k = record { number = z.number; code = code_moved z.code h k; bad = z.bad }

  bad_escape_lem : {i j : ℕ} → BadEscape a i j → p ≤ i → j ≤ p + n → BadEscape b (shift p q i) (shift p q j)
  bad_escape_lem z h k =
      let f = forward z.before in let g = code_forward a z.code.code in let o = forward z.behind in
      record {
        start = shift p q z.start;
        end = shift p q z.end;
        before = on z.before h (omega (arith, g, o, k));
        code = bad_code_lem z.code (omega (arith, f, h)) (omega (arith, o, k));
        behind = on z.behind (omega (arith, f, g, h)) k;
      }

  pub bad_segment_lem : {i j : ℕ} → BadSegment a i j → p ≤ i → j ≤ p + n → BadSegment b (shift p q i) (shift p q j)
  bad_segment_lem z h k =
      let f = forward z.before in let g = among_forward z.content in let o = forward z.behind in
      record {
        start = shift p q z.start;
        end = shift p q z.end;
        before = on z.before h (omega (arith, g, o, k));
        content = among_moved a b p q n w (unescaped or escape) (BadEscape a) (BadEscape b) (λ i j x u v. bad_escape_lem x u v) z.content (omega (arith, f, h)) (omega (arith, o, k));
        behind = on z.behind (omega (arith, f, g, h)) k;
      }

  bad_segment_forward : {i j : ℕ} → BadSegment a i j → i ≤ j
  bad_segment_forward z = omega (arith, forward z.before, among_forward z.content, forward z.behind)

  pub bad_further_lem : {i j : ℕ} → BadFurther a i j → p ≤ i → j ≤ p + n → BadFurther b (shift p q i) (shift p q j)
  bad_further_lem z h k =
      let f = forward z.before in let g = bad_segment_forward z.bad in
      record { start = shift p q z.start; before = on z.before h (omega (arith, g, k)); bad = bad_segment_lem z.bad (omega (arith, f, h)) k }

  pub bad_quoted_lem : {i j : ℕ} → BadQuoted a i j → p ≤ i → j ≤ p + n → BadQuoted b (shift p q i) (shift p q j)
  bad_quoted_lem (in_first s t) h k =
      let f = bad_segment_forward s in let g = forward t in
      in_first (bad_segment_lem s h (omega (arith, g, k))) (on t (omega (arith, f, h)) k)
  bad_quoted_lem (in_further s t) h k =
      let f = forward s in let g = among_forward t in
      in_further (on s h (omega (arith, g, k)))
      (among_moved a b p q n w (opt sp then segment) (BadFurther a) (BadFurther b) (λ i j x u v. bad_further_lem x u v) t (omega (arith, f, h)) k)

  -- the backslash moves with its escape
  pub backslash_moved : {i j : ℕ} (x : BadQuoted a i j) (h : p ≤ i) (k : j ≤ p + n) → backslash_of b (bad_quoted_lem x h k) ≡ shift p q (backslash_of a x)
  unfolding bad_quoted_lem bad_further_lem bad_segment_lem among_moved
  backslash_moved (in_first s t) h k = refl
  backslash_moved (in_further s t) h k = refl

  -- ---- Fraction

  zero_denominator : {i j : ℕ} → ZeroDenominator a i j → p ≤ i → j ≤ p + n → ZeroDenominator b (shift p q i) (shift p q j)
  zero_denominator z h k =
      let f = forward z.before in let g = number_forward a z.zero in let o = forward z.behind in
      record {
        start = shift p q z.start;
        end = shift p q z.end;
        before = on z.before h (omega (arith, g, o, k));
        zero = number_moved z.zero (omega (arith, f, h)) (omega (arith, o, k));
        behind = on z.behind (omega (arith, f, g, h)) k;
      }

  small_radix_lem : {i j : ℕ} → SmallRadix a i j → p ≤ i → j ≤ p + n → SmallRadix b (shift p q i) (shift p q j)
  small_radix_lem z h k =
      let f = forward z.before in let g = number_forward a z.number in let o = forward z.behind in
      record {
        start = shift p q z.start;
        end = shift p q z.end;
        before = on z.before h (omega (arith, g, o, k));
        radix = z.radix;
        number = number_moved z.number (omega (arith, f, h)) (omega (arith, o, k));
        small = z.small;
        behind = on z.behind (omega (arith, f, g, h)) k;
      }

-- ---- Blob

module _ (a b : List ℕ) (p q n : ℕ) (w : Window a b p q n) where
  -- bytes there would be bytes here
  no_bytes : {i j : ℕ} → NoBytes a i j → p ≤ i → j ≤ p + n → NoBytes b (shift p q i) (shift p q j)
  no_bytes {i} {j} z h k bs y =
      let e : shift q p (shift p q i) ≡ i = omega (arith, h) in
      let f : shift q p (shift p q j) ≡ j = omega (arith, h, blob_forward b y) in
      let x = blob_moved b a q p n (turned w) y (omega arith) (omega (arith, k)) in
      z bs (subst (λ (m : ℕ). BlobOf a i m bs) f (subst (λ (m : ℕ). BlobOf a m (shift q p (shift p q j)) bs) e x))

  -- ---- of any token

  pub bad_moved : (k : Kind) {i j : ℕ} → Bad a k i j → p ≤ i → j ≤ p + n → Bad b k (shift p q i) (shift p q j)
  bad_moved Ignorance x h l = x
  bad_moved (Boolean t) x h l = x
  bad_moved (Integer s) x h l = x
  bad_moved Fraction (inl x) h l = inl (zero_denominator a b p q n w x h l)
  bad_moved Fraction (inr x) h l = inr (small_radix_lem a b p q n w x h l)
  bad_moved Bits x h l = x
  bad_moved Blob x h l = no_bytes x h l
  bad_moved (Text Form.Quoted) x h l = bad_quoted_lem a b p q n w x h l
  bad_moved (Text Word) x h l = x
  bad_moved (Text (HeadWord d)) x h l = x
  bad_moved (Text CodePoint) x h l = bad_code_lem a b p q n w x h l
  bad_moved Later x h l = x
  bad_moved (Symbol s) x h l = x
  bad_moved Colon x h l = x
  bad_moved TwoColons x h l = x
