-- What Bits and Blob literals hold: a literal's digits are fixed by its ends, and so are its bits and bytes; Bits always have bits and
-- Blobs in base 2 and 16 bytes, in base 64 exactly if the digits are fit; and how many they are at most. Assumes nothing.
use mathlib.Core.Path.{◌≡◌, refl, sym, ap, subst, ◌∙◌}
use mathlib.Core.Bool.{true}
use mathlib.Core.List.{List, [], map}
use Prim.Native.Nat.{ℕ, suc, ◌+◌, ◌-◌, ◌*◌, ◌≤◌, ◌<◌}
use Prim.Native.String.{String}
use native.Mathlib.Omega.{arith}
use lib.ListN.{length, length-map}
use Rattle.rules.specs.Class.{Class, In, codes}
use Rattle.rules.specs.Every.{Every, none}
use Rattle.rules.specs.Rule.{◌then◌, opt, lit, Takes, nothing, both, left, right}
use Rattle.rules.proofs.Classes.{apart, apart_span}
use Rattle.rules.proofs.Matches.{forward, starting, ending, row_end}
use Rattle.rules.proofs.Ways.{differ, differ_no}
use Rattle.lexicon.specs.declared.Base.TheVariants.{Two, Eight, Sixteen}
use Rattle.lexicon.specs.Bytes.{binary, octal, hexadecimal, base64}
use Rattle.lexicon.specs.Space.{sp, Skips}
use Rattle.lexicon.specs.Expansion.{expand}
use Rattle.lexicon.specs.Base64.{Encodes}
use Rattle.lexicon.specs.Literals.{maybe, bits}
use Rattle.lexicon.specs.Values.{digit, Octets, Digits, Behind, mark_alone, mark_digits, BitsOf, BlobOf}
use Rattle.lexicon.proofs.Spaces.{skips_same, landed}
use Rattle.lexicon.proofs.Groups.{Clear, digits_at, digits_same, digits_forward, digits_in, digits_whole, digits_short, to_row}
use Rattle.lexicon.proofs.Numbers.{clear, clear_base64}
use Rattle.lexicon.proofs.Fit.{Fit}
use Rattle.lexicon.proofs.Expansions.{expand_length, expand_bits, expand_same, RowOf, rows}
use Rattle.lexicon.proofs.Encodings.{encodes_fit, fit_encodes, encodes_same, encodes_short}

-- ---- the digits behind a mark

module _ {text : List ℕ} (mark : String) (n : ℕ) (c : Class) where
  pub behind_mark_lem : {i j : ℕ} {ds : List ℕ} → Behind text mark n c i j ds → Takes text (lit mark) i (i + length (codes mark))
  behind_mark_lem (mark_alone t) = ending (row_end (codes mark) t) t
  behind_mark_lem (mark_digits (both t s) d) = ending (row_end (codes mark) t) t

  pub has_digits : {i j : ℕ} → Takes text (lit mark then maybe n c) i j → (ds : List ℕ) × Behind text mark n c i j ds
  has_digits (both t (left (both s g))) = let r = to_row text n c g in (r.0, mark_digits (both t s) r.1)
  has_digits (both t (right (nothing e))) = ([], mark_alone (ending e t))

  pub behind_in : {i j : ℕ} {ds : List ℕ} → Behind text mark n c i j ds → Every (In c) ds
  behind_in (mark_alone t) = none
  behind_in (mark_digits t d) = digits_in n d

  pub behind_whole : {i j : ℕ} {ds : List ℕ} → Behind text mark n c i j ds → (k : ℕ) × (length ds ≡ n * k)
  behind_whole (mark_alone t) = (0, omega arith)
  behind_whole (mark_digits t d) = digits_whole n d

  behind_short : {i j : ℕ} {ds : List ℕ} → Behind text mark n c i j ds → i + length (codes mark) + length ds ≤ j
  behind_short (mark_alone t) = omega (arith, row_end (codes mark) t)
  behind_short (mark_digits (both t s) d) = omega (arith, row_end (codes mark) t, forward s, digits_short n d)

module _ {text : List ℕ} (mark : String) (n : ℕ) (c : Class) (cl : Clear c) where
  behind_same_lem : {i j : ℕ} {ds es : List ℕ} → Behind text mark (suc n) c i j ds → Behind text mark (suc n) c i j es → ds ≡ es
  behind_same_lem (mark_alone t) (mark_alone u) = refl
  behind_same_lem (mark_alone t) (mark_digits (both u s) d) =
      absurd (omega (arith, row_end (codes mark) t, row_end (codes mark) u, forward s, digits_forward d))
  behind_same_lem (mark_digits (both u s) d) (mark_alone t) =
      absurd (omega (arith, row_end (codes mark) t, row_end (codes mark) u, forward s, digits_forward d))
  behind_same_lem {j = j} {es = es} (mark_digits (both t s) d) (mark_digits (both u r) f) =
      digits_same text n c cl d (subst (λ (x : ℕ). Digits text (suc n) c x j es) (start t s d u r f) f)
    where
      begun : {m k : ℕ} {bs : List ℕ} → Takes text (opt sp) m k → Digits text (suc n) c k j bs → Skips text m k
      begun s d = landed c cl.no_blank s (digits_at text n c cl d)

      start : {i m l k o : ℕ} {bs cs : List ℕ} → Takes text (lit mark) i m → Takes text (opt sp) m k → Digits text (suc n) c k j bs → Takes text (lit mark) i l → Takes text (opt sp) l o → Digits text (suc n) c o j cs → o ≡ k
      start t s d u r f = skips_same (begun (starting (row_end (codes mark) u ∙ sym (row_end (codes mark) t)) r) f) (begun s d)

-- two marks
module _ {text : List ℕ} (m l : String) (e : length (codes m) ≡ length (codes l)) (d : differ 4 (lit m) (lit l) ≡ true) where
  pub marks_apart : {i j : ℕ} {n o : ℕ} {b c : Class} {ds es : List ℕ} → Behind text m n b i j ds → Behind text l o c i j es → ⊥
  marks_apart {i} {n = n} {o} {b} {c} x y =
      differ_no text 4 (lit m) (lit l) d (ending (ap (λ (z : ℕ). i + z) e) (behind_mark_lem m n b x)) (behind_mark_lem l o c y)

-- ---- Bits

module _ (text : List ℕ) where
  pub has_bits : {i j : ℕ} → Takes text bits i j → (bs : List ℕ) × BitsOf text i j bs
  has_bits (left t) = (_, BitsOf.in_binary (has_digits "0bb" 1 binary t).1)
  has_bits (right (left t)) = (_, BitsOf.in_octal (has_digits "0bo" 1 octal t).1)
  has_bits (right (right t)) = (_, BitsOf.in_hexadecimal (has_digits "0bx" 1 hexadecimal t).1)

  binary_octal : {i j : ℕ} {ds es : List ℕ} → Behind text "0bb" 1 binary i j ds → Behind text "0bo" 1 octal i j es → ⊥
  unfolding differ apart apart_span
  binary_octal = marks_apart "0bb" "0bo" refl refl

  binary_hexadecimal : {i j : ℕ} {ds es : List ℕ} → Behind text "0bb" 1 binary i j ds → Behind text "0bx" 1 hexadecimal i j es → ⊥
  unfolding differ apart apart_span
  binary_hexadecimal = marks_apart "0bb" "0bx" refl refl

  octal_hexadecimal : {i j : ℕ} {ds es : List ℕ} → Behind text "0bo" 1 octal i j ds → Behind text "0bx" 1 hexadecimal i j es → ⊥
  unfolding differ apart apart_span
  octal_hexadecimal = marks_apart "0bo" "0bx" refl refl

  -- one row of bits
  pub bits_same : {i j : ℕ} {bs cs : List ℕ} → BitsOf text i j bs → BitsOf text i j cs → bs ≡ cs
  bits_same (BitsOf.in_binary x) (BitsOf.in_binary y) = ap (λ (l : List ℕ). expand 1 (map digit l)) (behind_same_lem "0bb" 0 binary (clear Two) x y)
  bits_same (BitsOf.in_binary x) (BitsOf.in_octal y) = absurd (binary_octal x y)
  bits_same (BitsOf.in_binary x) (BitsOf.in_hexadecimal y) = absurd (binary_hexadecimal x y)
  bits_same (BitsOf.in_octal x) (BitsOf.in_binary y) = absurd (binary_octal y x)
  bits_same (BitsOf.in_octal x) (BitsOf.in_octal y) = ap (λ (l : List ℕ). expand 3 (map digit l)) (behind_same_lem "0bo" 0 octal (clear Eight) x y)
  bits_same (BitsOf.in_octal x) (BitsOf.in_hexadecimal y) = absurd (octal_hexadecimal x y)
  bits_same (BitsOf.in_hexadecimal x) (BitsOf.in_binary y) = absurd (binary_hexadecimal y x)
  bits_same (BitsOf.in_hexadecimal x) (BitsOf.in_octal y) = absurd (octal_hexadecimal y x)
  bits_same (BitsOf.in_hexadecimal x) (BitsOf.in_hexadecimal y) = ap (λ (l : List ℕ). expand 4 (map digit l)) (behind_same_lem "0bx" 0 hexadecimal (clear Sixteen) x y)

  pub bits_zero_one : {i j : ℕ} {bs : List ℕ} → BitsOf text i j bs → Every (λ b. b < 2) bs
  bits_zero_one (BitsOf.in_binary {ds = ds} x) = expand_bits 1 (map digit ds)
  bits_zero_one (BitsOf.in_octal {ds = ds} x) = expand_bits 3 (map digit ds)
  bits_zero_one (BitsOf.in_hexadecimal {ds = ds} x) = expand_bits 4 (map digit ds)

  -- four bits for a byte of the literal at most
  pub bits_short : {i j : ℕ} {bs : List ℕ} → BitsOf text i j bs → length bs ≤ 4 * (j - i)
  bits_short (BitsOf.in_binary {ds = ds} x) =
      omega (arith, expand_length 1 (map digit ds), length-map ds digit, behind_short "0bb" 1 binary x)
  bits_short (BitsOf.in_octal {ds = ds} x) =
      omega (arith, expand_length 3 (map digit ds), length-map ds digit, behind_short "0bo" 1 octal x)
  bits_short (BitsOf.in_hexadecimal {ds = ds} x) =
      omega (arith, expand_length 4 (map digit ds), length-map ds digit, behind_short "0bx" 1 hexadecimal x)

-- ---- Blob

-- digits that fill whole bytes say some
bytes_of : (w k : ℕ) (ds : List ℕ) → w * length ds ≡ 8 * k → RowOf 8 k (expand w (map digit ds))
bytes_of w k ds e =
    rows 8 k (expand w (map digit ds)) (expand_bits w (map digit ds)) (expand_length w (map digit ds) ∙ ap (λ (n : ℕ). w * n) (length-map ds digit) ∙ e)

module _ (text : List ℕ) where
  -- in base 2 and 16 they do
  pub has_binary : {i j : ℕ} {ds : List ℕ} → Behind text "0xb" 8 binary i j ds → (bs : List ℕ) × BlobOf text i j bs
  has_binary {ds = ds} x =
      let k = behind_whole "0xb" 8 binary x in let r = bytes_of 1 k.0 ds (omega (arith, k.1)) in
      (r.numbers, BlobOf.in_binary x r.small r.bits_are)

  pub has_hexadecimal : {i j : ℕ} {ds : List ℕ} → Behind text "0xx" 2 hexadecimal i j ds → (bs : List ℕ) × BlobOf text i j bs
  has_hexadecimal {ds = ds} x =
      let k = behind_whole "0xx" 2 hexadecimal x in let r = bytes_of 4 k.0 ds (omega (arith, k.1)) in
      (r.numbers, BlobOf.in_hexadecimal x r.small r.bits_are)

  -- in base 64 exactly if the digits are fit
  pub has_base64 : {i j : ℕ} {ds : List ℕ} → Behind text "0xy" 4 base64 i j ds → Fit ds → (bs : List ℕ) × BlobOf text i j bs
  has_base64 {ds = ds} x f =
      let k = behind_whole "0xy" 4 base64 x in
      let r = fit_encodes (behind_in "0xy" 4 base64 x) (omega (arith, k.1)) f in
      (r.0, BlobOf.in_base64 x r.1 r.2)

  binary_hex : {i j : ℕ} {ds es : List ℕ} → Behind text "0xb" 8 binary i j ds → Behind text "0xx" 2 hexadecimal i j es → ⊥
  unfolding differ apart apart_span
  binary_hex = marks_apart "0xb" "0xx" refl refl

  binary_base64 : {i j : ℕ} {ds es : List ℕ} → Behind text "0xb" 8 binary i j ds → Behind text "0xy" 4 base64 i j es → ⊥
  unfolding differ apart apart_span
  binary_base64 = marks_apart "0xb" "0xy" refl refl

  hexadecimal_base64 : {i j : ℕ} {ds es : List ℕ} → Behind text "0xx" 2 hexadecimal i j ds → Behind text "0xy" 4 base64 i j es → ⊥
  unfolding differ apart apart_span
  hexadecimal_base64 = marks_apart "0xx" "0xy" refl refl

  pub blob_encodes : {i j : ℕ} {ds bs : List ℕ} → Behind text "0xy" 4 base64 i j ds → BlobOf text i j bs → Encodes ds bs
  blob_encodes y (BlobOf.in_binary x o e) = absurd (binary_base64 x y)
  blob_encodes y (BlobOf.in_hexadecimal x o e) = absurd (hexadecimal_base64 x y)
  blob_encodes {bs = bs} y (BlobOf.in_base64 x o n) = subst (λ (l : List ℕ). Encodes l bs) (behind_same_lem "0xy" 3 base64 clear_base64 x y) n

  pub blob_fit : {i j : ℕ} {ds bs : List ℕ} → Behind text "0xy" 4 base64 i j ds → BlobOf text i j bs → Fit ds
  blob_fit y b = encodes_fit (blob_encodes y b)

  pub blob_forward : {i j : ℕ} {bs : List ℕ} → BlobOf text i j bs → i < j
  blob_forward (BlobOf.in_binary x o e) = omega (arith, behind_short "0xb" 8 binary x)
  blob_forward (BlobOf.in_hexadecimal x o e) = omega (arith, behind_short "0xx" 2 hexadecimal x)
  blob_forward (BlobOf.in_base64 x o e) = omega (arith, behind_short "0xy" 4 base64 x)

  pub blob_octets : {i j : ℕ} {bs : List ℕ} → BlobOf text i j bs → Octets bs
  blob_octets (BlobOf.in_binary x o e) = o
  blob_octets (BlobOf.in_hexadecimal x o e) = o
  blob_octets (BlobOf.in_base64 x o n) = o

  -- one row of bytes
  pub blob_same : {i j : ℕ} {bs cs : List ℕ} → BlobOf text i j bs → BlobOf text i j cs → bs ≡ cs
  blob_same {bs = bs} {cs} (BlobOf.in_binary x o e) (BlobOf.in_binary y p f) =
      expand_same 8 (omega arith) bs cs o p (e ∙ ap (λ (l : List ℕ). expand 1 (map digit l)) (behind_same_lem "0xb" 7 binary (clear Two) x y) ∙ sym f)
  blob_same (BlobOf.in_binary x o e) (BlobOf.in_hexadecimal y p f) = absurd (binary_hex x y)
  blob_same (BlobOf.in_binary x o e) (BlobOf.in_base64 y p f) = absurd (binary_base64 x y)
  blob_same (BlobOf.in_hexadecimal x o e) (BlobOf.in_binary y p f) = absurd (binary_hex y x)
  blob_same {bs = bs} {cs} (BlobOf.in_hexadecimal x o e) (BlobOf.in_hexadecimal y p f) =
      expand_same 8 (omega arith) bs cs o p (e ∙ ap (λ (l : List ℕ). expand 4 (map digit l)) (behind_same_lem "0xx" 1 hexadecimal (clear Sixteen) x y) ∙ sym f)
  blob_same (BlobOf.in_hexadecimal x o e) (BlobOf.in_base64 y p f) = absurd (hexadecimal_base64 x y)
  blob_same (BlobOf.in_base64 x o e) (BlobOf.in_binary y p f) = absurd (binary_base64 y x)
  blob_same (BlobOf.in_base64 x o e) (BlobOf.in_hexadecimal y p f) = absurd (hexadecimal_base64 y x)
  blob_same {bs = bs} (BlobOf.in_base64 x o e) (BlobOf.in_base64 y p f) =
      encodes_same o p (subst (λ (l : List ℕ). Encodes l bs) (behind_same_lem "0xy" 3 base64 clear_base64 x y) e) f

  -- a byte for a byte of the literal at most
  digits_say : (w : ℕ) (ds bs : List ℕ) → expand 8 bs ≡ expand w (map digit ds) → 8 * length bs ≡ w * length ds
  digits_say w ds bs e =
      sym (expand_length 8 bs) ∙ ap length e ∙ expand_length w (map digit ds) ∙ ap (λ (n : ℕ). w * n) (length-map ds digit)

  pub blob_short : {i j : ℕ} {bs : List ℕ} → BlobOf text i j bs → length bs ≤ j - i
  blob_short {bs = bs} (BlobOf.in_binary {ds = ds} x o e) = omega (arith, digits_say 1 ds bs e, behind_short "0xb" 8 binary x)
  blob_short {bs = bs} (BlobOf.in_hexadecimal {ds = ds} x o e) = omega (arith, digits_say 4 ds bs e, behind_short "0xx" 2 hexadecimal x)
  blob_short {bs = bs} (BlobOf.in_base64 {ds = ds} x o n) = omega (arith, encodes_short n, behind_short "0xy" 4 base64 x)
