-- The calls: what is spread is the literal's bytes and, where `=` end it, zeros; and so are the answers. Assumes nothing.
use mathlib.Core.Path.{◌≡◌, refl, sym, ap, subst⁻¹, ◌∙◌}
use mathlib.Core.List.{List, [], ◌∷◌, ◌++◌, map, map-append, append_assoc, append-nil}
use Prim.Native.Nat.{ℕ, zero, suc, ◌+◌, ◌-◌, ◌*◌, ◌^◌, ◌≤◌, ◌<◌}
use native.Mathlib.Omega.{arith}
use lib.ListN.{length, take, drop, replicate, length-replicate, replicate-append-replicate, length-append, length-take, length-map}
use Rattle.rules.specs.Class.{byte_of}
use Rattle.rules.specs.Every.{Every, none, also}
use Rattle.rules.specs.Over.{over}
use Rattle.rules.proofs.Every.{every_append}
use Rattle.lexicon.specs.Expansion.{expand}
use Rattle.lexicon.specs.Base64.{character, Encodes}
use Rattle.lexicon.specs.Utf8.{WellFormed}
use Rattle.lexicon.specs.Values.{digit, Octets, BitsOf, BlobOf}
use Rattle.lexicon.proofs.Expansions.{bits_zero, expand_append, expand_length, expand_bits, expand_same, expand_one, RowOf, rows}
use Rattle.lexicon.proofs.Sextets.{sextet_character, character_no_pad}
use Rattle.lexicon.proofs.Contents.{bits_same, blob_encodes, blob_octets, blob_same}
use Rattle.reading.specs.declared.Rules.{Rules}
use Rattle.reading.specs.Answers.{answer}
use Rattle.values.specs.Bytes.{PieceBytes, BytesAnswers, no_room, accepted}
use Rattle.blob_value.specs.declared.mark.Mark.{Mark}
use Rattle.blob_value.specs.declared.mark.Mark.TheVariants.{BlobBinary, BlobHexadecimal, BlobBase64, BitsBinary, BitsOctal, BitsHexadecimal}
use Rattle.blob_value.specs.Marks.{kind_of, unit_of, width_of, size_of, bytes_of, value_of}
use Rattle.blob_value.specs.Spread.{Whole, Fills, Measured, Spread}
use Rattle.blob_value.specs.Calls.{call_of, Sound, Padded}
use Rattle.blob_value.proofs.Marks.{value_digit, value_pad, value_sextet}

-- ---- the values of digits

values_digits : (radix : ℕ) → radix < 64 → (ds : List ℕ) → map (value_of radix) ds ≡ map digit ds
values_digits radix h [] = refl
values_digits radix h (d ∷ ds) =
    ap (λ (v : ℕ). v ∷ map (value_of radix) ds) (sym (value_digit radix d (digit d) h refl)) ∙ ap (λ (l : List ℕ). digit d ∷ l) (values_digits radix h ds)

values_characters : (vs : List ℕ) → Every (λ v. v < 64) vs → map (value_of 64) (map character vs) ≡ vs
values_characters [] s = refl
values_characters (v ∷ vs) (also h s) =
    ap (λ (x : ℕ). x ∷ map (value_of 64) (map character vs))
    (sym (value_sextet 64 (character v) _ (omega arith) (character_no_pad h) refl) ∙ sextet_character h)
    ∙ ap (λ (l : List ℕ). v ∷ l) (values_characters vs s)

values_pads : (n : ℕ) → map (value_of 64) (replicate n (byte_of "=")) ≡ replicate n 0
values_pads zero = refl
values_pads (suc n) =
    ap (λ (x : ℕ). x ∷ map (value_of 64) (replicate n (byte_of "="))) (sym (value_pad 64 (byte_of "=") (omega arith) refl))
    ∙ ap (λ (l : List ℕ). 0 ∷ l) (values_pads n)

-- ---- zeros

expand_zeros : (w n : ℕ) → expand w (replicate n 0) ≡ replicate (n * w) 0
expand_zeros w zero = let e : 0 ≡ 0 * w = omega arith in ap (λ (k : ℕ). replicate k 0) e
expand_zeros w (suc n) =
    let e : w + n * w ≡ suc n * w = omega arith in
    ap (λ (l : List ℕ). l ++ expand w (replicate n 0)) (bits_zero w)
    ∙ ap (λ (l : List ℕ). replicate w 0 ++ l) (expand_zeros w n)
    ∙ replicate-append-replicate w (n * w) 0
    ∙ ap (λ (k : ℕ). replicate k 0) e

zeros_small : (n : ℕ) → Octets (replicate n 0)
zeros_small zero = none
zeros_small (suc n) = let h : 0 < 256 = omega arith in also h (zeros_small n)

-- the digits of an encoding, each `=` for six zeros, have the bits of the bytes and of a zero for each `=`
encoded_bits : {ds bs : List ℕ} (e : Encodes ds bs) → expand 6 (map (value_of 64) ds) ≡ expand 8 (bs ++ replicate e.padding 0)
encoded_bits {ds} {bs} e =
    let n = e.padding in
    let k : 2 * n + n * 6 ≡ n * 8 = omega arith in
    ap (expand 6)
    (ap (map (value_of 64)) e.characters_are
    ∙ map-append (value_of 64) (map character e.groups) (replicate n (byte_of "="))
    ∙ ap (λ (l : List ℕ). l ++ map (value_of 64) (replicate n (byte_of "="))) (values_characters e.groups e.six_bits)
    ∙ ap (λ (l : List ℕ). e.groups ++ l) (values_pads n))
    ∙ expand_append 6 e.groups (replicate n 0)
    ∙ ap (λ (l : List ℕ). l ++ expand 6 (replicate n 0)) e.bits_are
    ∙ ap (λ (l : List ℕ). (expand 8 bs ++ replicate (2 * n) 0) ++ l) (expand_zeros 6 n)
    ∙ append_assoc (expand 8 bs) (replicate (2 * n) 0) (replicate (n * 6) 0)
    ∙ ap (λ (l : List ℕ). expand 8 bs ++ l) (replicate-append-replicate (2 * n) (n * 6) 0 ∙ ap (λ (j : ℕ). replicate j 0) k ∙ sym (expand_zeros 8 n))
    ∙ sym (expand_append 8 bs (replicate n 0))

-- ---- what is spread

-- the other marks have other units
not_base64 : {m : Mark} → (unit_of m ≡ 4 → ⊥) → m ≡ BlobBase64 → ⊥
not_base64 f e = f (ap unit_of e)

module _ (piece : List ℕ) where
  abbrev BytesOf : Mark → List ℕ → Type 0
  BytesOf mark bs = PieceBytes (call_of (kind_of mark)) piece bs

  -- without padding
  plain : {mark : Mark} {n : ℕ} {bs out : List ℕ} → (mark ≡ BlobBase64 → ⊥) → Padded piece mark n → out ≡ bs → out ≡ bs ++ replicate n 0
  plain {bs = bs} f p e = e ∙ sym (append-nil bs) ∙ ap (λ (k : ℕ). bs ++ replicate k 0) (sym (p.others f))

  module _ (w radix : ℕ) (h : radix < 64) (ds out : List ℕ) where
    bits_spread : {bs : List ℕ} → Every (λ b. b < 2) out → expand 1 out ≡ expand w (map (value_of radix) ds) → BitsOf piece 0 (length piece) (expand w (map digit ds)) →
        BitsOf piece 0 (length piece) bs → out ≡ bs
    bits_spread s e x y = sym (expand_one out s) ∙ e ∙ ap (expand w) (values_digits radix h ds) ∙ bits_same piece x y

    bits_are : expand 8 out ≡ expand w (map (value_of radix) ds) → expand 8 out ≡ expand w (map digit ds)
    bits_are e = e ∙ ap (expand w) (values_digits radix h ds)

  filling_bytes : (mark : Mark) {n : ℕ} (ds out bs : List ℕ) → Whole piece mark ds → Fills mark ds out →
      BytesOf mark bs → Padded piece mark n → out ≡ bs ++ replicate n 0
  filling_bytes BlobBinary ds out bs s f b p =
      plain (not_base64 (λ e. omega (arith, e))) p (blob_same piece (BlobOf.in_binary s f.small (bits_are 1 2 (omega arith) ds out f.bits_are)) b)
  filling_bytes BlobHexadecimal ds out bs s f b p =
      plain (not_base64 (λ e. omega (arith, e))) p (blob_same piece (BlobOf.in_hexadecimal s f.small (bits_are 4 16 (omega arith) ds out f.bits_are)) b)
  filling_bytes BlobBase64 ds out bs s f b p =
      let e = blob_encodes piece s b in
      let q = p.base64_is refl ds bs s e in
      expand_same 8 (omega arith) out (bs ++ replicate e.padding 0) f.small (every_append (blob_octets piece b) (zeros_small e.padding))
      (f.bits_are ∙ encoded_bits e)
      ∙ ap (λ (k : ℕ). bs ++ replicate k 0) q
  filling_bytes BitsBinary ds out bs s f b p =
      plain (not_base64 (λ e. omega (arith, e))) p (bits_spread 1 2 (omega arith) ds out f.small f.bits_are (BitsOf.in_binary s) b)
  filling_bytes BitsOctal ds out bs s f b p =
      plain (not_base64 (λ e. omega (arith, e))) p (bits_spread 3 8 (omega arith) ds out f.small f.bits_are (BitsOf.in_octal s) b)
  filling_bytes BitsHexadecimal ds out bs s f b p =
      plain (not_base64 (λ e. omega (arith, e))) p (bits_spread 4 16 (omega arith) ds out f.small f.bits_are (BitsOf.in_hexadecimal s) b)

-- ---- the answers

-- what is written into a part as long as the first of two rows leaves that row there
over_cut : (t xs ys : List ℕ) → length t ≡ length xs → over t 0 (xs ++ ys) ≡ xs
over_cut [] [] ys e = refl
over_cut [] (x ∷ xs) ys e = absurd (omega (arith, e))
over_cut (a ∷ t) [] ys e = absurd (omega (arith, e))
over_cut (a ∷ t) (x ∷ xs) ys e = ap (λ (l : List ℕ). x ∷ l) (over_cut t xs ys (omega (arith, e)))

part_length : (t : List ℕ) (n : ℕ) → n ≤ length t → n ≡ length (take n t)
part_length t n h = sym (length-take n t ∙ omega (arith, h))

-- units that fill bytes have the bits of so many
whole_bytes : (mark : Mark) (ds : List ℕ) (k : ℕ) → length ds ≡ k * unit_of mark →
    RowOf (size_of (kind_of mark)) (k * bytes_of mark) (expand (width_of mark) (map (value_of (2 ^ width_of mark)) ds))
whole_bytes mark ds k e =
    let vs = map (value_of (2 ^ width_of mark)) ds in
    rows (size_of (kind_of mark)) (k * bytes_of mark) (expand (width_of mark) vs) (expand_bits (width_of mark) vs)
    (expand_length (width_of mark) vs ∙ ap (λ (n : ℕ). width_of mark * n) (length-map ds (value_of (2 ^ width_of mark)) ∙ e) ∙ by mark)
  where
    by : (m : Mark) → width_of m * (k * unit_of m) ≡ size_of (kind_of m) * (k * bytes_of m)
    by BlobBinary = omega arith
    by BlobHexadecimal = omega arith
    by BlobBase64 = omega arith
    by BitsBinary = omega arith
    by BitsOctal = omega arith
    by BitsHexadecimal = omega arith

module _ (piece : List ℕ) (mark : Mark) (s : Sound piece mark) {n : ℕ} (p : Padded piece mark n) where
  -- the bytes are counted exactly
  counted : {m : ℕ} → Measured mark (Whole piece mark) m → m ≡ length s.bytes + n
  counted v =
      let r = whole_bytes mark v.digits v.units v.units_are in
      let f : Fills mark v.digits r.numbers = record { small = r.small; bits_are = r.bits_are } in
      let e = ap length (filling_bytes piece mark v.digits r.numbers s.bytes v.are f s.are p) in
      omega (arith, e, r.count, v.bytes_are, length-append s.bytes (replicate n 0), length-replicate {A = ℕ} n 0)

  pub enough : {m : ℕ} → Measured mark (Whole piece mark) m → n ≤ m
  enough v = omega (arith, counted v)

  module _ (rules : Rules) (h : length piece ≤ rules.text) (formed : WellFormed piece) (lent : List ℕ) {m : ℕ} (v : Measured mark (Whole piece mark) m) where
    abbrev Answers : ℕ → ℕ → List ℕ → Type 0
    Answers number count u = BytesAnswers (call_of (kind_of mark)) rules piece lent (answer number (length piece) count) u

    needed : m - n ≡ length s.bytes
    needed = omega (arith, counted v)

    pub too_small : length lent < m - n → Answers 8 (m - n) lent
    too_small l = subst⁻¹ (λ (k : ℕ). Answers 8 k lent) needed (no_room h formed s.exact s.good s.are (omega (arith, l, needed)))

    -- what is written into a part of that length leaves the bytes there
    pub fits : {u : List ℕ} → m - n ≤ length lent → Spread mark (Whole piece mark) (take (m - n) lent) u → Answers 0 (m - n) (u ++ drop (m - n) lent)
    fits {u} l w =
        let part = take (m - n) lent in
        let e : u ≡ s.bytes =
        w.puts.bytes_are
        ∙ ap (over part 0) (filling_bytes piece mark w.digits w.bytes s.bytes w.are w.fills s.are p)
        ∙ over_cut part s.bytes (replicate n 0) (sym (part_length lent (m - n) l) ∙ needed) in
        let f : u ++ drop (m - n) lent ≡ s.bytes ++ drop (length s.bytes) lent =
        ap (λ (x : List ℕ). x ++ drop (m - n) lent) e ∙ ap (λ (k : ℕ). s.bytes ++ drop k lent) needed in
        subst⁻¹ (λ (x : List ℕ). Answers 0 (m - n) x) f
        (subst⁻¹ (λ (k : ℕ). Answers 0 k (s.bytes ++ drop (length s.bytes) lent)) needed
        (accepted h formed s.exact s.good s.are (omega (arith, l, needed))))
