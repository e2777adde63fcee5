-- What the pieces of the calls are: a mark and its digits. Assumes nothing.
use mathlib.Core.Path.{◌≡◌, refl, sym, ap, subst, ◌∙◌}
use mathlib.Core.Bool.{Bool, true, false}
use mathlib.Core.List.{List, []}
use Prim.Native.Nat.{ℕ, suc, ◌+◌, ◌-◌, ◌*◌, ◌≤◌, ◌<◌}
use native.Mathlib.Nat.{mul-le-mul_left}
use native.Mathlib.Omega.{arith}
use lib.ListN.{length, get_or}
use Rattle.rules.specs.Class.{In, has, byte_of, just, codes}
use Rattle.rules.specs.Test.{Says}
use Rattle.rules.specs.Every.{none}
use Rattle.rules.specs.Rule.{one, Takes, both}
use Rattle.rules.proofs.Classes.{just_is}
use Rattle.rules.proofs.Matches.{forward, starting, ending, row_end}
use Rattle.rules.proofs.Tests.{there, not_there}
use Rattle.lexicon.specs.Bytes.{base64}
use Rattle.lexicon.specs.Space.{Skips}
use Rattle.lexicon.specs.Base64.{Encodes}
use Rattle.lexicon.specs.Values.{Digits, Behind, mark_alone, mark_digits}
use Rattle.lexicon.proofs.Spaces.{skips_same, landed}
use Rattle.lexicon.proofs.Groups.{digits_at, digits_forward, digits_short}
use Rattle.lexicon.proofs.Contents.{behind_mark_lem}
use Rattle.std.specs.Borrow.{MutBor}
use Rattle.buffer.specs.declared.Writer.{Writer}
use Rattle.buffer.specs.Puts.{largest}
use Rattle.buffer.specs.Appends.{Begins}
use Rattle.buffer.proofs.Puts.{puts_none}
use Rattle.buffer.proofs.Appending.{put_in}
use Rattle.blob_value.specs.declared.mark.Mark.{Mark}
use Rattle.blob_value.specs.declared.mark.Mark.TheVariants.{BlobBinary, BlobHexadecimal, BlobBase64, BitsBinary, BitsOctal, BitsHexadecimal}
use Rattle.blob_value.specs.Marks.{mark_of, digits_of, unit_of, bytes_of}
use Rattle.blob_value.specs.Spread.{Units, Whole, Has, HasUnits, Counts, Measured, Spread, Spreads}
use Rattle.blob_value.specs.Calls.{Padded}
use Rattle.blob_value.proofs.Walks.{clear_of, one_at_least, few_bytes}
use Rattle.blob_value.proofs.Pads.{end, behind_tells, none_told, one_told, two_told}

-- ---- marks

three : (m : Mark) → 0 + length (codes (mark_of m)) ≡ 3
three BlobBinary = refl
three BlobHexadecimal = refl
three BlobBase64 = refl
three BitsBinary = refl
three BitsOctal = refl
three BitsHexadecimal = refl

module _ (piece : List ℕ) (mark : Mark) where
  pub mark_length : Has (Whole piece mark) → 3 ≤ length piece
  mark_length h = go h.are
    where
      go : {ds : List ℕ} → Behind piece (mark_of mark) (unit_of mark) (digits_of mark) 0 (length piece) ds → 3 ≤ length piece
      go (mark_alone t) = omega (arith, row_end (codes (mark_of mark)) t, three mark)
      go (mark_digits (both t s) d) = omega (arith, row_end (codes (mark_of mark)) t, three mark, forward s, digits_forward d)

-- ---- padding

module _ {piece : List ℕ} {mark : Mark} where
  padded_by : {n : ℕ} → mark ≡ BlobBase64 → ((ds bs : List ℕ) → Behind piece "0xy" 4 base64 0 (length piece) ds → (e : Encodes ds bs) → e.padding ≡ n) →
      Padded piece mark n
  padded_by e g = record { others = λ h. absurd (h e); base64_is = λ h. g }

has_pad : In (just (byte_of "=")) (byte_of "=")
unfolding has
has_pad = refl

module _ (piece : List ℕ) where
  stood : {i : ℕ} {o : Bool} → Says o (Takes piece (one (just (byte_of "="))) i (i + 1)) → o ≡ true → get_or piece i 0 ≡ byte_of "="
  stood {i} s e = just_is (byte_of "=") (get_or piece i 0) (there s e).1

  not_stood : {i : ℕ} {o : Bool} → Says o (Takes piece (one (just (byte_of "="))) i (i + 1)) → o ≡ false → i < length piece → get_or piece i 0 ≡ byte_of "=" → ⊥
  not_stood {i} s e h x = not_there s e (h, subst (λ (b : ℕ). In (just (byte_of "=")) b) (sym x) has_pad)

  module _ (mark : Mark) (d : Has (Whole piece mark)) where
    long : 3 ≤ length piece
    long = mark_length piece mark d

    last : {i : ℕ} → i ≡ length piece - 1 → get_or piece i 0 ≡ end piece 0
    last e = ap (λ (n : ℕ). get_or piece n 0) (e ∙ omega (arith, long))

    before : {i : ℕ} → i ≡ length piece - 2 → get_or piece i 0 ≡ end piece 1
    before e = ap (λ (n : ℕ). get_or piece n 0) (e ∙ omega (arith, long))

    module _ (e : mark ≡ BlobBase64) {o : Bool}
        (s : Says o (Takes piece (one (just (byte_of "="))) (length piece - 1) (length piece - 1 + 1))) where
      pub pads_none : o ≡ false → Padded piece mark 0
      pads_none t =
          padded_by e
          (λ ds bs b n. none_told piece (behind_tells piece b n) (λ x. not_stood s t (omega (arith, long)) (last refl ∙ x)))

      module _ {p : Bool} (t : o ≡ true) (u : Says p (Takes piece (one (just (byte_of "="))) (length piece - 2) (length piece - 2 + 1))) where
        pub pads_two : p ≡ true → Padded piece mark 2
        pads_two v =
            padded_by e
            (λ ds bs b n. two_told piece (behind_tells piece b n) (sym (last refl) ∙ stood s t) (sym (before refl) ∙ stood u v))

        pub pads_one : p ≡ false → Padded piece mark 1
        pads_one v =
            padded_by e
            (λ ds bs b n.
            one_told piece (behind_tells piece b n) (sym (last refl) ∙ stood s t) (λ x. not_stood u v (omega (arith, long)) (before refl ∙ x)))

-- ---- the digits behind the mark

module _ (piece : List ℕ) (mark : Mark) (d : Has (Whole piece mark)) where
  -- a mark alone has no bytes
  pub write_alone : {t : List ℕ} → length piece ≡ 3 → length t ≤ largest → Spread mark (Whole piece mark) t t
  write_alone {t} e l = go d.are
    where
      go : {ds : List ℕ} → Behind piece (mark_of mark) (unit_of mark) (digits_of mark) 0 (length piece) ds → Spread mark (Whole piece mark) t t
      go (mark_alone m) =
          record { digits = []; are = mark_alone m; bytes = []; fills = record { small = none; bits_are = refl }; end = 0; puts = puts_none t 0 l (omega arith) }
      go (mark_digits (both m s) r) =
          let o = one_at_least mark in absurd (omega (arith, e, row_end (codes (mark_of mark)) m, three mark, forward s, digits_forward r, o.1))

  pub measure_alone : length piece ≡ 3 → Measured mark (Whole piece mark) 0
  measure_alone e = go d.are
    where
      go : {ds : List ℕ} → Behind piece (mark_of mark) (unit_of mark) (digits_of mark) 0 (length piece) ds → Measured mark (Whole piece mark) 0
      go (mark_alone m) = record { digits = []; are = mark_alone m; units = 0; units_are = omega arith; bytes_are = omega arith }
      go (mark_digits (both m s) r) =
          let o = one_at_least mark in absurd (omega (arith, e, row_end (codes (mark_of mark)) m, three mark, forward s, digits_forward r, o.1))

  module _ {g : ℕ} (k : Skips piece 3 g) where
    from_mark : {ds : List ℕ} → Units piece mark g ds → Whole piece mark ds
    from_mark r = mark_digits (both (ending (three mark) (behind_mark_lem (mark_of mark) (unit_of mark) (digits_of mark) d.are)) k.takes) r

    pub units_there : (length piece ≡ 3 → ⊥) → Has (Units piece mark g)
    units_there n = go d.are
      where
        go : {ds : List ℕ} → Behind piece (mark_of mark) (unit_of mark) (digits_of mark) 0 (length piece) ds → Has (Units piece mark g)
        go (mark_alone m) = absurd (n (omega (arith, row_end (codes (mark_of mark)) m, three mark)))
        go (mark_digits {m = l} {ds = ds} (both m s) r) =
            let o = one_at_least mark in
            let q : Digits piece (suc o.0) (digits_of mark) l (length piece) ds = subst (λ (x : ℕ). Digits piece x (digits_of mark) l (length piece) ds) o.1 r in
            let c = clear_of mark in
            let e = skips_same (landed (digits_of mark) c.no_blank (starting (row_end (codes (mark_of mark)) m ∙ three mark) s) (digits_at piece o.0 (digits_of mark) c q)) k in
            record { digits = ds; are = subst (λ (x : ℕ). Digits piece (unit_of mark) (digits_of mark) x (length piece) ds) e r }

    module _ (n : length piece ≡ 3 → ⊥) {u : ℕ} (e : u ≡ unit_of mark) where
      pub has_units : HasUnits piece u g
      has_units = record { mark = mark; unit_is = e; has = units_there n }

      module _ {r b : ℕ} (c : Counts piece u g r) (f : b ≡ bytes_of mark) where
        counted_digits : length (units_there n).digits ≡ r * unit_of mark
        counted_digits = c.of mark e (units_there n).digits (units_there n).are

        pub measure_fits : r * b ≤ 4 * length piece
        measure_fits =
            let o = one_at_least mark in
            let l : r * 1 ≤ r * unit_of mark = mul-le-mul_left r (omega (arith, o.1)) in
            let m : r * b ≤ r * 4 = mul-le-mul_left r (omega (arith, f, few_bytes mark)) in
            omega (arith, l, m, counted_digits, digits_short (unit_of mark) (units_there n).are)

        pub measure_behind : Measured mark (Whole piece mark) (r * b)
        measure_behind =
            record {
              digits = (units_there n).digits;
              are = from_mark (units_there n).are;
              units = r;
              units_are = counted_digits;
              bytes_are = ap (λ (m : ℕ). r * m) f;
            }

    -- the bytes are in the lent buffer when the writer is dropped: t is then its bytes
    pub write_behind : {lent : MutBor (List ℕ)} {t : List ℕ} {u v : Writer} → Begins lent u → Spreads mark (Units piece mark g) u v →
        (lent.ghost_name ≡ v.buffer.ghost_name → t ≡ v.buffer.now) → Spread mark (Whole piece mark) lent.now t
    write_behind {v = v} b s f =
        record { digits = s.digits; are = from_mark s.are; bytes = s.bytes; fills = s.fills; end = v.at; puts = put_in b s.appends f }
