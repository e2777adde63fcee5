-- What a piece is found to be: a bad literal, or one of the mark that its third byte tells. Assumes nothing.
use mathlib.Core.Path.{◌≡◌, refl, sym, subst}
use mathlib.Core.Bool.{Bool, true, false}
use mathlib.Core.Logic.{⊎_elim}
use mathlib.Core.List.{List, [], ◌∷◌}
use Prim.Native.Nat.{ℕ, ◌<◌}
use native.Mathlib.Omega.{arith}
use lib.ListN.{length, get_or}
use Rattle.rules.specs.Class.{byte_of}
use Rattle.rules.specs.Test.{Says}
use Rattle.rules.specs.Rule.{Rule, ◌then◌, row, Takes, byte, both, left, right, Longest}
use Rattle.rules.proofs.Classes.{just_is}
use Rattle.rules.proofs.Matches.{ending}
use Rattle.rules.proofs.Tests.{refuted}
use Rattle.lexicon.specs.Bytes.{binary, octal, hexadecimal, base64}
use Rattle.lexicon.specs.Literals.{bits, blob}
use Rattle.lexicon.specs.Bad.{NoBytes}
use Rattle.lexicon.proofs.Contents.{has_digits, has_bits}
use Rattle.reading.specs.declared.Answer.{Answer}
use Rattle.reading.specs.declared.Rules.{Rules}
use Rattle.reading.specs.declared.Refusal.{Refusal}
use Rattle.values.specs.Exactly.{Exactly}
use Rattle.values.specs.Bytes.{BytesAnswers}
use Rattle.values.specs.Blob.{blob_call}
use Rattle.values.proofs.BytesDetermined.{Good}
use Rattle.values.proofs.BitsAndBlobs.{blob_settled}
use Rattle.blob_value.specs.declared.Kind.{Kind}
use Rattle.blob_value.specs.declared.mark.Mark.{Mark}
use Rattle.blob_value.specs.declared.mark.Mark.TheVariants.{BlobBinary, BlobHexadecimal, BlobBase64, BitsBinary, BitsOctal, BitsHexadecimal}
use Rattle.blob_value.specs.Marks.{kind_of}
use Rattle.piece.specs.Fits.{Unfit, bad}
use Rattle.blob_value.specs.Spread.{Whole, Has}
use Rattle.blob_value.specs.Calls.{call_of, Marked}

module _ (piece : List ℕ) where
  -- ---- the third byte

  third : (x y z : ℕ) {r : Rule} {j : ℕ} → Takes piece (row (x ∷ y ∷ z ∷ []) then r) 0 j → (get_or piece 2 0 ≡ z) × (2 < length piece)
  third x y z (both (both (byte a e) (both (byte b f) (byte {i = k} c g))) u) =
      let h : k ≡ 2 = omega (arith, e, f) in
      (subst (λ (n : ℕ). get_or piece n 0 ≡ z) h (just_is z (get_or piece k 0) c.1), subst (λ (n : ℕ). n < length piece) h c.0)

  pub blob_long : Exactly blob piece → 2 < length piece
  blob_long (left t) = (third 0x30 0x78 0x62 t).1
  blob_long (right (left t)) = (third 0x30 0x78 0x78 t).1
  blob_long (right (right t)) = (third 0x30 0x78 0x79 t).1

  blob_binary : Exactly blob piece → get_or piece 2 0 ≡ byte_of "b" → Has (Whole piece BlobBinary)
  blob_binary (left t) e = let d = has_digits "0xb" 8 binary t in record { digits = d.0; are = d.1 }
  blob_binary (right (left t)) e = absurd (omega (arith, e, (third 0x30 0x78 0x78 t).0))
  blob_binary (right (right t)) e = absurd (omega (arith, e, (third 0x30 0x78 0x79 t).0))

  blob_hexadecimal : Exactly blob piece → get_or piece 2 0 ≡ byte_of "x" → Has (Whole piece BlobHexadecimal)
  blob_hexadecimal (left t) e = absurd (omega (arith, e, (third 0x30 0x78 0x62 t).0))
  blob_hexadecimal (right (left t)) e = let d = has_digits "0xx" 2 hexadecimal t in record { digits = d.0; are = d.1 }
  blob_hexadecimal (right (right t)) e = absurd (omega (arith, e, (third 0x30 0x78 0x79 t).0))

  blob_base64 : Exactly blob piece → (get_or piece 2 0 ≡ byte_of "b" → ⊥) → (get_or piece 2 0 ≡ byte_of "x" → ⊥) → Has (Whole piece BlobBase64)
  blob_base64 (left t) f g = absurd (f (third 0x30 0x78 0x62 t).0)
  blob_base64 (right (left t)) f g = absurd (g (third 0x30 0x78 0x78 t).0)
  blob_base64 (right (right t)) f g = let d = has_digits "0xy" 4 base64 t in record { digits = d.0; are = d.1 }

  pub bits_long : Exactly bits piece → 2 < length piece
  bits_long (left t) = (third 0x30 0x62 0x62 t).1
  bits_long (right (left t)) = (third 0x30 0x62 0x6F t).1
  bits_long (right (right t)) = (third 0x30 0x62 0x78 t).1

  bits_binary : Exactly bits piece → get_or piece 2 0 ≡ byte_of "b" → Has (Whole piece BitsBinary)
  bits_binary (left t) e = let d = has_digits "0bb" 1 binary t in record { digits = d.0; are = d.1 }
  bits_binary (right (left t)) e = absurd (omega (arith, e, (third 0x30 0x62 0x6F t).0))
  bits_binary (right (right t)) e = absurd (omega (arith, e, (third 0x30 0x62 0x78 t).0))

  bits_octal : Exactly bits piece → get_or piece 2 0 ≡ byte_of "o" → Has (Whole piece BitsOctal)
  bits_octal (left t) e = absurd (omega (arith, e, (third 0x30 0x62 0x62 t).0))
  bits_octal (right (left t)) e = let d = has_digits "0bo" 1 octal t in record { digits = d.0; are = d.1 }
  bits_octal (right (right t)) e = absurd (omega (arith, e, (third 0x30 0x62 0x78 t).0))

  bits_hexadecimal : Exactly bits piece → (get_or piece 2 0 ≡ byte_of "b" → ⊥) → (get_or piece 2 0 ≡ byte_of "o" → ⊥) → Has (Whole piece BitsHexadecimal)
  bits_hexadecimal (left t) f g = absurd (f (third 0x30 0x62 0x62 t).0)
  bits_hexadecimal (right (left t)) f g = absurd (g (third 0x30 0x62 0x6F t).0)
  bits_hexadecimal (right (right t)) f g = let d = has_digits "0bx" 1 hexadecimal t in record { digits = d.0; are = d.1 }

  -- ---- the marks

  module _ {e : ℕ} {b : Bool} (y : Longest piece blob 0 e × Says b (NoBytes piece 0 e)) (h : e ≡ length piece) where
    exact : Exactly blob piece
    exact = ending h y.0.takes

    pub blob_within : 2 < length piece
    blob_within = blob_long exact

    pub blob_bad : b ≡ true → Unfit blob_call piece (record { refusal = Refusal.BadValue; place = 0 })
    blob_bad t = bad exact (refl, subst (λ (x : ℕ). NoBytes piece 0 x) h (y.1.true_holds t))

    module _ (f : b ≡ false) where
      bytes : Good blob_call piece
      bytes = ⊎_elim (λ n. absurd (refuted y.1 f (subst (λ (x : ℕ). NoBytes piece 0 x) (sym h) n.1.1))) (λ g. g) (blob_settled.bad_or_good piece exact)

      pub binary_blob : get_or piece 2 0 ≡ byte_of "b" → Marked Kind.Blob piece BlobBinary
      binary_blob x =
          record { of_kind = refl; sound = record { exact = exact; good = bytes.not_bad; digits = blob_binary exact x; bytes = bytes.bytes; are = bytes.are } }

      pub hexadecimal_blob : get_or piece 2 0 ≡ byte_of "x" → Marked Kind.Blob piece BlobHexadecimal
      hexadecimal_blob x =
          record { of_kind = refl; sound = record { exact = exact; good = bytes.not_bad; digits = blob_hexadecimal exact x; bytes = bytes.bytes; are = bytes.are } }

      pub base64_blob : (get_or piece 2 0 ≡ byte_of "b" → ⊥) → (get_or piece 2 0 ≡ byte_of "x" → ⊥) → Marked Kind.Blob piece BlobBase64
      base64_blob x z =
          record { of_kind = refl; sound = record { exact = exact; good = bytes.not_bad; digits = blob_base64 exact x z; bytes = bytes.bytes; are = bytes.are } }

  module _ (x : Exactly bits piece) where
    pub binary_bits : get_or piece 2 0 ≡ byte_of "b" → Marked Kind.Bits piece BitsBinary
    binary_bits e =
        let b = has_bits piece x in
        record { of_kind = refl; sound = record { exact = x; good = λ p n. n; digits = bits_binary x e; bytes = b.0; are = b.1 } }

    pub octal_bits : get_or piece 2 0 ≡ byte_of "o" → Marked Kind.Bits piece BitsOctal
    octal_bits e =
        let b = has_bits piece x in
        record { of_kind = refl; sound = record { exact = x; good = λ p n. n; digits = bits_octal x e; bytes = b.0; are = b.1 } }

    pub hexadecimal_bits : (get_or piece 2 0 ≡ byte_of "b" → ⊥) → (get_or piece 2 0 ≡ byte_of "o" → ⊥) → Marked Kind.Bits piece BitsHexadecimal
    hexadecimal_bits f g =
        let b = has_bits piece x in
        record { of_kind = refl; sound = record { exact = x; good = λ p n. n; digits = bits_hexadecimal x f g; bytes = b.0; are = b.1 } }

  -- what the call of the mark's kind answers is the answer of the kind's call
  pub answers_as : {kind : Kind} (mark : Mark) (rules : Rules) (lent : List ℕ) {a : Answer} {t : List ℕ} → kind_of mark ≡ kind →
      BytesAnswers (call_of (kind_of mark)) rules piece lent a t → BytesAnswers (call_of kind) rules piece lent a t
  answers_as mark rules lent {a} {t} e x = subst (λ (k : Kind). BytesAnswers (call_of k) rules piece lent a t) e x
