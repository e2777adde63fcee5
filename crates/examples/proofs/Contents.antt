-- The answers of the Blob and Bits calls for the pieces of the table, each by tests that compute. Assumes nothing.
use mathlib.Core.Path.{◌≡◌, refl, ap, subst}
use mathlib.Core.Bool.{Bool, true, false, ◌&&◌}
use mathlib.Core.List.{List, [], ◌∷◌}
use Prim.Native.Nat.{ℕ, suc, ◌<◌}
use Prim.Native.String.{String}
use native.Mathlib.Omega.{arith}
use borrow.Author.Tests.{ltb-true}
use lib.Dec.{ltb}
use lib.ListN.{length, get_or}
use Rattle.rules.specs.Class.{Class, has, byte_of, codes}
use Rattle.rules.specs.Every.{Every, none, also}
use Rattle.rules.specs.Rule.{Rule, ◌then◌, opt, lit}
use Rattle.rules.proofs.Bools.{and_left, and_right}
use Rattle.rules.proofs.Tests.{refuted}
use Rattle.lexicon.specs.Bytes.{binary, octal, hexadecimal, base64}
use Rattle.lexicon.specs.Space.{sp}
use Rattle.lexicon.specs.Base64.{character, Encodes}
use Rattle.lexicon.specs.Values.{Digits, Behind, mark_alone, mark_digits, BitsOf, BlobOf}
use Rattle.lexicon.specs.Padding.{BadBase64, not_at_end, more_than_two, bits_left}
use Rattle.lexicon.proofs.Unfit.{bad_no_bytes}
use Rattle.decisions.proofs.Tests.{same_as, same_as_lem}
use Rattle.decisions.proofs.Cuts.{reaches, takes, leads, cut}
use Rattle.decisions.proofs.Digits.{rows, row}
use Rattle.values.specs.Exactly.{Exactly}
use Rattle.values.specs.Bytes.{Call, BadPiece, PieceBytes, not_the_literal, accepted}
use Rattle.values.specs.Bytes as Bytes
use Rattle.values.specs.Blob.{blob_call}
use Rattle.values.specs.Bits.{bits_call}
use Rattle.examples.specs.Contents.{Hands, RefusesAt, Refuses, Contents}
use Rattle.examples.proofs.Readable.{readable, is_short, is_formed}

-- ---- what a piece is

-- short enough and UTF-8, and the rule takes all of it
abbrev pub whole : Rule → List ℕ → Bool
whole r bytes = readable bytes && reaches bytes r 0 (length bytes)

-- the mark, and digits in units of n + 1 that are these
abbrev digits_are : List ℕ → String → ℕ → Class → List ℕ → Bool
digits_are bytes mark n c ds =
    leads bytes (lit mark then opt sp) 0 (λ s. rows bytes n c (length bytes) (same_as ds) s (length bytes))

digits_are_lem : (bytes : List ℕ) (mark : String) (n : ℕ) (c : Class) (ds : List ℕ) → digits_are bytes mark n c ds ≡ true → Behind bytes mark (suc n) c 0 (length bytes) ds
digits_are_lem bytes mark n c ds e =
    let x =
    (cut bytes (lit mark then opt sp) 0 (λ s. rows bytes n c (length bytes) (same_as ds) s (length bytes))
    (λ s. (es : List ℕ) × Digits bytes (suc n) c s (length bytes) es × (es ≡ ds))
    (λ s t. row bytes n c (length bytes) (same_as ds) (λ es. es ≡ ds) (same_as_lem ds) s (length bytes) (omega arith))).true_holds e in
    mark_digits x.1 (subst (λ (l : List ℕ). Digits bytes (suc n) c x.0 (length bytes) l) x.2.2 x.2.1)

-- ---- the answers

module _ (call : Call) (text : String) where
  abbrev bytes : List ℕ
  bytes = codes text

  module _ (w : whole call.literal bytes ≡ true) where
    front : readable bytes ≡ true
    front = and_left (readable bytes) (reaches bytes call.literal 0 (length bytes)) w

    exact : Exactly call.literal bytes
    exact =
        (takes bytes call.literal 0 (length bytes)).true_holds
        (and_right (readable bytes) (reaches bytes call.literal 0 (length bytes)) w)

    hands : (bs : List ℕ) → ((p : ℕ) → BadPiece call bytes p → ⊥) → PieceBytes call bytes bs → Hands call text bs
    hands bs good b lent room = accepted (is_short bytes front) (is_formed bytes front) exact good b room

    pub five : {place : ℕ} → BadPiece call bytes place → RefusesAt call text 5 place
    five b lent = Bytes.bad (is_short bytes front) (is_formed bytes front) exact b

  -- no literal of the call
  pub nine : readable bytes ≡ true → reaches bytes call.literal 0 (length bytes) ≡ false → Refuses call text 9
  nine e f lent =
      not_the_literal (is_short bytes e) (is_formed bytes e) (refuted (takes bytes call.literal 0 (length bytes)) f)

blob_hands : (text : String) (bs : List ℕ) → whole blob_call.literal (codes text) ≡ true → BlobOf (codes text) 0 (length (codes text)) bs → Hands blob_call text bs
blob_hands text bs w b = hands blob_call text w bs (λ p n. n.1 bs b) b

bits_hands : (text : String) (bs : List ℕ) → whole bits_call.literal (codes text) ≡ true → BitsOf (codes text) 0 (length (codes text)) bs → Hands bits_call text bs
bits_hands text bs w b = hands bits_call text w bs (λ p n. n) b

bad_blob_lem : (text : String) (ds : List ℕ) → whole blob_call.literal (codes text) ≡ true → digits_are (codes text) "0xy" 3 base64 ds ≡ true → BadBase64 ds → Refuses blob_call text 5
bad_blob_lem text ds w d b = five blob_call text w (refl, bad_no_bytes (digits_are_lem (codes text) "0xy" 3 base64 ds d) b)

-- ---- the table

all_below : ℕ → List ℕ → Bool
all_below n [] = true
all_below n (b ∷ bs) = ltb b n && all_below n bs

below : (n : ℕ) (bs : List ℕ) → all_below n bs ≡ true → Every (λ b. b < n) bs
unfolding all_below
below n [] e = none
below n (b ∷ bs) e = also (ltb-true b n (and_left (ltb b n) (all_below n bs) e)) (below n bs (and_right (ltb b n) (all_below n bs) e))

alone : (text : String) → reaches (codes text) (lit text) 0 (length (codes text)) ≡ true → (n : ℕ) (c : Class) → Behind (codes text) text n c 0 (length (codes text)) []
alone text e n c = mark_alone ((takes (codes text) (lit text) 0 (length (codes text))).true_holds e)

-- `AQ==`, and no characters
encodes_one : Encodes (codes "AQ==") (0x01 ∷ [])
unfolding all_below character
encodes_one =
    record {
      groups = 0 ∷ 16 ∷ [];
      six_bits = below 64 (0 ∷ 16 ∷ []) refl;
      padding = 2;
      at_most_two = omega arith;
      characters_are = refl;
      quanta = refl;
      bits_are = refl;
    }

encodes_none : Encodes [] []
unfolding all_below character
encodes_none =
    record {
      groups = [];
      six_bits = none;
      padding = 0;
      at_most_two = omega arith;
      characters_are = refl;
      quanta = refl;
      bits_are = refl;
    }

-- bits left over: `B` is 000001
four_left : BadBase64 (codes "AB==")
unfolding character
four_left = bits_left (codes "A") 1 2 (omega arith) refl (λ e. omega (arith, ap (λ (l : List ℕ). get_or l 3 0) e))

two_left : BadBase64 (codes "AAB=")
unfolding character
two_left = bits_left (codes "AA") 1 1 (omega arith) refl (λ e. omega (arith, ap (λ (l : List ℕ). get_or l 1 0) e))

pub contents : Contents
unfolding has all_below
contents =
    record {
      one_byte =
          blob_hands "0xyAQ==" (0x01 ∷ []) refl
          (BlobOf.in_base64 (digits_are_lem (codes "0xyAQ==") "0xy" 3 base64 (codes "AQ==") refl) (below 256 (0x01 ∷ []) refl) encodes_one);
      three_bytes =
          blob_hands "0xxA7_05 FF" (0xA7 ∷ 0x05 ∷ 0xFF ∷ []) refl
          (BlobOf.in_hexadecimal (digits_are_lem (codes "0xxA7_05 FF") "0xx" 1 hexadecimal (codes "A705FF") refl) (below 256 (0xA7 ∷ 0x05 ∷ 0xFF ∷ []) refl) refl);
      eight_digits =
          blob_hands "0xb00000001" (0x01 ∷ []) refl
          (BlobOf.in_binary (digits_are_lem (codes "0xb00000001") "0xb" 7 binary (codes "00000001") refl) (below 256 (0x01 ∷ []) refl) refl);
      no_byte = blob_hands "0xy" [] refl (BlobOf.in_base64 (alone "0xy" refl 4 base64) none encodes_none);
      octal =
          bits_hands "0bo17" (0 ∷ 0 ∷ 1 ∷ 1 ∷ 1 ∷ 1 ∷ []) refl (BitsOf.in_octal (digits_are_lem (codes "0bo17") "0bo" 0 octal (codes "17") refl));
      hexadecimal = bits_hands "0bxA" (1 ∷ 0 ∷ 1 ∷ 0 ∷ []) refl (BitsOf.in_hexadecimal (digits_are_lem (codes "0bxA") "0bx" 0 hexadecimal (codes "A") refl));
      joined = bits_hands "0bb1_0 1" (1 ∷ 0 ∷ 1 ∷ []) refl (BitsOf.in_binary (digits_are_lem (codes "0bb1_0 1") "0bb" 0 binary (codes "101") refl));
      no_bit = bits_hands "0bb" [] refl (BitsOf.in_binary (alone "0bb" refl 1 binary));
      four_pads = bad_blob_lem "0xy====" (codes "====") refl refl (more_than_two (omega arith));
      four_bits_left = bad_blob_lem "0xyAB==" (codes "AB==") refl refl four_left;
      two_bits_left = bad_blob_lem "0xyAAB=" (codes "AAB=") refl refl two_left;
      not_at_end = bad_blob_lem "0xyAA== AAAA" (codes "AA==AAAA") refl refl (not_at_end (codes "AA") (codes "=") (codes "AAA") (byte_of "A") (λ e. omega (arith, e)) refl);
      three_of_four = nine blob_call "0xyTWF" refl refl;
      half_a_byte = nine blob_call "0xxA" refl refl;
      bits_for_blob = nine blob_call "0bb1" refl refl;
      blob_for_bits = nine bits_call "0xx" refl refl;
    }
