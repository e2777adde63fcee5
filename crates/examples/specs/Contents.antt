-- What the Blob and Bits calls answer for pieces of every base, and for those that 02, request 1, speaks of. Assumes
-- nothing.
use Rattle.std.specs.Prelude.{List, [], ◌∷◌, ◌++◌, ℕ, ◌≤◌, length, drop}
use Prim.Native.String.{String}
use Rattle.rules.specs.Class.{codes}
use Rattle.reading.specs.Sizes.{base}
use Rattle.reading.specs.Answers.{answer}
use Rattle.values.specs.Bytes.{Call, BytesAnswers}
use Rattle.values.specs.Blob.{blob_call}
use Rattle.values.specs.Bits.{bits_call}

-- with every buffer that has room: the bytes, and behind them what stood there
abbrev pub Hands : Call → String → List ℕ → Type 0
Hands call text bs =
    (lent : List ℕ) → length bs ≤ length lent →
    BytesAnswers call base (codes text) lent (answer 0 (length (codes text)) (length bs)) (bs ++ drop (length bs) lent)

-- with every buffer: the refusal at its place, and the buffer as it was
abbrev pub RefusesAt : Call → String → (number place : ℕ) → Type 0
RefusesAt call text number place =
    (lent : List ℕ) → BytesAnswers call base (codes text) lent (answer number place 0) lent

abbrev pub Refuses : Call → String → ℕ → Type 0
Refuses call text number = RefusesAt call text number 0

pub record Contents : Type 0 where
  pub one_byte : Hands blob_call "0xyAQ==" (0x01 ∷ [])
  pub three_bytes : Hands blob_call "0xxA7_05 FF" (0xA7 ∷ 0x05 ∷ 0xFF ∷ [])
  pub eight_digits : Hands blob_call "0xb00000001" (0x01 ∷ [])
  pub no_byte : Hands blob_call "0xy" []
  pub octal : Hands bits_call "0bo17" (0 ∷ 0 ∷ 1 ∷ 1 ∷ 1 ∷ 1 ∷ [])
  pub hexadecimal : Hands bits_call "0bxA" (1 ∷ 0 ∷ 1 ∷ 0 ∷ [])
  pub joined : Hands bits_call "0bb1_0 1" (1 ∷ 0 ∷ 1 ∷ [])
  pub no_bit : Hands bits_call "0bb" []
  pub four_pads : Refuses blob_call "0xy====" 5
  pub four_bits_left : Refuses blob_call "0xyAB==" 5
  pub two_bits_left : Refuses blob_call "0xyAAB=" 5
  pub not_at_end : Refuses blob_call "0xyAA== AAAA" 5
  pub three_of_four : Refuses blob_call "0xyTWF" 9
  pub half_a_byte : Refuses blob_call "0xxA" 9
  pub bits_for_blob : Refuses blob_call "0bb1" 9
  pub blob_for_bits : Refuses bits_call "0xx" 9
