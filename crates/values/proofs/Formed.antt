-- What is written is what the UTF-8 test accepts: the bytes of scalar values are well formed. Assumes nothing.
use mathlib.Core.Path.{◌≡◌, subst}
use mathlib.Core.Logic.{inl, inr}
use mathlib.Core.List.{List, [], ◌∷◌}
use Prim.Native.Nat.{ℕ, ◌+◌, ◌/◌, ◌≤◌, ◌<◌}
use native.Mathlib.Decide.{dec_le}
use native.Mathlib.Omega.{arith}
use Rattle.rules.specs.Rule.{Rule, ◌then◌, many}
use Rattle.rules.specs.Plain.{Matches, one_byte, joined, in_left, in_right, no_more, one_more}
use Rattle.rules.proofs.Classes.{in_first_lem}
use Rattle.rules.proofs.Plain.{takes_whole}
use Rattle.lexicon.specs.Utf8.{range, sequence, WellFormed}
use Rattle.lexicon.specs.Bad.{Scalar}
use Rattle.lexicon.specs.Encode.{tail_of, encode, encoded}
use Rattle.values.proofs.Characters.{Scalars}
use Rattle.values.proofs.Encodes.{encode_one, encode_two, encode_three, encode_four}

within : (low high b : ℕ) → low ≤ b → b ≤ high → Matches (range low high) (b ∷ [])
within low high b l h = one_byte (in_first_lem low high [] b l h)

tail_matches : (c : ℕ) → Matches (range 0x80 0xBF) (tail_of c ∷ [])
tail_matches c = within 0x80 0xBF (tail_of c) (omega arith) (omega arith)

same : {r : Rule} {a b : List ℕ} → a ≡ b → Matches r a → Matches r b
same {r} e m = subst (λ (l : List ℕ). Matches r l) e m

-- three bytes, four bytes, of which the first two are within bounds
three_of : (c l h m n : ℕ) → l ≤ 0xE0 + c / 4096 → 0xE0 + c / 4096 ≤ h → m ≤ tail_of (c / 64) → tail_of (c / 64) ≤ n → 0x800 ≤ c →
    c < 0x10000 → Matches (range l h then range m n then range 0x80 0xBF) (encode c)
three_of c l h m n p q r s x y =
    same (encode_three c x y) (joined (within l h _ p q) (joined (within m n _ r s) (tail_matches c)))

four_of : (c l h m n : ℕ) → l ≤ 0xF0 + c / 262144 → 0xF0 + c / 262144 ≤ h → m ≤ tail_of (c / 4096) → tail_of (c / 4096) ≤ n →
    0x10000 ≤ c → Matches (range l h then range m n then range 0x80 0xBF then range 0x80 0xBF) (encode c)
four_of c l h m n p q r s x =
    same (encode_four c x) (joined (within l h _ p q) (joined (within m n _ r s) (joined (tail_matches (c / 64)) (tail_matches c))))

low_matches : (c : ℕ) → c ≤ 0xD7FF → Matches sequence (encode c)
low_matches c h = one (dec_le c 0x7F)
  where
    fourth : Dec (c ≤ 0xCFFF) → 0x1000 ≤ c → Matches sequence (encode c)
    fourth (yes x) l =
        in_right (in_right (in_right (in_left
        (three_of c 0xE1 0xEC 0x80 0xBF (omega arith) (omega arith) (omega arith) (omega arith) (omega arith) (omega arith)))))
    fourth (no x) l =
        let y : 0xD000 ≤ c = omega (arith, x) in
        in_right (in_right (in_right (in_right (in_left
        (three_of c 0xED 0xED 0x80 0x9F (omega arith) (omega arith) (omega arith) (omega arith) (omega arith) (omega arith))))))

    third : Dec (c ≤ 0xFFF) → 0x800 ≤ c → Matches sequence (encode c)
    third (yes x) l =
        in_right (in_right (in_left
        (three_of c 0xE0 0xE0 0xA0 0xBF (omega arith) (omega arith) (omega arith) (omega arith) (omega arith) (omega arith))))
    third (no x) l = fourth (dec_le c 0xCFFF) (omega (arith, x))

    second : Dec (c ≤ 0x7FF) → 0x80 ≤ c → Matches sequence (encode c)
    second (yes x) l =
        in_right (in_left (same (encode_two c l (omega arith)) (joined (within 0xC2 0xDF _ (omega arith) (omega arith)) (tail_matches c))))
    second (no x) l = third (dec_le c 0xFFF) (omega (arith, x))

    one : Dec (c ≤ 0x7F) → Matches sequence (encode c)
    one (yes x) = in_left (same (encode_one c (omega arith)) (within 0x00 0x7F c (omega arith) x))
    one (no x) = second (dec_le c 0x7FF) (omega (arith, x))

high_matches : (c : ℕ) → 0xE000 ≤ c → c ≤ 0x10FFFF → Matches sequence (encode c)
high_matches c l h = first (dec_le c 0xFFFF)
  where
    third : Dec (c ≤ 0xFFFFF) → 0x40000 ≤ c → Matches sequence (encode c)
    third (yes x) y =
        in_right (in_right (in_right (in_right (in_right (in_right (in_right (in_left
        (four_of c 0xF1 0xF3 0x80 0xBF (omega arith) (omega arith) (omega arith) (omega arith) (omega arith)))))))))
    third (no x) y =
        let z : 0x100000 ≤ c = omega (arith, x) in
        in_right (in_right (in_right (in_right (in_right (in_right (in_right (in_right
        (four_of c 0xF4 0xF4 0x80 0x8F (omega arith) (omega arith) (omega arith) (omega arith) (omega arith)))))))))

    second : Dec (c ≤ 0x3FFFF) → 0x10000 ≤ c → Matches sequence (encode c)
    second (yes x) y =
        in_right (in_right (in_right (in_right (in_right (in_right (in_left
        (four_of c 0xF0 0xF0 0x90 0xBF (omega arith) (omega arith) (omega arith) (omega arith) (omega arith))))))))
    second (no x) y = third (dec_le c 0xFFFFF) (omega (arith, x))

    first : Dec (c ≤ 0xFFFF) → Matches sequence (encode c)
    first (yes x) =
        in_right (in_right (in_right (in_right (in_right (in_left
        (three_of c 0xEE 0xEF 0x80 0xBF (omega arith) (omega arith) (omega arith) (omega arith) (omega arith) (omega arith)))))))
    first (no x) = second (dec_le c 0x3FFFF) (omega (arith, x))

-- a scalar value is written as one sequence
pub encode_matches : (c : ℕ) → Scalar c → Matches sequence (encode c)
encode_matches c (inl h) = low_matches c h
encode_matches c (inr h) = high_matches c h.0 h.1

encoded_matches : (cs : List ℕ) → Scalars cs → Matches (many sequence) (encoded cs)
encoded_matches [] s = no_more
encoded_matches (c ∷ cs) s = one_more (encode_matches c s.0) (encoded_matches cs s.1)

-- and a row of them as a well-formed text
pub encoded_formed : (cs : List ℕ) → Scalars cs → WellFormed (encoded cs)
encoded_formed cs s = (takes_whole (many sequence) (encoded cs)).1 (encoded_matches cs s)
