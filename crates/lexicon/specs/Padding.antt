-- Bad base-64 characters in the words of 02, request 3, and of 01. No answer rests on this file: the definition is
-- `NoBytes` in Bad.antt, and a Blob in base 64 has no bytes exactly if its characters are bad in one of these ways
-- (proofs/Unfit.antt: `bad_no_bytes`, `no_bytes_bad`). Assumes nothing.
use Rattle.std.specs.Prelude.{◌≡◌, cond, List, [], ◌∷◌, ◌++◌, ℕ, ◌+◌, ◌*◌, ◌%◌, ◌<◌, eqb, length, replicate}
use Rattle.rules.specs.Class.{byte_of}
use Rattle.lexicon.specs.Expansion.{bits_of}
use Rattle.lexicon.specs.Base64.{character}

-- how many characters are `=`
abbrev pub pads : List ℕ → ℕ
pads [] = 0
pads (d ∷ ds) = cond (eqb d (byte_of "=")) 1 0 + pads ds

-- the characters ds, `=` among them
pub data BadBase64 (ds : List ℕ) : Type 0 where
  -- 01: 'a `=` with a base-64 character other than `=` anywhere later'
  not_at_end : (front middle back : List ℕ) (d : ℕ) → (d ≡ byte_of "=" → ⊥) →
      ds ≡ front ++ (byte_of "=" ∷ middle ++ (d ∷ back)) → BadBase64 ds
  -- 02: 'none, one or two ... More than two'
  more_than_two : 2 < pads ds → BadBase64 ds
  -- 'or characters and `=` together no multiple of four': of no literal, since its characters come in units of four. So
  -- one or two `=` that are the last characters stand 'in the last group of four'
  no_multiple_of_four : (length ds % 4 ≡ 0 → ⊥) → BadBase64 ds
  -- 'Bits left over under one or two `=` must be zero, else 5': the lowest of the last character, two for each `=`
  bits_left : (front : List ℕ) (last padding : ℕ) → last < 64 →
      ds ≡ front ++ (character last ∷ replicate padding (byte_of "=")) →
      (bits_of (2 * padding) last ≡ replicate (2 * padding) 0 → ⊥) → BadBase64 ds
