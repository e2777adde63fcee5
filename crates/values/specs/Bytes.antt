-- The answer of a call that hands back the bytes of a literal, number, place, count and every byte of the lent buffer,
-- for every piece and buffer: 01, 'The value calls test 2, 3, 9, 5, then 10 or 8'; 02, request 1, 'Answers and refusals
-- as for the Text call: 2, 3, 9, 5, 8, nothing written'. Said once for every kind of literal. Assumes nothing.
use Rattle.std.specs.Prelude.{List, ◌++◌, ℕ, ◌≤◌, ◌<◌, length, drop}
use Rattle.rules.specs.Rule.{Rule}
use Rattle.lexicon.specs.Utf8.{WellFormed, BadAt}
use Rattle.reading.specs.declared.Answer.{Answer}
use Rattle.reading.specs.Answers.{answer}
use Rattle.reading.specs.declared.Rules.{Rules}
use Rattle.values.specs.Exactly.{Exactly}

-- a call by what it takes: the literals, and of one that stands in a text from i to j whether its value is bad, and at
-- which place, and the bytes that are handed back
pub record Call : Type 1 where
  pub literal : Rule
  pub Bad : (text : List ℕ) (i j place : ℕ) → Type 0
  pub Bytes : (text : List ℕ) (i j : ℕ) (bs : List ℕ) → Type 0

-- of a piece, which is all of the literal
module _ (call : Call) (piece : List ℕ) where
  abbrev pub BadPiece : ℕ → Type 0
  BadPiece place = call.Bad piece 0 (length piece) place

  abbrev pub PieceBytes : List ℕ → Type 0
  PieceBytes bs = call.Bytes piece 0 (length piece) bs

module _ (call : Call) (rules : Rules) (piece lent : List ℕ) where
  -- the answer, and the lent buffer as it is then
  pub data BytesAnswers : Answer → List ℕ → Type 0 where
    too_long : rules.text < length piece → BytesAnswers (answer 2 0 0) lent
    not_utf8 : {p : ℕ} → length piece ≤ rules.text → BadAt piece p → BytesAnswers (answer 3 p 0) lent
    not_the_literal : length piece ≤ rules.text → WellFormed piece → (Exactly call.literal piece → ⊥) →
        BytesAnswers (answer 9 0 0) lent
    bad : {p : ℕ} → length piece ≤ rules.text → WellFormed piece → Exactly call.literal piece →
        BadPiece call piece p → BytesAnswers (answer 5 p 0) lent
    no_room : {bs : List ℕ} → length piece ≤ rules.text → WellFormed piece → Exactly call.literal piece →
        ((p : ℕ) → BadPiece call piece p → ⊥) → PieceBytes call piece bs → length lent < length bs →
        BytesAnswers (answer 8 (length piece) (length bs)) lent
    accepted : {bs : List ℕ} → length piece ≤ rules.text → WellFormed piece → Exactly call.literal piece →
        ((p : ℕ) → BadPiece call piece p → ⊥) → PieceBytes call piece bs → length bs ≤ length lent →
        BytesAnswers (answer 0 (length piece) (length bs)) (bs ++ drop (length bs) lent)
