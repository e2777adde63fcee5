-- A text laid out anew: 02, request 9, 'replace stretches of dividing space outside quotes and outside the dropped
-- first line, each stretch taken at its full length and not empty, by other non-empty dividing space'.
-- Assumes nothing.
use Rattle.std.specs.Prelude.{◌≡◌, List, [], ◌∷◌, ◌++◌, ℕ, take, drop}
use Rattle.rules.specs.Class.{Class, In, ◌upto◌, any_of}
use Rattle.rules.specs.Rule.{Rule, one, ◌then◌, many, Fails}
use Rattle.rules.specs.Plain.{Matches}
use Rattle.lexicon.specs.Space.{blank, sp}
use Rattle.lexicon.specs.Front.{Front}

-- a quotation mark, and any other byte
abbrev pub quote : Class
quote = any_of "\""

abbrev pub not_quote : Class
not_quote = 0x00 upto 0x21 ∷ 0x23 upto 0xFF ∷ []

-- quotes, from their mark to the next one, with all that stands between
abbrev pub quotes : Rule
quotes = one quote then many (one not_quote) then one quote

-- a byte that begins neither quotes nor dividing space: none of the four dividing bytes, no grave accent and no
-- quotation mark
abbrev pub ordinary : Class
ordinary =
    0x00 upto 0x08 ∷ 0x0B upto 0x0C ∷ 0x0E upto 0x1F ∷ 0x21 upto 0x21 ∷ 0x23 upto 0x5F ∷ 0x61 upto 0xFF ∷ []

-- two texts, behind their fronts, that are alike but for dividing space outside quotes: piece by piece, a byte, quotes,
-- a stretch of dividing space
pub data Alike : List ℕ → List ℕ → Type 0 where
  ends : Alike [] []
  -- everything else is the same bytes
  same_byte : {b : ℕ} {s t : List ℕ} → In ordinary b → Alike s t → Alike (b ∷ s) (b ∷ t)
  same_quotes : {q s t : List ℕ} → Matches quotes q → Alike s t → Alike (q ++ s) (q ++ t)
  -- a stretch 'at its full length and not empty', behind which no more of it begins, for 'other non-empty dividing
  -- space'
  stretch : {a b s t : List ℕ} → Matches sp a → Fails s blank 0 → Matches sp b → Alike s t → Alike (a ++ s) (b ++ t)

-- the other text is this one laid out anew. Its front is the same: 'outside the dropped first line', whose newline is
-- part of it, and so is the byte-order mark
pub record Relaid (text other : List ℕ) : Type 0 where
  pub start : ℕ
  pub front : Front text start
  pub same_front : take start other ≡ take start text
  pub behind : Alike (drop start text) (drop start other)
