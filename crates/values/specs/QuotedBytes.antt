-- The bytes that a quoted text stands for, byte by byte: its characters need not be told apart. No answer
-- rests on it. Assumes nothing.
use Rattle.std.specs.Prelude.{◌≡◌, List, [], ◌∷◌, ◌++◌, ℕ, ◌+◌, ◌-◌, ◌<◌, length, get_or}
use Rattle.rules.specs.Class.{Class, ◌upto◌, just, byte_of}
use Rattle.rules.specs.Rule.{one, many, At, Takes}
use Rattle.lexicon.specs.Space.{Skips}
use Rattle.lexicon.specs.Encode.{encode}
use Rattle.lexicon.specs.Values.{read, Letter, CodeOf}
use Rattle.lexicon.specs.Bad.{Scalar}

abbrev pub quote : Class
quote = just (byte_of "\"")

abbrev pub backslash : Class
backslash = just (byte_of "\\")

abbrev pub not_quote : Class
not_quote = 0x00 upto 0x21 ∷ 0x23 upto 0xFF ∷ []

-- neither a quote nor a backslash
abbrev pub other : Class
other = 0x00 upto 0x21 ∷ 0x23 upto 0x5B ∷ 0x5D upto 0xFF ∷ []

module _ (piece : List ℕ) where
  -- a code point by its number, and the closing angle
  pub record Angled (i j : ℕ) (bs : List ℕ) : Type 0 where
    pub end : ℕ
    pub number : ℕ
    pub code : CodeOf piece i end number
    pub scalar : Scalar number
    pub close : At piece (just (byte_of ">")) end
    pub behind : j ≡ end + 1
    pub bytes_are : bs ≡ encode number

  -- one byte or one escape
  pub data Item (i j : ℕ) (bs : List ℕ) : Type 0 where
    itself : At piece other i → j ≡ i + 1 → bs ≡ get_or piece i 0 ∷ [] → Item i j bs
    letter : {c : ℕ} → At piece backslash i → i + 1 < length piece → Letter (get_or piece (i + 1) 0) c →
        j ≡ i + 2 → bs ≡ c ∷ [] → Item i j bs
    number : At piece backslash i → At piece (just (byte_of "<")) (i + 1) → Angled (i + 2) j bs → Item i j bs

  -- the rest of an escaped segment, through its closing quote
  pub data Unescapes : ℕ → ℕ → List ℕ → Type 0 where
    closed : {i j : ℕ} → At piece quote i → j ≡ i + 1 → Unescapes i j []
    next : {i m j : ℕ} {bs cs : List ℕ} → Item i m bs → Unescapes m j cs → Unescapes i j (bs ++ cs)

  -- the rest of another, through its closing quote
  pub record Copies (i j : ℕ) (bs : List ℕ) : Type 0 where
    pub end : ℕ
    pub content : Takes piece (many (one not_quote)) i end
    pub close : At piece quote end
    pub behind : j ≡ end + 1
    pub bytes_are : bs ≡ read piece i (end - i)

  pub data SegmentBytes (i j : ℕ) (bs : List ℕ) : Type 0 where
    plain : At piece quote i → (At piece backslash (i + 1) → ⊥) → Copies (i + 1) j bs → SegmentBytes i j bs
    escaped : At piece quote i → At piece backslash (i + 1) → Unescapes (i + 2) j bs → SegmentBytes i j bs

  -- all the segments from i to the end of the piece
  pub data QuotedBytes : ℕ → List ℕ → Type 0 where
    last : {i j : ℕ} {bs : List ℕ} → SegmentBytes i j bs → j ≡ length piece → QuotedBytes i bs
    next : {i m k : ℕ} {bs cs : List ℕ} → SegmentBytes i m bs → Skips piece m k → QuotedBytes k cs →
        QuotedBytes i (bs ++ cs)
