-- What the private functions answer. Assumes nothing.
use Rattle.std.specs.Prelude.{◌≡◌, Bool, List, ℕ, ◌+◌, ◌<◌, ◌^◌, eqb, ℤ, length, get_or}
use Rattle.std.specs.Prelude.{Option, Result, Ok, Err, SomeIff}
use Rattle.rules.specs.Class.{byte_of}
use Rattle.lexicon.specs.declared.Base.{Base}
use Rattle.lexicon.specs.declared.Base.TheVariants.{Ten}
use Rattle.lexicon.specs.Bytes.{digits, radix}
use Rattle.lexicon.specs.Space.{Skips}
use Rattle.lexicon.specs.Values.{Digits, value, IntegerOf}
use Rattle.lexicon.specs.Parts.{Start}
use Rattle.number.specs.Number.{HasMark, NoMark}
use Rattle.reading.specs.declared.Refused.{Refused}
use Rattle.reading.specs.declared.Rules.{Rules}
use Rattle.reading.specs.Refusals.{number_of}
use Rattle.values.specs.Integer.{Within, answer, refusal, IntegerAnswers}

module _ (piece : List ℕ) where
  -- the sign, and where the number behind it may begin
  pub record SignOf (minus : Bool) (g : ℕ) : Type 0 where
    pub start : Start piece 0 g
    pub minus_is : minus ≡ eqb (get_or piece 0 0) (byte_of "-")

  -- the mark at i, and where the digits behind it may begin
  pub data MarkOf (i : ℕ) : Base → ℕ → Type 0 where
    has_mark : {b : Base} {g : ℕ} → HasMark piece b i → Skips piece (i + 2) g → MarkOf i b g
    no_mark : NoMark piece i → MarkOf i Ten i

  -- the base's digits from i to the end of the piece
  pub record Ends (b : Base) (i : ℕ) : Type 0 where
    pub bytes : List ℕ
    pub digits_are : Digits piece 1 (digits b) i (length piece) bytes

  -- and their number, if it fits 64 bits
  pub record Total (b : Base) (i : ℕ) (s : Option ℕ) : Type 0 where
    pub bytes : List ℕ
    pub digits_are : Digits piece 1 (digits b) i (length piece) bytes
    pub counted : SomeIff s (value (radix b) bytes < 2 ^ 64) (value (radix b) bytes)

  -- the integer of a piece that is a literal, if it is within
  pub record Valued (s : Option ℤ) : Type 0 where
    pub integer : ℤ
    pub integer_of : IntegerOf piece 0 (length piece) integer
    pub within : SomeIff s (Within integer) integer

  -- the call's answer, by the integer or the refusal
  abbrev pub Judged : Rules → Result ℤ Refused → Type 0
  Judged rules (Ok z) = IntegerAnswers rules piece (answer 0 (length piece) z)
  Judged rules (Err r) = IntegerAnswers rules piece (refusal (number_of r.refusal) r.place)
