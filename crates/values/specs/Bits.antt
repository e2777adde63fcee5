-- The Bits call: the bits of a Bits literal, one byte each, 0 or 1. No value of Bits is bad. Assumes nothing.
use Rattle.std.specs.Prelude.{List, ℕ}
use Rattle.lexicon.specs.Literals.{bits}
use Rattle.lexicon.specs.Values.{BitsOf}
use Rattle.reading.specs.declared.Answer.{Answer}
use Rattle.reading.specs.declared.Rules.{Rules}
use Rattle.values.specs.Bytes.{Call, BytesAnswers}

abbrev pub bits_call : Call
bits_call = record { literal = bits; Bad = λ text i j place. ⊥; Bytes = BitsOf }

abbrev pub BitsAnswers : Rules → (piece lent : List ℕ) → Answer → List ℕ → Type 0
BitsAnswers = BytesAnswers bits_call
