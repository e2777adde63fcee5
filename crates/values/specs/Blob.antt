-- The Blob call: the bytes of a Blob literal; one that has none is bad, at its first byte. Assumes nothing.
use Rattle.std.specs.Prelude.{◌≡◌, List, ℕ}
use Rattle.lexicon.specs.Literals.{blob}
use Rattle.lexicon.specs.Values.{BlobOf}
use Rattle.lexicon.specs.Bad.{NoBytes}
use Rattle.reading.specs.declared.Answer.{Answer}
use Rattle.reading.specs.declared.Rules.{Rules}
use Rattle.values.specs.Bytes.{Call, BytesAnswers}

abbrev pub blob_call : Call
blob_call = record { literal = blob; Bad = λ text i j place. (place ≡ i) × NoBytes text i j; Bytes = BlobOf }

abbrev pub BlobAnswers : Rules → (piece lent : List ℕ) → Answer → List ℕ → Type 0
BlobAnswers = BytesAnswers blob_call
