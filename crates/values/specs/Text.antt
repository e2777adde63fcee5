-- The Text call: the characters of a Text literal as UTF-8. Assumes nothing.
use Rattle.std.specs.Prelude.{◌≡◌, ◌⊎◌, List, ℕ}
use Rattle.rules.specs.Rule.{Rule, ◌or◌}
use Rattle.lexicon.specs.Encode.{encoded}
use Rattle.lexicon.specs.Literals.{quoted, word, code_point_of}
use Rattle.lexicon.specs.Values.{TextOf}
use Rattle.lexicon.specs.Bad.{BadCode, FirstBad}
use Rattle.reading.specs.declared.Answer.{Answer}
use Rattle.reading.specs.declared.Rules.{Rules}
use Rattle.values.specs.Bytes.{Call, BytesAnswers}

abbrev pub text_literal : Rule
text_literal = quoted or word or code_point_of

-- 02, request 8, 'In the Text call, too, the place is counted within the piece'
abbrev pub BadText : List ℕ → (i j place : ℕ) → Type 0
BadText text i j place = FirstBad text i j place ⊎ ((place ≡ i) × BadCode text i j)

pub record TextBytes (text : List ℕ) (i j : ℕ) (bs : List ℕ) : Type 0 where
  pub characters : List ℕ
  pub are : TextOf text i j characters
  pub bytes_are : bs ≡ encoded characters

abbrev pub text_call : Call
text_call = record { literal = text_literal; Bad = BadText; Bytes = TextBytes }

abbrev pub TextAnswers : Rules → (piece lent : List ℕ) → Answer → List ℕ → Type 0
TextAnswers = BytesAnswers text_call
