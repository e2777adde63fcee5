-- What a call that hands back bytes finds its piece to be. Assumes nothing.
use Rattle.std.specs.Prelude.{List, ℕ, ◌≤◌, length, Result, Ok, Err}
use Rattle.lexicon.specs.Utf8.{WellFormed}
use Rattle.reading.specs.declared.Refusal.{Refusal}
use Rattle.reading.specs.declared.Refused.{Refused}
use Rattle.reading.specs.declared.Rules.{Rules}
use Rattle.reading.specs.Refusals.{answer_of}
use Rattle.values.specs.Exactly.{Exactly}
use Rattle.values.specs.Bytes.{Call, BadPiece, BytesAnswers}

module _ (call : Call) (piece : List ℕ) where
  -- 9 where it is not exactly one literal of the kind, 5 where its value is bad
  pub data Unfit : Refused → Type 0 where
    not_the_literal : (Exactly call.literal piece → ⊥) → Unfit (record { refusal = Refusal.NotTheLiteral; place = 0 })
    bad : {p : ℕ} → Exactly call.literal piece → BadPiece call piece p →
        Unfit (record { refusal = Refusal.BadValue; place = p })

  -- the answer of a refusal, whatever buffer is lent
  abbrev pub Refuses : Rules → Refused → Type 0
  Refuses rules r = (lent : List ℕ) → BytesAnswers call rules piece lent (answer_of r) lent

module _ {Fit : Type 0} (call : Call) (piece : List ℕ) (Is : Fit → Type 0) where
  -- the piece is what it was found to be, or unfit
  abbrev pub Fits : Result Fit Refused → Type 0
  Fits (Ok x) = Is x
  Fits (Err r) = Unfit call piece r

  -- the same of a piece that is also judged by its length and its bytes
  abbrev pub Judges : Rules → Result Fit Refused → Type 0
  Judges rules (Ok x) = Is x × (length piece ≤ rules.text) × WellFormed piece
  Judges rules (Err r) = Refuses call piece rules r
