-- What every value call asks of its piece first: 01, 'The value calls test 2, 3, 9, 5, then 10 or 8'. Assumes nothing.
use Rattle.std.specs.Prelude.{List, ℕ, ◌≤◌, ◌<◌, length, Result, Ok, Err}
use Rattle.lexicon.specs.Utf8.{WellFormed, BadAt}
use Rattle.reading.specs.declared.Refusal.{Refusal}
use Rattle.reading.specs.declared.Refused.{Refused}
use Rattle.reading.specs.declared.Rules.{Rules}

module _ (rules : Rules) (piece : List ℕ) where
  -- 2 for its length, 3 for its bytes
  pub data Unsound : Refused → Type 0 where
    too_long : rules.text < length piece → Unsound (record { refusal = Refusal.TooLong; place = 0 })
    not_utf8 : {p : ℕ} → length piece ≤ rules.text → BadAt piece p →
        Unsound (record { refusal = Refusal.NotUtf8; place = p })

  abbrev pub Sounds : Result (Unit {0}) Refused → Type 0
  Sounds (Ok _) = (length piece ≤ rules.text) × WellFormed piece
  Sounds (Err r) = Unsound r
