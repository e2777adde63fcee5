-- What stands behind the value of a text. Assumes nothing.
use Rattle.std.specs.Prelude.{List, ℕ, Result, Err}
use Rattle.lexicon.specs.declared.Token as Token
use Rattle.lexicon.specs.declared.Next.{Next}
use Rattle.lexicon.specs.Token.{Comes}
use Rattle.reading.specs.declared.Refusal.{Refusal}
use Rattle.reading.specs.declared.Refused.{Refused}
use Rattle.look.specs.declared.answer.Read.{Read}

-- the refusal of what stands there, if it is not the end
abbrev pub beyond_by : Next → Refused
beyond_by (Next.Token t) = record { refusal = Refusal.WrongPlace; place = t.first }
beyond_by (Next.End q) = record { refusal = Refusal.WrongPlace; place = q }
beyond_by (Next.NoToken q) = record { refusal = Refusal.NoToken; place = q }

module _ (text : List ℕ) where
  -- what stands behind the value: a token, no token, or the end, which leaves the reading as it is
  pub data Behind (at : ℕ) (read : Result Read Refused) : Result Read Refused → Type 0 where
    further : {t : Token.Token} → Comes text at (Next.Token t) →
        Behind at read (Err (record { refusal = Refusal.WrongPlace; place = t.first }))
    nothing : {q : ℕ} → Comes text at (Next.NoToken q) →
        Behind at read (Err (record { refusal = Refusal.NoToken; place = q }))
    at_end : {q : ℕ} → Comes text at (Next.End q) → Behind at read read
