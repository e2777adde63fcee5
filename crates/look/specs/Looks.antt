-- Looks at the next tokens. Assumes nothing.
use Rattle.std.specs.Prelude.{◌≡◌, ◌⊎◌, List, ℕ, Result, Ok, Err}
use Rattle.lexicon.specs.declared.Head.{Head}
use Rattle.lexicon.specs.declared.Form.TheVariants as Form
use Rattle.lexicon.specs.declared.Kind.{Kind}
use Rattle.lexicon.specs.declared.Token as Token
use Rattle.lexicon.specs.declared.Next.TheVariants as Next
use Rattle.lexicon.specs.declared.NotUtf8.{NotUtf8}
use Rattle.lexicon.specs.Token.{Comes}
use Rattle.reading.specs.declared.Refusal.{Refusal}
use Rattle.reading.specs.declared.Refused.{Refused}
use Rattle.look.specs.declared.head.Headed.{Headed}

module _ (text : List ℕ) where
  -- a token, or why there is none where one must come
  abbrev pub Gets : ℕ → Result Token.Token Refused → Type 0
  Gets at (Ok t) = Comes text at (Next.Token t)
  Gets at (Err e) =
      ((e.refusal ≡ Refusal.NoToken) × Comes text at (Next.NoToken e.place)) ⊎
      ((e.refusal ≡ Refusal.WrongPlace) × Comes text at (Next.End e.place))

  -- no token of the kind comes next
  pub record NotNext (k : Kind) (at : ℕ) : Type 0 where
    pub none : (u : Token.Token) → Comes text at (Next.Token u) → u.kind ≡ k → ⊥

  -- a bare head word and the token `:`, which ends at the place
  pub record HeadHere (at : ℕ) (h : Head) (end : ℕ) : Type 0 where
    pub word : Token.Token
    pub comes : Comes text at (Next.Token word)
    pub word_is : word.kind ≡ Kind.Text (Form.HeadWord h)
    pub sign : Token.Token
    pub then : Comes text word.end (Next.Token sign)
    pub sign_is : sign.kind ≡ Kind.Colon
    pub end_is : end ≡ sign.end

  pub record NoHead (at : ℕ) : Type 0 where
    pub none : (h : Head) (end : ℕ) → HeadHere at h end → ⊥

  abbrev pub Heads : ℕ → Headed → Type 0
  Heads at (Headed.At h end) = HeadHere at h end
  Heads at (Headed.Other g) = Gets at g × NoHead at

-- 01's refusal of a text that is not UTF-8: 3 at the first byte at which no sequence begins
abbrev pub unformed_by : Result (Unit {0}) NotUtf8 → Result (Unit {0}) Refused
unformed_by (Ok u) = Ok u
unformed_by (Err found) = Err (record { refusal = Refusal.NotUtf8; place = found.at })
