-- Demand 3, the old reading and the new: unless the lower level answers 'newer form', the readings end alike in number,
-- place, count and every word of the table; if it does, its place is the first byte of the first construct beyond it at
-- a place for a value, and the higher level accepts the text or refuses it there or later. Assumes nothing.
use Rattle.std.specs.Prelude.{◌≡◌, ◌⊎◌, List, ℕ, ◌≤◌}
use Rattle.lexicon.specs.declared.Token as Token
use Rattle.lexicon.specs.declared.Next.TheVariants as Next
use Rattle.lexicon.specs.Front.{Front}
use Rattle.lexicon.specs.Token.{Comes}
use Rattle.grammar.specs.Tokens.{Tok}
use Rattle.grammar.specs.Level.{Level}
use Rattle.reading.specs.declared.Answer.{Answer}
use Rattle.reading.specs.Tokens.{Follow}
use Rattle.reading.specs.Faults.{NewerAt}

module _ (l : Level) (bytes : List ℕ) where
  -- a construct beyond the level, at a place for a value, has its first byte at this place
  pub record NewerFrom (place : ℕ) : Type 0 where
    pub start : ℕ
    pub front : Front bytes start
    pub before : List Tok
    pub from : ℕ
    pub row : Follow bytes start before from
    pub token : Token.Token
    pub comes : Comes bytes from (Next.Token token)
    pub newer : NewerAt l bytes before token
    pub place_is : place ≡ token.first

  -- the one whose first byte comes first
  pub record FirstNewer (place : ℕ) : Type 0 where
    pub here : NewerFrom place
    pub least : {q : ℕ} → NewerFrom q → place ≤ q

-- two readings of one text with equal tables, at the lower level and at the higher: answer and table at exit of each
pub record Agree (lower : Level) (bytes : List ℕ)
    (old : Answer) (old_table : List ℕ) (new : Answer) (new_table : List ℕ) : Type 0 where
  pub alike : (old.number ≡ 7 → ⊥) → (old ≡ new) × (old_table ≡ new_table)
  pub first_newer : old.number ≡ 7 → FirstNewer lower bytes old.place
  pub there_or_later : old.number ≡ 7 → (new.number ≡ 0) ⊎ (old.place ≤ new.place)
