-- What the retirement of the backward arrow changed: 02, request 6, 'From now on `<-` at a place where it was allowed
-- is refused with a new number 15 at its first byte; elsewhere it stays 6.' One text, read by the old rules and by
-- today's. Assumes nothing.
use Rattle.std.specs.Prelude.{◌≡◌, ◌⊎◌, false, List, ℕ, ◌≤◌, ◌<◌, length}
use Rattle.rules.specs.Every.{Every}
use Rattle.lexicon.specs.declared.Token as Token
use Rattle.lexicon.specs.declared.Next.TheVariants as Next
use Rattle.lexicon.specs.Utf8.{WellFormed}
use Rattle.lexicon.specs.Front.{Front}
use Rattle.lexicon.specs.Token.{Comes}
use Rattle.grammar.specs.Tokens.{Tok, mark, left_arrow}
use Rattle.grammar.specs.Level.{Level}
use Rattle.grammar.specs.Place.{Wrong}
use Rattle.reading.specs.declared.Answer.{Answer}
use Rattle.reading.specs.declared.Limits.{Limits}
use Rattle.reading.specs.declared.Rules.{Rules}
use Rattle.reading.specs.Sizes.{with_arrow}
use Rattle.reading.specs.Tokens.{seen, Follow}
use Rattle.reading.specs.Faults.{Passed}
use Rattle.reading.specs.Answers.{LevelOf, answer}

-- the token is the backward arrow
abbrev pub IsArrow : Tok → Type 0
IsArrow t = t.class ≡ mark left_arrow

-- no token of the text is one, whatever row of tokens from the front it stands behind
pub record NoArrows (bytes : List ℕ) : Type 0 where
  pub none : {start p : ℕ} {before : List Tok} {t : Token.Token} → Front bytes start → Follow bytes start before p →
      Comes bytes p (Next.Token t) → IsArrow (seen t) → ⊥

-- the first arrow of a text stands at this place, and by the old rules it was allowed there
pub record FirstArrow (old : Limits) (l : Level) (bytes : List ℕ) (place : ℕ) : Type 0 where
  -- no token before it is an arrow, and none is faulty by the old rules
  pub before : List Tok
  pub from : ℕ
  pub good : Passed old l bytes before from
  pub first : Every (λ t. IsArrow t → ⊥) before
  pub token : Token.Token
  pub comes : Comes bytes from (Next.Token token)
  pub arrow : IsArrow (seen token)
  -- 'at a place where it was allowed'
  pub in_place : Wrong l before (seen token) → ⊥
  -- 'at its first byte'
  pub place_is : place ≡ token.first

-- a reading of one text by the old rules and one by today's, with equal tables: answer and table at exit of each
pub record Retirement (rules : Rules) (bytes : List ℕ) (number : ℕ) (old : Answer) (old_table : List ℕ) (new : Answer)
    (new_table : List ℕ) : Type 0 where
  -- but for 15 nothing changed
  pub alike : (new.number ≡ 15 → ⊥) → (old ≡ new) × (old_table ≡ new_table)
  -- 15 names the first arrow, which was allowed; the old rules accept the text, or refuse it behind that
  pub named : new.number ≡ 15 →
      (l : Level) × LevelOf number l × FirstArrow (with_arrow rules).limits l bytes new.place
  pub later : new.number ≡ 15 → (old.number ≡ 0) ⊎ (new.place < old.place)
  -- and it is given wherever there is one, in a text that comes as far as its tokens
  pub given : {l : Level} {p : ℕ} → rules.limits.arrow ≡ false → LevelOf number l → length bytes ≤ rules.text →
      WellFormed bytes → FirstArrow (with_arrow rules).limits l bytes p → new ≡ answer 15 p 0
