-- Faulty tokens: 01, 'tokens from left to right; the first faulty token decides. At one token: 4, 6, 7, 5, 11', and 'a
-- token that begins a newer form is 7 and never 6'; 02, request 6, '`<-` at a place where it was allowed is refused
-- with a new number 15 at its first byte; elsewhere it stays 6. At one token 15 comes right after 6, and 6 is judged
-- for that arrow by the old rules'; request 8, the place of 5 inside quotes. Assumes nothing.
use Rattle.std.specs.Prelude.{◌≡◌, true, false, List, [], ◌∷◌, ◌++◌, ℕ, ◌<◌, length}
use Rattle.lexicon.specs.declared.Token as Token
use Rattle.lexicon.specs.declared.Next.TheVariants as Next
use Rattle.lexicon.specs.Front.{Front}
use Rattle.lexicon.specs.Token.{BadPlace, Comes}
use Rattle.grammar.specs.Tokens.{Tok, mark, left_arrow}
use Rattle.grammar.specs.Level.{Level}
use Rattle.grammar.specs.Place.{Wrong, WrongEnd, Newer}
use Rattle.reading.specs.declared.Limits.{Limits}
use Rattle.reading.specs.Tests.{Test, test, First}
use Rattle.reading.specs.Tokens.{seen, Follow, opened}

-- the token t behind the tokens ts begins a newer form, by what follows it
pub record NewerAt (l : Level) (bytes : List ℕ) (ts : List Tok) (t : Token.Token) : Type 0 where
  pub ahead : List Tok
  pub end : ℕ
  pub follow : Follow bytes t.end ahead end
  pub newer : Newer l ts (seen t) ahead

-- it is the backward arrow, which may not be read any more
pub record Retired (limits : Limits) (t : Token.Token) : Type 0 where
  pub retired : limits.arrow ≡ false
  pub arrow : (seen t).class ≡ mark left_arrow

-- it opens one bracket more than may be open at once
pub record TooDeep (limits : Limits) (ts : List Tok) (t : Token.Token) : Type 0 where
  pub deeper : opened ts < opened (ts ++ (seen t ∷ []))
  pub beyond : limits.depth < opened (ts ++ (seen t ∷ []))

-- the place of the refusal n at the token t: of 5 that of the bad value, of any other the token's first byte
pub data PlaceOf (bytes : List ℕ) (t : Token.Token) (n place : ℕ) : Type 0 where
  of_value : n ≡ 5 → BadPlace bytes t.kind t.first t.end place → PlaceOf bytes t n place
  of_token : (n ≡ 5 → ⊥) → place ≡ t.first → PlaceOf bytes t n place

module _ (limits : Limits) (l : Level) (bytes : List ℕ) where
  -- the token t behind the tokens ts, in the order in which it is judged: 'At one token: 4, 6, 7, 5, 11', 7 before 6
  -- since 'a token that begins a newer form is 7 and never 6', and '15 comes right after 6'. The level has the arrow,
  -- so 6 is judged 'by the old rules'. Where no token starts it is 4 before all of them
  abbrev pub tests : List Tok → Token.Token → List Test
  tests ts t =
      test 7 (NewerAt l bytes ts t)
      ∷ test 6 (Wrong l ts (seen t))
      ∷ test 15 (Retired limits t)
      ∷ test 5 (t.bad ≡ true)
      ∷ test 11 (TooDeep limits ts t)
      ∷ []

  -- what is wrong at or after p, behind the tokens ts: the refusal's number and place
  pub data Fault (ts : List Tok) (p : ℕ) : ℕ → ℕ → Type 0 where
    no_token : {q : ℕ} → Comes bytes p (Next.NoToken q) → Fault ts p 4 q
    wrong_end : {q : ℕ} → Comes bytes p (Next.End q) → WrongEnd l ts → Fault ts p 6 q
    at_token : {t : Token.Token} {n q : ℕ} → Comes bytes p (Next.Token t) → First (tests ts t) n →
        PlaceOf bytes t n q → Fault ts p n q

  -- the tokens ts stand from the front up to p, and none of them is faulty
  pub data Passed : List Tok → ℕ → Type 0 where
    begun : {p : ℕ} → Front bytes p → Passed [] p
    passed : {p : ℕ} {ts : List Tok} {t : Token.Token} → Passed ts p → Comes bytes p (Next.Token t) →
        ((n q : ℕ) → Fault ts p n q → ⊥) → Passed (ts ++ (seen t ∷ [])) t.end

  -- the first faulty token
  pub record FirstFault (number place : ℕ) : Type 0 where
    pub before : List Tok
    pub from : ℕ
    pub good : Passed before from
    pub fault : Fault before from number place

  -- no token is faulty, the end included
  pub record AllPassed (ts : List Tok) : Type 0 where
    pub from : ℕ
    pub good : Passed ts from
    pub at_end : Comes bytes from (Next.End (length bytes))
    pub ends : WrongEnd l ts → ⊥
