-- The names of a Nesting: `::`, and the Text behind it. Assumes nothing.
use Rattle.std.specs.Prelude.{◌≡◌, ◌⊎◌, true, false, List, ℕ, Option, Some, None, Result, Ok, Err}
use Rattle.lexicon.specs.declared.Form.{Form}
use Rattle.lexicon.specs.declared.Kind.TheVariants as Kind
use Rattle.lexicon.specs.declared.Token as Token
use Rattle.lexicon.specs.declared.Next.TheVariants as Next
use Rattle.lexicon.specs.Token.{BadPlace, Comes}
use Rattle.reading.specs.declared.Refusal.{Refusal}
use Rattle.reading.specs.declared.Refused.{Refused}
use Rattle.look.specs.Looks.{NotNext}

module _ (text : List ℕ) where
  -- `::` comes next and ends at the place, or it doesn't come
  pub record ColonsHere (at end : ℕ) : Type 0 where
    pub sign : Token.Token
    pub comes : Comes text at (Next.Token sign)
    pub sign_is : sign.kind ≡ Kind.TwoColons
    pub end_is : end ≡ sign.end

  abbrev pub ColonsNext : ℕ → Option ℕ → Type 0
  ColonsNext at (Some end) = ColonsHere at end
  ColonsNext at None = NotNext text Kind.TwoColons at

  -- a Text comes next, and its value is not bad
  pub record NameHere (at end : ℕ) : Type 0 where
    pub word : Token.Token
    pub comes : Comes text at (Next.Token word)
    pub form : Form
    pub word_is : word.kind ≡ Kind.Text form
    pub good : word.bad ≡ false
    pub end_is : end ≡ word.end

  -- another token, and a bad Text
  pub record OtherHere (at place : ℕ) : Type 0 where
    pub token : Token.Token
    pub comes : Comes text at (Next.Token token)
    pub no_text : (form : Form) → token.kind ≡ Kind.Text form → ⊥
    pub place_is : place ≡ token.first

  pub record BadHere (at place : ℕ) : Type 0 where
    pub word : Token.Token
    pub comes : Comes text at (Next.Token word)
    pub form : Form
    pub word_is : word.kind ≡ Kind.Text form
    pub bad : word.bad ≡ true
    pub placed : BadPlace text word.kind word.first word.end place

  abbrev pub NameNext : ℕ → Result ℕ Refused → Type 0
  NameNext at (Ok end) = NameHere at end
  NameNext at (Err e) =
      ((e.refusal ≡ Refusal.NoToken) × Comes text at (Next.NoToken e.place)) ⊎
      ((e.refusal ≡ Refusal.WrongPlace) × Comes text at (Next.End e.place)) ⊎
      ((e.refusal ≡ Refusal.WrongPlace) × OtherHere at e.place) ⊎
      ((e.refusal ≡ Refusal.BadValue) × BadHere at e.place)
