-- What comes next, where it is no head and no `::`. Assumes nothing.
use mathlib.Core.Path.{◌≡◌, refl, ap, subst, ◌∙◌}
use mathlib.Core.List.{List}
use Prim.Native.Nat.{ℕ}
use Rattle.lexicon.specs.declared.Head.{Head}
use Rattle.lexicon.specs.declared.Form.TheVariants as Form
use Rattle.lexicon.specs.declared.Kind.{Kind}
use Rattle.lexicon.specs.declared.Token as Token
use Rattle.lexicon.specs.declared.Next.{Next}
use Rattle.lexicon.specs.Token.{Comes}
use Rattle.reading.specs.declared.Refused.{Refused}
use Rattle.reading.proofs.Rows.{pick, no_end, no_none}
use Rattle.std.specs.Prelude.{Result, Ok, Err}
use mathlib.Core.Logic.{⊎_elim}
use Rattle.look.specs.Looks.{Gets, NotNext, NoHead}
use Rattle.look.specs.Ends.{Behind, beyond_by, further, nothing}
use Rattle.look.specs.declared.answer.Read.{Read}

module _ (text : List ℕ) (at : ℕ) where
  -- a token that is of another kind
  pub other_kind : {k : Kind} {t : Token.Token} → Comes text at (Next.Token t) → (t.kind ≡ k → ⊥) → NotNext text k at
  other_kind {t = t} c h = record { none = λ u d e. h (ap (λ (x : Token.Token). x.kind) (pick text c d) ∙ e) }

  pub got_token : {g : Result Token.Token Refused} {t : Token.Token} → g ≡ Ok t → Gets text at g → Comes text at (Next.Token t)
  got_token e k = subst (λ (x : Result Token.Token Refused). Gets text at x) e k

  -- no token where one must come
  pub got_none : {g : Result Token.Token Refused} {e : Refused} → g ≡ Err e → Gets text at g → (t : Token.Token) → Comes text at (Next.Token t) → ⊥
  got_none e k t c = ⊎_elim (λ x. no_none text at c x.1) (λ x. no_end text at c x.1) (subst (λ (x : Result Token.Token Refused). Gets text at x) e k)

  -- no token, or none that is a head word
  pub headless : ((t : Token.Token) → Comes text at (Next.Token t) → (h : Head) → t.kind ≡ Kind.Text (Form.HeadWord h) → ⊥) → NoHead text at
  headless f = record { none = λ h end w. f w.word w.comes h w.word_is }

  pub no_word : {t : Token.Token} → Comes text at (Next.Token t) → ((h : Head) → t.kind ≡ Kind.Text (Form.HeadWord h) → ⊥) → NoHead text at
  no_word {t} c f = headless (λ u k h e. f h (ap (λ (x : Token.Token). x.kind) (pick text c k) ∙ e))

  -- no colon behind the word
  pub no_sign_lem : {t : Token.Token} → Comes text at (Next.Token t) → NotNext text Kind.Colon t.end → NoHead text at
  no_sign_lem {t} c f =
      record {
        none = λ h end w. f.none w.sign (subst (λ (x : Token.Token). Comes text x.end (Next.Token w.sign)) (pick text w.comes c) w.then) w.sign_is;
      }

-- what stands behind a value, if not the end, is refused
pub not_ended : {text : List ℕ} {at : ℕ} {read : Result Read Refused} {e : Refused} (n : Next) → Comes text at n → ((q : ℕ) → n ≡ Next.End q → ⊥) → e ≡ beyond_by n → Behind text at read (Err e)
not_ended (Next.Token t) k o w = rw w (further k)
not_ended (Next.End q) k o w = absurd (o q refl)
not_ended (Next.NoToken q) k o w = rw w (nothing k)
