-- How a value begins, at a place for one, by its first token. Assumes nothing.
use Rattle.std.specs.Prelude.{◌≡◌, ◌⊎◌, true, false, List, ℕ, ◌≤◌, ◌<◌, Some, Result, Ok, Err}
use Rattle.lexicon.specs.declared.Head.{Head}
use Rattle.lexicon.specs.declared.Sign.TheVariants as Sign
use Rattle.lexicon.specs.declared.Kind.TheVariants as Kind
use Rattle.lexicon.specs.declared.Token as Token
use Rattle.grammar.specs.Tokens
use Rattle.grammar.specs.Tokens.{Mark, class_kind}
use Rattle.grammar.specs.Level.{has_head}
use Rattle.reading.specs.declared.Limits.{Limits}
use Rattle.reading.specs.declared.Refusal.{Refusal}
use Rattle.reading.specs.declared.Refused.{Refused}
use Rattle.moves.specs.declared.Forms.{Forms}
use Rattle.moves.specs.declared.Style.{Style}
use Rattle.moves.specs.declared.Front.TheVariants as Front
use Rattle.moves.specs.declared.CurlyFrame.TheVariants as Curly
use Rattle.moves.specs.declared.SquareFrame.TheVariants as Square
use Rattle.moves.specs.declared.Frame.TheVariants as Frame
use Rattle.moves.specs.declared.Mode.TheVariants as Mode
use Rattle.moves.specs.Means.{level_of}
use Rattle.look.specs.Looks.{Gets, HeadHere, NoHead}
use Rattle.begin.specs.declared.Begin.{Begin}
use Rattle.level.specs.Levels.{Collects}
use Rattle.begin.specs.Signs.{literal}

-- a refusal at the token
abbrev pub refused_at : Refusal → Token.Token → Refused
refused_at refusal t = record { refusal = refusal; place = t.first }

module _ (limits : Limits) (d : ℕ) (t : Token.Token) where
  -- one bracket more, if there may be one
  abbrev pub Deeper : Begin → Result Begin Refused → Type 0
  Deeper begun r =
      ((limits.depth ≤ d) × (r ≡ Err (refused_at Refusal.TooDeep t))) ⊎ ((d < limits.depth) × (r ≡ Ok begun))

module _ (text : List ℕ) (limits : Limits) (forms : Forms) (d : ℕ) (t : Token.Token) where
  -- with d brackets open before it
  pub data Begins : Result Begin Refused → Type 0 where
    a_literal : literal (class_kind t.kind) ≡ true → Begins (Ok Begin.Literal)
    a_name : t.kind ≡ Kind.TwoColons → Begins (Ok Begin.Names)
    -- a sign that begins no value
    a_mark : (m : Mark) → class_kind t.kind ≡ Tokens.mark m → Begins (Err (refused_at Refusal.WrongPlace t))
    a_later : t.kind ≡ Kind.Later → Begins (Err (refused_at Refusal.NewerForm t))
    curly : {r : Result Begin Refused} → t.kind ≡ Kind.Symbol Sign.CurlyOpen →
        Deeper limits d t (Begin.Bracket (Mode.Want (Frame.Curly (Curly.Members Style.Lot Front.Start))) t.end) r →
        Begins r
    square : {r : Result Begin Refused} → t.kind ≡ Kind.Symbol Sign.SquareOpen → forms.intervals ≡ true →
        Deeper limits d t (Begin.Bracket (Mode.Want (Frame.Square Square.Opened)) t.end) r → Begins r
    square_newer : t.kind ≡ Kind.Symbol Sign.SquareOpen → forms.intervals ≡ false →
        Begins (Err (refused_at Refusal.NewerForm t))
    -- `(` and a head, which the level has or lacks; or anything else, which is handed on
    headed : {r : Result Begin Refused} (h : Head) (end : ℕ) (style : Style) → t.kind ≡ Kind.Symbol Sign.RoundOpen →
        HeadHere text t.end h end → Collects forms h (Some style) →
        Deeper limits d t (Begin.Bracket (Mode.Head style) end) r → Begins r
    head_newer : (h : Head) (end : ℕ) → t.kind ≡ Kind.Symbol Sign.RoundOpen → HeadHere text t.end h end →
        has_head (level_of forms) h ≡ false → Begins (Err (refused_at Refusal.NewerForm t))
    round : {r : Result Begin Refused} (g : Result Token.Token Refused) → t.kind ≡ Kind.Symbol Sign.RoundOpen →
        Gets text t.end g → NoHead text t.end → Deeper limits d t (Begin.Round g) r → Begins r
