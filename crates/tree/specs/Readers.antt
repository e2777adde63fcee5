-- What a reader of a value, and of a bracket's members, leaves behind. Assumes nothing.
use Rattle.std.specs.Prelude.{◌≡◌, Bool, true, false, List, ◌∷◌, ℕ, suc, ◌+◌, ◌≤◌, ◌<◌, length, Result, Ok, Err}
use Rattle.std.proofs.Math.Option.{none}
use Rattle.lexicon.specs.declared.Head.{Head}
use Rattle.lexicon.specs.declared.Form.TheVariants as Form
use Rattle.lexicon.specs.declared.Kind.{Kind}
use Rattle.lexicon.specs.declared.Token as Token
use Rattle.lexicon.specs.declared.Next.TheVariants as Next
use Rattle.lexicon.specs.Token.{Comes}
use Rattle.grammar.specs.Tokens
use Rattle.grammar.specs.Tokens.{Span, Mark, class_kind}
use Rattle.grammar.specs.Tree.{Value}
use Rattle.grammar.specs.Nodes as Nodes
use Rattle.grammar.specs.Nodes.{nodes}
use Rattle.grammar.proofs.Frames as Frames
use Rattle.grammar.proofs.Frames.{Config, Stack, want, have, names_of}
use Rattle.grammar.proofs.Machine.{want_mark}
use Rattle.reading.specs.declared.Limits.{Limits}
use Rattle.reading.specs.declared.Refused.{Refused}
use Rattle.reading.specs.Refusals.{number_of}
use Rattle.reading.specs.Sizes.{widest}
use Rattle.reading.specs.Tokens.{seen}
use Rattle.reading.specs.Faults.{FirstFault}
use Rattle.reading.proofs.At as Place
use Rattle.moves.specs.declared.Forms.{Forms}
use Rattle.moves.specs.declared.Shape.{Shape}
use Rattle.moves.specs.declared.Frame.{Frame}
use Rattle.moves.specs.declared.Mode.{Mode}
use Rattle.moves.specs.declared.Move.{Move}
use Rattle.moves.specs.Means.{level_of, shape_of, mode_of, inside, open_of, below, before, children}
use Rattle.moves.specs.Effects.{head_bare, nested, held, opening, Does, Begins}
use Rattle.table.specs.Over.{Written}
use Rattle.look.specs.declared.answer.Read.{Read}
use Rattle.tree.specs.declared.bracket.State as State
use Rattle.tree.specs.declared.start.Start as Start
use Rattle.tree.specs.declared.bracket.Turn.{Turn}
use Rattle.look.specs.Looks.{NotNext, NoHead}
use Rattle.begin.specs.Signs.{no_mark, is_close_of, literal}

-- the numbers of a turn that reads no value
abbrev pub Ends : Token.Token → Token.Token → Result Turn Refused → Type 0
Ends opener t (Ok (Turn.On n)) = (opener.end + n.nodes ≤ n.at) × (n.deep ≤ n.at) × (n.at ≡ t.end)
Ends opener t (Ok (Turn.Ended v)) = (opener.first + v.nodes ≤ v.end) × (v.end ≡ t.end)
Ends opener t (Err e) = Unit {0}

-- the state in which a bracket is entered
abbrev pub entering : Mode → ℕ → ℕ → ℕ → State.State
entering m at d index = record { mode = m; at = at; deep = d + 1; nodes = 0; last = index }

-- a move that begins no value
abbrev pub signs : Move → Bool
signs (Move.Value f) = false
signs (Move.To m r) = true
signs Move.Tuple = true
signs (Move.Count y) = true
signs (Move.Deeper y) = true
signs (Move.Shut y r) = true
signs (Move.Close k d r) = true
signs Move.Group = true
signs Move.Wrong = true

-- where a token stands
abbrev pub span_of : Token.Token → Span
span_of t = (seen t).at

-- directly behind `(`
abbrev pub opened : Token.Token → Stack → Stack
opened t K = Frames.in_round (Frames.opened (span_of t)) ∷ K

module _ (text : List ℕ) where
  -- ---- numbers: a value's nodes are at most its bytes, so no sum is too large

  pub record Fit (t : Token.Token) (index parent : ℕ) : Type 0 where
    pub short : length text ≤ widest
    pub some_byte : t.first < t.end
    pub inside_text : t.end ≤ length text
    pub index_fits : index ≤ t.first
    pub parent_fits : parent ≤ index

  -- a value's start in the text
  pub record Within (start : Start.Start) : Type 0 where
    pub short : length text ≤ widest
    pub inside_text : start.token.end ≤ length text

  abbrev pub Sized : Token.Token → Result Read Refused → Type 0
  Sized t (Ok v) = (t.first + v.nodes ≤ v.end) × (t.end ≤ v.end) × (v.end ≤ length text)
  Sized t (Err e) = Unit {0}

  -- a bracket's members so far
  pub record Inner (opener : Token.Token) (s : State.State) (index parent : ℕ) : Type 0 where
    pub fit : Fit opener index parent
    pub after : opener.end + s.nodes ≤ s.at
    pub deep_fits : s.deep ≤ s.at
    pub inside_text : s.at ≤ length text

  -- the same of a bracket that begins there
  pub record Inside (start : Start.Start) (s : State.State) : Type 0 where
    pub within : Within start
    pub after : start.token.end + s.nodes ≤ s.at
    pub deep_fits : s.deep ≤ s.at
    pub inside_text : s.at ≤ length text

  -- one turn leads on
  abbrev pub Turned : Token.Token → State.State → Result Turn Refused → Type 0
  Turned opener s (Ok (Turn.On n)) = (opener.end + n.nodes ≤ n.at) × (n.deep ≤ n.at) × (s.at < n.at) ×
      (n.at ≤ length text)
  Turned opener s (Ok (Turn.Ended v)) = Sized opener (Ok v)
  Turned opener s (Err e) = Unit {0}

  abbrev pub Born : State.State → Token.Token → Result Turn Refused → Type 0
  Born s t (Ok (Turn.On n)) = (t.first + n.nodes ≤ n.at + s.nodes) × (n.deep ≡ s.deep) × (t.end ≤ n.at) ×
      (n.at ≤ length text)
  Born s t (Ok (Turn.Ended v)) = ⊥
  Born s t (Err e) = Unit {0}

  module _ (limits : Limits) (forms : Forms) where
    abbrev pub Stands : ℕ → ℕ → Config → Type 0
    Stands d p c = Place.At limits (level_of forms) text d p c

    abbrev pub Faulty : ℕ → ℕ → Type 0
    Faulty n q = FirstFault limits (level_of forms) text n q

    -- no `::` goes on with the value that ends here
    abbrev pub Stops : Value → ℕ → Type 0
    Stops v e = (u : Token.Token) → Comes text e (Next.Token u) → u.kind ≡ Kind.TwoColons → names_of v ≡ none

    -- ---- a value

    -- at a place for a value, before a token that is no sign taken there
    pub record Asks (K : Stack) (d at : ℕ) (t : Token.Token) : Type 0 where
      pub stands : Stands d at (want K)
      pub comes : Comes text at (Next.Token t)
      pub no_sign : (m : Mark) → class_kind t.kind ≡ Tokens.mark m → want_mark m (span_of t) K ≡ none

    -- a value was read, and its nodes are written
    pub record IsValue (K : Stack) (t : Token.Token) (end n : ℕ) (shape : Shape) (lent left : List ℕ)
        (index parent : ℕ) : Type 0 where
      pub tree : Value
      pub depth : ℕ
      pub stands : Stands depth end (have tree K)
      pub stops : Stops tree end
      pub shape_is : shape_of tree ≡ shape
      pub bare : (h : Head) → shape ≡ Shape.Bare h → (t.kind ≡ Kind.Text (Form.HeadWord h)) × (end ≡ t.end)
      pub count_is : n ≡ length (nodes tree parent Nodes.root index)
      pub written : Written lent left index (nodes tree parent Nodes.root index)

    abbrev pub Outcome : Stack → Token.Token → List ℕ → List ℕ → ℕ → ℕ → Result Read Refused → Type 0
    Outcome K t lent left index parent (Ok v) = IsValue K t v.end v.nodes v.shape lent left index parent
    Outcome K t lent left index parent (Err e) = Faulty (number_of e.refusal) e.place

    -- the promise of the value reader
    pub record Reads (d : ℕ) (t : Token.Token) (lent left : List ℕ) (index parent : ℕ) (r : Result Read Refused) :
        Type 0 where
      pub sized : Sized t r
      pub outcome : (K : Stack) (at : ℕ) → Asks K d at t → Outcome K t lent left index parent r

    -- ---- inside a bracket

    pub record Holds (opener : Token.Token) (lent left : List ℕ) (index : ℕ) (K : Stack) (c : Config)
        (s : State.State) : Type 0 where
      pub stands : Stands s.deep s.at c
      pub within : inside c ≡ true
      pub mode_is : mode_of c ≡ s.mode
      pub stack_is : below c ≡ K
      pub open_is : open_of c ≡ span_of opener
      -- what cannot come next
      pub no_head : head_bare c ≡ true → NotNext text Kind.Colon s.at
      pub no_names : nested c ≡ true → NotNext text Kind.TwoColons s.at
      -- directly behind `(` no value begins, and behind the first value is no `)`: these are read before
      pub unread : opening c ≡ true → held c ≡ false → (u : Token.Token) → Comes text s.at (Next.Token u) →
          no_mark (class_kind u.kind) ≡ false
      pub no_group : opening c ≡ true → held c ≡ true → (u : Token.Token) → Comes text s.at (Next.Token u) →
          is_close_of (class_kind u.kind) ≡ false
      -- the members' nodes
      pub length_is : length left ≡ length lent
      pub count_is : s.nodes ≡ length (children c index)
      pub last_is : held c ≡ true → s.last ≡ index + 1 + length (before c index)
      pub written : Written lent left (index + 1) (children c index)

    -- one turn: the bracket goes on, or ends as the value that the opener begins
    abbrev pub Turns : Token.Token → List ℕ → List ℕ → ℕ → ℕ → Stack → Result Turn Refused → Type 0
    Turns opener lent left index parent K (Ok (Turn.On s)) = (c : Config) × Holds opener lent left index K c s
    Turns opener lent left index parent K (Ok (Turn.Ended v)) = Outcome K opener lent left index parent (Ok v)
    Turns opener lent left index parent K (Err e) = Faulty (number_of e.refusal) e.place

    -- the promise of a turn that reads a value
    pub record Bore (s : State.State) (t : Token.Token) (frame : Frame) (from left : List ℕ) (index : ℕ)
        (r : Result Turn Refused) : Type 0 where
      pub born : Born s t r
      pub turns : (opener : Token.Token) (parent : ℕ) (lent : List ℕ) (K : Stack) (c : Config) →
          Holds opener lent from index K c s → Comes text s.at (Next.Token t) →
          Begins (level_of forms) c (seen t) frame → Turns opener lent left index parent K r

    -- of any
    pub record Member (opener : Token.Token) (s : State.State) (from left : List ℕ) (index parent : ℕ)
        (r : Result Turn Refused) : Type 0 where
      pub turned : Turned opener s r
      pub turns : (lent : List ℕ) (K : Stack) (c : Config) → Holds opener lent from index K c s →
          Turns opener lent left index parent K r

    -- of a bracket, from the state in which it is entered
    pub record Bracketed (opener : Token.Token) (s : State.State) (from left : List ℕ) (index parent : ℕ)
        (r : Result Read Refused) : Type 0 where
      pub sized : Sized opener r
      pub outcome : (lent : List ℕ) (K : Stack) (c : Config) → Holds opener lent from index K c s →
          Outcome K opener lent left index parent r

    -- behind `(`
    pub record Rounded (d : ℕ) (opener : Token.Token) (lent left : List ℕ) (index parent : ℕ)
        (r : Result Read Refused) : Type 0 where
      pub sized : Sized opener r
      pub outcome : (K : Stack) → Stands (suc d) opener.end (want (opened opener K)) → NoHead text opener.end →
          Outcome K opener lent left index parent r

-- ---- literals and Nestings

-- one node, from the token's first byte to its end
abbrev pub Alone : Token.Token → Result Read Refused → Type 0
Alone t (Ok v) = (v.nodes ≡ 1) × (v.end ≡ t.end)
Alone t (Err e) = Unit {0}

pub record Literal (text : List ℕ) (t : Token.Token) (lent left : List ℕ) (index parent : ℕ)
    (r : Result Read Refused) : Type 0 where
  pub sized : Alone t r
  pub outcome : (limits : Limits) (forms : Forms) (K : Stack) (d at : ℕ) → Asks text limits forms K d at t →
      literal (class_kind t.kind) ≡ true → Outcome text limits forms K t lent left index parent r

pub record Nesting (text : List ℕ) (t : Token.Token) (lent left : List ℕ) (index parent : ℕ)
    (r : Result Read Refused) : Type 0 where
  pub sized : Sized text t r
  pub outcome : (limits : Limits) (forms : Forms) (K : Stack) (d at : ℕ) → Asks text limits forms K d at t →
      t.kind ≡ Kind.TwoColons → Outcome text limits forms K t lent left index parent r

-- ---- the promise of a turn that reads no value

pub record Taken (limits : Limits) (opener : Token.Token) (s : State.State) (t : Token.Token) (taken : Move)
    (from left : List ℕ) (index parent : ℕ) (r : Result Turn Refused) : Type 0 where
  pub turns : (text : List ℕ) (forms : Forms) (lent : List ℕ) (K : Stack) (c : Config) →
      Holds text limits forms opener lent from index K c s → Comes text s.at (Next.Token t) →
      Does (level_of forms) c (seen t) taken → signs taken ≡ true →
      Turns text limits forms opener lent left index parent K r
