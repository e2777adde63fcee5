-- What the functions of one turn compute: the next state and the words written. Assumes nothing.
use Rattle.std.specs.Prelude.{◌≡◌, ◌⊎◌, List, ℕ, ◌+◌, ◌≤◌, ◌<◌, pred, length, Result, Ok, Err}
use Rattle.lexicon.specs.declared.Token as Token
use Rattle.grammar.specs.Nodes.{kind_number_of}
use Rattle.reading.specs.declared.Limits.{Limits}
use Rattle.reading.specs.declared.Refusal.{Refusal}
use Rattle.reading.specs.declared.Refused.{Refused}
use Rattle.reading.specs.Sizes.{widest}
use Rattle.reading.specs.Faults.{Retired}
use Rattle.moves.specs.declared.NodeKind.{NodeKind}
use Rattle.moves.specs.declared.Role.{Role}
use Rattle.moves.specs.declared.Shape.TheVariants as Shape
use Rattle.moves.specs.declared.Style.{Style}
use Rattle.moves.specs.declared.Front.TheVariants as Front
use Rattle.moves.specs.declared.RoundFrame.TheVariants as Round
use Rattle.moves.specs.declared.CurlyFrame.TheVariants as Curly
use Rattle.moves.specs.declared.Frame.TheVariants as Frame
use Rattle.moves.specs.declared.Mode.{Mode}
use Rattle.moves.specs.Means.{node_kind_of}
use Rattle.table.specs.declared.Entry as Entry
use Rattle.table.specs.Over.{Stored, entry_words, Assigned}
use Rattle.tree.specs.Tellings.{leaf_kind, leaf_detail}
use Rattle.begin.specs.Begins.{refused_at}
use Rattle.tree.specs.declared.bracket.State as State
use Rattle.tree.specs.declared.bracket.Turn.{Turn}

-- ---- the numbers asked for

-- of the state and the token behind it: no node is written beyond the bytes read
pub record Narrow (s : State.State) (t : Token.Token) (index : ℕ) : Type 0 where
  pub after : index + 1 + s.nodes ≤ s.at
  pub token_after : s.at ≤ t.first
  pub token_byte : t.first < t.end
  pub short : t.end ≤ widest

-- of the bracket's first token
pub record Behind (opener : Token.Token) (s : State.State) : Type 0 where
  pub after : opener.end + s.nodes ≤ s.at
  pub deep_fits : s.deep ≤ s.at

-- ---- what is computed

-- the state behind the token
abbrev pub behind : State.State → Mode → Token.Token → ℕ → ℕ → State.State
behind s m t d n = record { mode = m; at = t.end; deep = d; nodes = n; last = s.last }

-- the node of a count at its place, and of the bracket
abbrev pub count_entry : Token.Token → ℕ → ℕ → Entry.Entry
count_entry t place index = record {
  kind = leaf_kind t.kind;
  first = t.first;
  end = t.end;
  parent = index;
  role = Role.Count;
  detail = leaf_detail t.kind;
  skip = place + 1;
}

abbrev pub close_entry : Token.Token → ℕ → NodeKind → ℕ → ℕ → ℕ → Entry.Entry
close_entry t first kind detail parent skip = record {
  kind = kind_number_of (node_kind_of kind);
  first = first;
  end = t.end;
  parent = parent;
  role = Role.Root;
  detail = detail;
  skip = skip;
}

module _ (s : State.State) (t : Token.Token) where
  pub record Led (mode : Mode) (role : Role) (from left : List ℕ) (r : Turn) : Type 0 where
    pub turn_is : r ≡ Turn.On (behind s mode t s.deep s.nodes)
    pub role_is : Assigned from left s.last role

  -- unless the sign is retired
  abbrev pub Leading : Limits → Mode → Role → List ℕ → List ℕ → Result Turn Refused → Type 0
  Leading limits mode role from left r =
      (Retired limits t × (r ≡ Err (refused_at Refusal.RetiredArrow t))) ⊎
      ((Retired limits t → ⊥) × ((turn : Turn) × (r ≡ Ok turn) × Led mode role from left turn))

  pub record Tupled (from left : List ℕ) (index : ℕ) (r : Turn) : Type 0 where
    pub named : List ℕ
    pub length_is : length named ≡ length from
    pub name_is : Assigned from named (index + 1) Role.Name
    pub led : Led (Mode.Want (Frame.Round Round.Row)) Role.Value named left r

  pub record Counted (style : Style) (from left : List ℕ) (index : ℕ) (r : Turn) : Type 0 where
    pub turn_is : r ≡ Turn.On (behind s (Mode.Counted style) t s.deep (s.nodes + 1))
    pub stored : Stored from left (index + 1 + s.nodes) (entry_words (count_entry t (index + 1 + s.nodes) index))

  abbrev pub Deepened : Limits → Style → Result Turn Refused → Type 0
  Deepened limits style r =
      ((limits.depth ≤ s.deep) × (r ≡ Err (refused_at Refusal.TooDeep t))) ⊎
      ((s.deep < limits.depth) ×
      (r ≡ Ok (Turn.On (behind s (Mode.Want (Frame.Curly (Curly.Members style Front.Start))) t (s.deep + 1)
      s.nodes))))

  pub record Shuts (style : Style) (role : Role) (from left : List ℕ) (r : Turn) : Type 0 where
    pub turn_is : r ≡ Turn.On (behind s (Mode.Headed style) t (pred s.deep) s.nodes)
    pub role_is : Assigned from left s.last role

  pub record Closed (first : ℕ) (kind : NodeKind) (detail : ℕ) (role : Role) (from left : List ℕ)
      (index parent : ℕ) (r : Turn) : Type 0 where
    pub turn_is : r ≡ Turn.Ended (record { end = t.end; nodes = s.nodes + 1; shape = Shape.Other })
    pub told : List ℕ
    pub length_is : length told ≡ length from
    pub role_is : Assigned from told s.last role
    pub stored : Stored told left index (entry_words (close_entry t first kind detail parent (index + (s.nodes + 1))))
