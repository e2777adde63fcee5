-- What each move does, as the grammar's machine sees it. Assumes nothing.
use Rattle.std.specs.Prelude.{◌≡◌, Bool, true, false, List, [], ◌∷◌, ◌++◌, ◌⊎◌, ℕ}
use Rattle.std.proofs.Math.Option.{none, some}
use Rattle.lexicon.specs.declared.Kind.{Kind}
use Rattle.grammar.specs.Tokens
use Rattle.grammar.specs.Tokens.{Span, Tok, Class, Mark, Atom}
use Rattle.grammar.specs.Tree
use Rattle.grammar.specs.Tree.{Value, Plain}
use Rattle.grammar.specs.Level.{Level}
use Rattle.grammar.specs.Nodes as Nodes
use Rattle.grammar.specs.Nodes.{Node, nodes, over, branch, leaf, atom_kind, atom_detail}
use Rattle.grammar.proofs.Frames as Frames
use Rattle.grammar.proofs.Frames.{Config, Stack, names_of}
use Rattle.grammar.proofs.Machine.{step}
use Rattle.moves.specs.declared.Role.{Role}
use Rattle.moves.specs.declared.Shape.TheVariants as Shape
use Rattle.moves.specs.declared.Style.{Style}
use Rattle.moves.specs.declared.Front.TheVariants as Front
use Rattle.moves.specs.declared.RoundFrame.TheVariants as Round
use Rattle.moves.specs.declared.CurlyFrame.TheVariants as Curly
use Rattle.moves.specs.declared.Frame.{Frame}
use Rattle.moves.specs.declared.Mode.{Mode}
use Rattle.moves.specs.declared.Move.{Move}
use Rattle.moves.specs.declared.NodeKind.{NodeKind}
use Rattle.moves.specs.Means.{given, node_kind_of, role_of, shape_of, mode_of, inside}
use Rattle.moves.specs.Means.{open_of, below, before, last, children, roled}

-- signs that neither open nor close a bracket
abbrev pub flat : Mark → Bool
flat Tokens.round_close = false
flat Tokens.curly_close = false
flat Tokens.square_close = false
flat Tokens.comma = true
flat Tokens.colon = true
flat Tokens.right_arrow = true
flat Tokens.left_arrow = true
flat Tokens.dots = true
flat (Tokens.star a b) = true

-- a sign, flat or not
pub record Signed (f : Bool) (k : Class) : Type 0 where
  pub sign : Mark
  pub class_is : k ≡ Tokens.mark sign
  pub flat_is : flat sign ≡ f

-- a bare head word directly behind `(`, and a colon
abbrev pub head_bare : Config → Bool
head_bare (Frames.want K) = false
head_bare (Frames.have v []) = false
head_bare (Frames.have (Tree.plain p) (f ∷ K)) = false
head_bare (Frames.have (Tree.bare h s) (Frames.in_round (Frames.opened o) ∷ K)) = true
head_bare (Frames.have (Tree.bare h s) (Frames.in_round (Frames.pair_colon o p k) ∷ K)) = false
head_bare (Frames.have (Tree.bare h s) (Frames.in_round (Frames.pair_arrow o v a k) ∷ K)) = false
head_bare (Frames.have (Tree.bare h s) (Frames.in_round (Frames.in_tuple o f) ∷ K)) = false
head_bare (Frames.have (Tree.bare h s) (Frames.in_round (Frames.attribute_name o f n k) ∷ K)) = false
head_bare (Frames.have (Tree.bare h s) (Frames.Frame.in_curly f ∷ K)) = false
head_bare (Frames.have (Tree.bare h s) (Frames.in_square f ∷ K)) = false
head_bare (Frames.want_text n o K) = false
head_bare (Frames.want_curly o h s k K) = false
head_bare (Frames.want_count c f v k K) = false
head_bare (Frames.have_item c f i K) = false
head_bare (Frames.want_close c K) = false

-- a Nesting that `::` would go on with
abbrev pub nested : Config → Bool
nested (Frames.want K) = false
nested (Frames.have v K) = given (names_of v)
nested (Frames.want_text n o K) = false
nested (Frames.want_curly o h s k K) = false
nested (Frames.want_count c f v k K) = false
nested (Frames.have_item c f i K) = false
nested (Frames.want_close c K) = false

-- no sign was read behind `(`
abbrev pub opening_frame : Frames.Frame → Bool
opening_frame (Frames.in_round (Frames.opened o)) = true
opening_frame (Frames.in_round (Frames.pair_colon o p k)) = false
opening_frame (Frames.in_round (Frames.pair_arrow o v a k)) = false
opening_frame (Frames.in_round (Frames.in_tuple o f)) = false
opening_frame (Frames.in_round (Frames.attribute_name o f n k)) = false
opening_frame (Frames.Frame.in_curly f) = false
opening_frame (Frames.in_square f) = false

abbrev pub opening : Config → Bool
opening (Frames.want []) = false
opening (Frames.want (f ∷ K)) = opening_frame f
opening (Frames.have v []) = false
opening (Frames.have v (f ∷ K)) = opening_frame f
opening (Frames.want_text n o K) = false
opening (Frames.want_curly o h s k K) = false
opening (Frames.want_count c f v k K) = false
opening (Frames.have_item c f i K) = false
opening (Frames.want_close c K) = false

-- a value was just read
abbrev pub held : Config → Bool
held (Frames.want K) = false
held (Frames.have v []) = false
held (Frames.have v (f ∷ K)) = true
held (Frames.want_text n o K) = false
held (Frames.want_curly o h s k K) = false
held (Frames.want_count c f v k K) = false
held (Frames.have_item c f i K) = false
held (Frames.want_close c K) = false

-- the literals that count: Booleans and Integers
abbrev pub counting : Atom → Bool
counting Tokens.ignorance = false
counting (Tokens.boolean b) = true
counting (Tokens.integer signed) = true
counting Tokens.fraction = false
counting Tokens.bits = false
counting Tokens.blob = false

module _ (l : Level) (c : Config) (t : Tok) where
  -- no role is told where no value was just read
  abbrev pub Unheld : Role → Type 0
  Unheld role = held c ≡ false → role ≡ Role.Root

  -- the token leads on inside the bracket; the members' nodes are then these
  pub record Leads (mode : Mode) (then : ℕ → List Node) : Type 0 where
    pub to : Config
    pub steps : step l c t ≡ some to
    pub within : inside to ≡ true
    pub mode_is : mode_of to ≡ mode
    pub stack_is : below to ≡ below c
    pub open_is : open_of to ≡ open_of c
    -- no value was just read: neither a head word nor a Nesting
    pub no_value : held to ≡ false
    pub no_head : head_bare to ≡ false
    pub no_names : nested to ≡ false
    -- nor directly behind `(`
    pub no_first : opening to ≡ false
    pub members : (i : ℕ) → children to i ≡ then i

  -- the bracket's end: a value whose node, with the members' nodes behind it, is this
  pub record Closes (kind : NodeKind) (detail : ℕ) (then : ℕ → List Node) : Type 0 where
    pub value : Value
    pub steps : step l c t ≡ some (Frames.have value (below c))
    pub shape_is : shape_of value ≡ Shape.Other
    pub members : (p : ℕ) (r : Nodes.Role) (i : ℕ) →
        nodes value p r i ≡ branch (node_kind_of kind) (over (open_of c) t.at) p r detail (then i)

  -- a value is wanted, and the token is no sign
  pub record Begins (frame : Frame) : Type 0 where
    pub top : Frames.Frame
    pub stack : Stack
    pub config_is : c ≡ Frames.want (top ∷ stack)
    pub mode_is : mode_of c ≡ Mode.Want frame
    pub no_sign : (m : Mark) → t.class ≡ Tokens.mark m → ⊥

  pub record Counts (style : Style) : Type 0 where
    pub atom : Atom
    pub class_is : t.class ≡ Tokens.atom atom
    pub is_count : counting atom ≡ true
    pub leads :
        Leads (Mode.Counted style) (λ i. children c i ++ leaf (atom_kind atom) t.at i Nodes.count (atom_detail atom))

  -- behind `(`, a value, `:` and another value
  pub record Paired : Type 0 where
    pub first : Span
    pub name : Plain
    pub colon : Span
    pub value : Value
    pub stack : Stack
    pub config_is : c ≡ Frames.have value (Frames.in_round (Frames.pair_colon first name colon) ∷ stack)

  -- the end of a group
  pub record Groups : Type 0 where
    pub first : Span
    pub value : Value
    pub stack : Stack
    pub config_is : c ≡ Frames.have value (Frames.in_round (Frames.opened first) ∷ stack)
    pub class_is : t.class ≡ Tokens.mark Tokens.round_close

  -- the role of the last value becomes known
  abbrev pub told : Role → ℕ → List Node
  told r i = before c i ++ roled (role_of r) (last c i)

  abbrev pub Does : Move → Type 0
  Does (Move.Value frame) = Begins frame
  Does (Move.To mode role) = Signed true t.class × Unheld role × Leads mode (told role)
  Does Move.Tuple =
      Signed true t.class × Paired
      × Leads (Mode.Want (Frame.Round Round.Row)) (λ i. roled Nodes.name (before c i) ++ roled Nodes.value (last c i))
  Does (Move.Count style) = Counts style
  Does (Move.Deeper style) =
      (t.class ≡ Tokens.curly)
      × Leads (Mode.Want (Frame.Curly (Curly.Members style Front.Start))) (λ i. children c i)
  Does (Move.Shut style role) =
      (t.class ≡ Tokens.mark Tokens.curly_close) × Unheld role × Leads (Mode.Headed style) (told role)
  Does (Move.Close kind detail role) = Signed false t.class × Unheld role × Closes kind detail (told role)
  Does Move.Group = Groups
  Does Move.Wrong =
      (step l c t ≡ none) × (((K : Stack) → c ≡ Frames.want K → ⊥) ⊎ ((m : Mark) × (t.class ≡ Tokens.mark m)))

-- the tokens that the code asks about: no colon behind a head word directly behind `(`, and no `::` behind a Nesting
pub record Asked (c : Config) (k : Kind) : Type 0 where
  pub within : inside c ≡ true
  pub no_head : head_bare c ≡ true → k ≡ Kind.Colon → ⊥
  pub no_names : nested c ≡ true → k ≡ Kind.TwoColons → ⊥
