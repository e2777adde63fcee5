-- What a token does to the machine is one move: the move is read back from the step. Assumes nothing.
use mathlib.Core.Path.{◌≡◌, refl, sym, ap, subst, ◌∙◌}
use mathlib.Core.Bool.{Bool, true, false, false≢true}
use mathlib.Core.List.{List, [], ◌∷◌, ◌++◌}
use mathlib.Core.Logic.{⊎_elim}
use mathlib.Core.Option.{Option, none, some}
use Prim.Native.Nat.{ℕ, zero, suc, ◌≤◌}
use native.Mathlib.Omega.{arith}
use lib.ListN.{length}
use Rattle.lexicon.specs.declared.Kind.{Kind}
use Rattle.grammar.specs.Tokens
use Rattle.grammar.specs.Tokens.{Span, tok, Class, Mark, class_kind}
use Rattle.grammar.specs.Tree
use Rattle.grammar.specs.Tree.{Value, Plain}
use Rattle.grammar.specs.Level.{Level}
use Rattle.grammar.specs.Nodes as Nodes
use Rattle.grammar.specs.Nodes.{Node, nodes, role_number}
use Rattle.grammar.proofs.Frames as Frames
use Rattle.grammar.proofs.Frames.{Config, Stack}
use Rattle.grammar.proofs.Machine.{step}
use Rattle.grammar.proofs.NodeLaws.{some_node, same_size}
use Rattle.moves.specs.declared.CurlyFrame.TheVariants as Curly
use Rattle.moves.specs.declared.Forms.{Forms}
use Rattle.moves.specs.declared.Frame.{Frame}
use Rattle.moves.specs.declared.Mode.{Mode}
use Rattle.moves.specs.declared.Move.{Move}
use Rattle.moves.specs.declared.NodeKind.{NodeKind}
use Rattle.moves.specs.declared.Role.{Role}
use Rattle.moves.specs.declared.SquareFrame.TheVariants as Square
use Rattle.moves.specs.declared.Style.{Style}
use Rattle.moves.specs.Means.{given, level_of, role_of, mode_of, inside, below, before, last, children, roled}
use Rattle.moves.specs.Effects.{flat, held, opening, Leads, Closes, told, Does, Asked}
use Rattle.moves.specs.Moves.{Moves}
use Rattle.moves.proofs.Members.{roled_length}
use Rattle.moves.proofs.Roles.{code_kind, code_kind_lem, code_role, code_role_lem}

-- ---- what a list of nodes tells

abbrev role_at : List Node → ℕ → Nodes.Role
role_at [] k = Nodes.root
role_at (n ∷ ns) zero = n.role
role_at (n ∷ ns) (suc k) = role_at ns k

abbrev first_kind : List Node → NodeKind
first_kind [] = NodeKind.Ignorance
first_kind (n ∷ ns) = code_kind n.kind

abbrev first_detail : List Node → ℕ
first_detail [] = 0
first_detail (n ∷ ns) = n.detail

at_role : (ms : List Node) (n : Node) (ns : List Node) → role_at (ms ++ (n ∷ ns)) (length ms) ≡ n.role
at_role [] n ns = refl
at_role (m ∷ ms) n ns = at_role ms n ns

at_end_lem : (ms : List Node) → role_at (ms ++ []) (length ms) ≡ Nodes.root
at_end_lem [] = refl
at_end_lem (m ∷ ms) = at_end_lem ms

-- ---- the move, read back

abbrev wants : Config → Bool
wants (Frames.want K) = true
wants (Frames.have v K) = false
wants (Frames.want_text n o K) = false
wants (Frames.want_curly o h s k K) = false
wants (Frames.want_count c f v k K) = false
wants (Frames.have_item c f i K) = false
wants (Frames.want_close c K) = false

abbrev starts : Config → Class → Bool
starts c (Tokens.atom a) = wants c
starts c (Tokens.text w) = wants c
starts c Tokens.names = wants c
starts c Tokens.round = wants c
starts c Tokens.curly = wants c
starts c Tokens.square = wants c
starts c (Tokens.mark m) = false
starts c Tokens.later = wants c

abbrev pair_frame : Frames.Frame → Bool
pair_frame (Frames.in_round (Frames.opened o)) = false
pair_frame (Frames.in_round (Frames.pair_colon o p k)) = true
pair_frame (Frames.in_round (Frames.pair_arrow o v a k)) = false
pair_frame (Frames.in_round (Frames.in_tuple o f)) = false
pair_frame (Frames.in_round (Frames.attribute_name o f n k)) = false
pair_frame (Frames.Frame.in_curly f) = false
pair_frame (Frames.in_square f) = false

abbrev paired : Config → Bool
paired (Frames.want K) = false
paired (Frames.have v []) = false
paired (Frames.have v (f ∷ K)) = pair_frame f
paired (Frames.want_text n o K) = false
paired (Frames.want_curly o h s k K) = false
paired (Frames.want_count c f v k K) = false
paired (Frames.have_item c f i K) = false
paired (Frames.want_close c K) = false

abbrev frame_at : Mode → Frame
frame_at (Mode.Want f) = f
frame_at (Mode.Have f s) = f
frame_at (Mode.Head y) = Frame.Square Square.Opened
frame_at (Mode.Count y) = Frame.Square Square.Opened
frame_at (Mode.Counted y) = Frame.Square Square.Opened
frame_at (Mode.TwoCommas y) = Frame.Square Square.Opened
frame_at (Mode.Headed y) = Frame.Square Square.Opened
frame_at (Mode.Bounded d) = Frame.Square Square.Opened

abbrev frame_style : Frame → Style
frame_style (Frame.Round f) = Style.Lot
frame_style (Frame.Curly (Curly.Members y f)) = y
frame_style (Frame.Curly (Curly.Joined l)) = Style.Lot
frame_style (Frame.Square f) = Style.Lot

abbrev style_at : Mode → Style
style_at (Mode.Want f) = frame_style f
style_at (Mode.Have f s) = frame_style f
style_at (Mode.Head y) = y
style_at (Mode.Count y) = y
style_at (Mode.Counted y) = y
style_at (Mode.TwoCommas y) = y
style_at (Mode.Headed y) = y
style_at (Mode.Bounded d) = Style.Lot

abbrev pick : Bool → Move → Move → Move
pick true a b = a
pick false a b = b

-- the role of the last value, among the nodes behind
abbrev role_in : Config → List Node → Role
role_in c ns = code_role (role_at ns (length (before c 0)))

abbrev close_of : Config → List Node → Move
close_of c [] = Move.Wrong
close_of c (n ∷ ns) = Move.Close (first_kind (n ∷ ns)) (first_detail (n ∷ ns)) (role_in c ns)

abbrev end_move : Config → Config → Move
end_move c (Frames.want K) = Move.Shut (style_at (mode_of (Frames.want K))) (role_in c (children (Frames.want K) 0))
end_move c (Frames.have v K) = pick (opening c) (pick (held c) Move.Group (close_of c (nodes v 0 Nodes.root 0))) (close_of c (nodes v 0 Nodes.root 0))
end_move c (Frames.want_text n o K) = Move.Wrong
end_move c (Frames.want_curly o h s k K) = Move.Shut (style_at (mode_of (Frames.want_curly o h s k K))) (role_in c (children (Frames.want_curly o h s k K) 0))
end_move c (Frames.want_count d f v k K) = Move.Shut (style_at (mode_of (Frames.want_count d f v k K))) (role_in c (children (Frames.want_count d f v k K) 0))
end_move c (Frames.have_item d f i K) = Move.Shut (style_at (mode_of (Frames.have_item d f i K))) (role_in c (children (Frames.have_item d f i K) 0))
end_move c (Frames.want_close x K) = Move.Shut (style_at (mode_of (Frames.want_close x K))) (role_in c (children (Frames.want_close x K) 0))

abbrev sign_move : Bool → Config → Config → Move
sign_move true c to = pick (paired c) Move.Tuple (Move.To (mode_of to) (role_in c (children to 0)))
sign_move false c to = end_move c to

abbrev step_move : Config → Class → Config → Move
step_move c (Tokens.atom a) to = Move.Count (style_at (mode_of to))
step_move c (Tokens.text w) to = Move.Wrong
step_move c Tokens.names to = Move.Wrong
step_move c Tokens.round to = Move.Wrong
step_move c Tokens.curly to = Move.Deeper (style_at (mode_of to))
step_move c Tokens.square to = Move.Wrong
step_move c (Tokens.mark m) to = sign_move (flat m) c to
step_move c Tokens.later to = Move.Wrong

abbrev after : Config → Class → Option Config → Move
after c k none = Move.Wrong
after c k (some to) = step_move c k to

abbrev back : Config → Class → Option Config → Move
back c k o = pick (starts c k) (Move.Value (frame_at (mode_of c))) (after c k o)

-- ---- the last value's role

held_some : (c : Config) → held c ≡ true → 1 ≤ length (last c 0)
held_some (Frames.want K) e = absurd (false≢true e)
held_some (Frames.have v []) e = absurd (false≢true e)
held_some (Frames.have v (f ∷ K)) e = some_node v 0 Nodes.root _
held_some (Frames.want_text n o K) e = absurd (false≢true e)
held_some (Frames.want_curly o h s k K) e = absurd (false≢true e)
held_some (Frames.want_count c f v k K) e = absurd (false≢true e)
held_some (Frames.have_item c f i K) e = absurd (false≢true e)
held_some (Frames.want_close c K) e = absurd (false≢true e)

role_told : (c : Config) (r : Role) → (held c ≡ false → r ≡ Role.Root) → role_in c (before c 0 ++ roled (role_of r) (last c 0)) ≡ r
role_told c r u = go (last c 0) (held c) refl (held_some c)
  where
    go : (ns : List Node) (b : Bool) → held c ≡ b → (held c ≡ true → 1 ≤ length ns) → role_in c (before c 0 ++ roled (role_of r) ns) ≡ r
    go [] true e h = absurd (omega (arith, h e))
    go [] false e h = ap code_role (at_end_lem (before c 0)) ∙ sym (u e)
    go (n ∷ ns) b e h = ap code_role (at_role (before c 0) _ ns) ∙ code_role_lem r

-- ---- the tests

clash : {b : Bool} → b ≡ true → b ≡ false → ⊥
clash e d = false≢true (sym d ∙ e)

untrue : (b : Bool) → (b ≡ true → ⊥) → b ≡ false
untrue true n = absurd (n refl)
untrue false n = refl

no_step : {to : Config} → none ≡ some to → ⊥
no_step e = false≢true (ap given e)

not_started : (c : Config) (k : Class) → wants c ≡ false → starts c k ≡ false
not_started c (Tokens.atom a) e = e
not_started c (Tokens.text w) e = e
not_started c Tokens.names e = e
not_started c Tokens.round e = e
not_started c Tokens.curly e = e
not_started c Tokens.square e = e
not_started c (Tokens.mark m) e = refl
not_started c Tokens.later e = e

started : (c : Config) (k : Class) → wants c ≡ true → ((m : Mark) → k ≡ Tokens.mark m → ⊥) → starts c k ≡ true
started c (Tokens.atom a) e n = e
started c (Tokens.text w) e n = e
started c Tokens.names e n = e
started c Tokens.round e n = e
started c Tokens.curly e n = e
started c Tokens.square e n = e
started c (Tokens.mark m) e n = absurd (n m refl)
started c Tokens.later e n = e

unwanted : (c : Config) → ((K : Stack) → c ≡ Frames.want K → ⊥) → wants c ≡ false
unwanted (Frames.want K) n = absurd (n K refl)
unwanted (Frames.have v K) n = refl
unwanted (Frames.want_text m o K) n = refl
unwanted (Frames.want_curly o h s k K) n = refl
unwanted (Frames.want_count c f v k K) n = refl
unwanted (Frames.have_item c f i K) n = refl
unwanted (Frames.want_close c K) n = refl

no_cycle : (f : Frames.Frame) (K : Stack) → f ∷ K ≡ K → ⊥
no_cycle f K e = absurd (omega (arith, ap (λ (x : Stack). length x) e))

abbrev stack_of : Option Config → Stack
stack_of none = []
stack_of (some c) = below c

-- a bracket's end that is no value
not_value : (c to : Config) → inside to ≡ true → held to ≡ false → end_move c to ≡ Move.Shut (style_at (mode_of to)) (role_in c (children to 0))
not_value c (Frames.want K) i h = refl
not_value c (Frames.have v []) i h = absurd (false≢true i)
not_value c (Frames.have v (f ∷ K)) i h = absurd (false≢true (sym h))
not_value c (Frames.want_text n o K) i h = absurd (false≢true i)
not_value c (Frames.want_curly o k s b K) i h = refl
not_value c (Frames.want_count d f v k K) i h = refl
not_value c (Frames.have_item d f t K) i h = refl
not_value c (Frames.want_close x K) i h = refl

abbrev value_of : Value → Option Config → Value
value_of v none = v
value_of v (some (Frames.want K)) = v
value_of v (some (Frames.have w K)) = w
value_of v (some (Frames.want_text n o K)) = v
value_of v (some (Frames.want_curly o h s k K)) = v
value_of v (some (Frames.want_count c f w k K)) = v
value_of v (some (Frames.have_item c f i K)) = v
value_of v (some (Frames.want_close c K)) = v

abbrev first_role : Option Config → Nodes.Role
first_role none = Nodes.root
first_role (some c) = role_at (children c 0) 0

abbrev held_in : Option Config → Bool
held_in none = false
held_in (some c) = held c

abbrev inside_in : Option Config → Bool
inside_in none = false
inside_in (some c) = inside c

module _ (l : Level) (s : Span) where
  -- a literal where a value is wanted is a value
  no_atom : (c : Config) (a : Tokens.Atom) {to : Config} → step l c (tok (Tokens.atom a) s) ≡ some to → inside to ≡ true → held to ≡ false → wants c ≡ false
  no_atom (Frames.want []) a e i h = absurd (false≢true (ap inside_in e ∙ i))
  no_atom (Frames.want (f ∷ K)) a e i h = absurd (clash (sym (ap held_in e)) h)
  no_atom (Frames.have v K) a e i h = refl
  no_atom (Frames.want_text n o K) a e i h = refl
  no_atom (Frames.want_curly o k t b K) a e i h = refl
  no_atom (Frames.want_count c f v k K) a e i h = refl
  no_atom (Frames.have_item c f t K) a e i h = refl
  no_atom (Frames.want_close x K) a e i h = refl

  -- and `{` begins one
  no_curly : (c : Config) {to : Config} → inside c ≡ true → step l c (tok Tokens.curly s) ≡ some to → below to ≡ below c → wants c ≡ false
  no_curly (Frames.want []) i e b = absurd (false≢true i)
  no_curly (Frames.want (f ∷ K)) i e b = absurd (no_cycle f K (ap stack_of e ∙ b))
  no_curly (Frames.have v K) i e b = refl
  no_curly (Frames.want_text n o K) i e b = refl
  no_curly (Frames.want_curly o k t d K) i e b = refl
  no_curly (Frames.want_count c f v k K) i e b = refl
  no_curly (Frames.have_item c f t K) i e b = refl
  no_curly (Frames.want_close x K) i e b = refl

  -- the comma behind `(name:value` tells that the first value is a name
  no_pair : (o : Span) (p : Plain) (k : Span) (v : Value) (K : Stack) (m : Mark) {to : Config} (r : Role) → flat m ≡ true →
      step l (Frames.have v (Frames.in_round (Frames.pair_colon o p k) ∷ K)) (tok (Tokens.mark m) s) ≡ some to →
      children to 0 ≡ told l (Frames.have v (Frames.in_round (Frames.pair_colon o p k) ∷ K)) (tok (Tokens.mark m) s) r 0 → ⊥
  no_pair o p k v K Tokens.round_close r f e g = false≢true f
  no_pair o p k v K Tokens.curly_close r f e g = false≢true f
  no_pair o p k v K Tokens.square_close r f e g = false≢true f
  no_pair o (Tree.literal a t) k v K Tokens.comma r f e g = no_step e
  no_pair o (Tree.text w t) k v K Tokens.comma r f e g = omega (arith, ap role_number (ap first_role e ∙ ap (λ (ns : List Node). role_at ns 0) g))
  no_pair o (Tree.nesting n) k v K Tokens.comma r f e g = omega (arith, ap role_number (ap first_role e ∙ ap (λ (ns : List Node). role_at ns 0) g))
  no_pair o (Tree.group a w b) k v K Tokens.comma r f e g = no_step e
  no_pair o (Tree.pair a p b w d) k v K Tokens.comma r f e g = no_step e
  no_pair o (Tree.arrowed a w b d x y) k v K Tokens.comma r f e g = no_step e
  no_pair o (Tree.tuple a i b) k v K Tokens.comma r f e g = no_step e
  no_pair o (Tree.lot a i b) k v K Tokens.comma r f e g = no_step e
  no_pair o (Tree.counted a h t x b i d y) k v K Tokens.comma r f e g = no_step e
  no_pair o (Tree.interval a b d) k v K Tokens.comma r f e g = no_step e
  no_pair o p k v K Tokens.colon r f e g = no_step e
  no_pair o p k v K Tokens.right_arrow r f e g = no_step e
  no_pair o p k v K Tokens.left_arrow r f e g = no_step e
  no_pair o p k v K Tokens.dots r f e g = no_step e
  no_pair o p k v K (Tokens.star a b) r f e g = no_step e

  unpaired : (c : Config) (m : Mark) {to : Config} (r : Role) → flat m ≡ true → step l c (tok (Tokens.mark m) s) ≡ some to →
      children to 0 ≡ told l c (tok (Tokens.mark m) s) r 0 → paired c ≡ false
  unpaired (Frames.want K) m r f e g = refl
  unpaired (Frames.have v []) m r f e g = refl
  unpaired (Frames.have v (Frames.in_round (Frames.opened o) ∷ K)) m r f e g = refl
  unpaired (Frames.have v (Frames.in_round (Frames.pair_colon o p k) ∷ K)) m r f e g = absurd (no_pair o p k v K m r f e g)
  unpaired (Frames.have v (Frames.in_round (Frames.pair_arrow o w a k) ∷ K)) m r f e g = refl
  unpaired (Frames.have v (Frames.in_round (Frames.in_tuple o t) ∷ K)) m r f e g = refl
  unpaired (Frames.have v (Frames.in_round (Frames.attribute_name o t n k) ∷ K)) m r f e g = refl
  unpaired (Frames.have v (Frames.Frame.in_curly t ∷ K)) m r f e g = refl
  unpaired (Frames.have v (Frames.in_square t ∷ K)) m r f e g = refl
  unpaired (Frames.want_text n o K) m r f e g = refl
  unpaired (Frames.want_curly o h t k K) m r f e g = refl
  unpaired (Frames.want_count d t v k K) m r f e g = refl
  unpaired (Frames.have_item d t i K) m r f e g = refl
  unpaired (Frames.want_close x K) m r f e g = refl

  -- a group has the nodes of its value, none more
  no_group : (c : Config) (m : Mark) (r : Role) {kind : NodeKind} {detail : ℕ} → flat m ≡ false →
      Closes l c (tok (Tokens.mark m) s) kind detail (told l c (tok (Tokens.mark m) s) r) → opening c ≡ true → held c ≡ true → ⊥
  no_group (Frames.want K) m r f x o h = false≢true h
  no_group (Frames.have v []) m r f x o h = false≢true h
  no_group (Frames.have v (Frames.in_round (Frames.opened a) ∷ K)) Tokens.round_close r f x o h =
      omega (
        arith,
        ap (λ (w : Value). length (nodes w 0 Nodes.root 0)) (ap (value_of v) x.steps),
        ap (λ (ns : List Node). length ns) (x.members 0 Nodes.root 0),
        roled_length (role_of r) (nodes v 0 Nodes.root 1),
        same_size v 0 0 Nodes.root Nodes.root 0 1,
      )
  no_group (Frames.have v (Frames.in_round (Frames.opened a) ∷ K)) Tokens.curly_close r f x o h = no_step x.steps
  no_group (Frames.have v (Frames.in_round (Frames.opened a) ∷ K)) Tokens.square_close r f x o h = no_step x.steps
  no_group (Frames.have v (Frames.in_round (Frames.opened a) ∷ K)) Tokens.comma r f x o h = false≢true (sym f)
  no_group (Frames.have v (Frames.in_round (Frames.opened a) ∷ K)) Tokens.colon r f x o h = false≢true (sym f)
  no_group (Frames.have v (Frames.in_round (Frames.opened a) ∷ K)) Tokens.right_arrow r f x o h = false≢true (sym f)
  no_group (Frames.have v (Frames.in_round (Frames.opened a) ∷ K)) Tokens.left_arrow r f x o h = false≢true (sym f)
  no_group (Frames.have v (Frames.in_round (Frames.opened a) ∷ K)) Tokens.dots r f x o h = false≢true (sym f)
  no_group (Frames.have v (Frames.in_round (Frames.opened a) ∷ K)) (Tokens.star y z) r f x o h = false≢true (sym f)
  no_group (Frames.have v (Frames.in_round (Frames.pair_colon a p k) ∷ K)) m r f x o h = false≢true o
  no_group (Frames.have v (Frames.in_round (Frames.pair_arrow a w b k) ∷ K)) m r f x o h = false≢true o
  no_group (Frames.have v (Frames.in_round (Frames.in_tuple a t) ∷ K)) m r f x o h = false≢true o
  no_group (Frames.have v (Frames.in_round (Frames.attribute_name a t n k) ∷ K)) m r f x o h = false≢true o
  no_group (Frames.have v (Frames.Frame.in_curly t ∷ K)) m r f x o h = false≢true o
  no_group (Frames.have v (Frames.in_square t ∷ K)) m r f x o h = false≢true o
  no_group (Frames.want_text n a K) m r f x o h = false≢true h
  no_group (Frames.want_curly a t b k K) m r f x o h = false≢true h
  no_group (Frames.want_count d t v k K) m r f x o h = false≢true h
  no_group (Frames.have_item d t i K) m r f x o h = false≢true h
  no_group (Frames.want_close y K) m r f x o h = false≢true h

-- ---- each move

module _ (l : Level) (c : Config) (within : inside c ≡ true) (s : Span) where
  abbrev Back : Class → Move → Type 0
  Back k r = back c k (step l c (tok k s)) ≡ r

  -- no value begins, and the machine goes on
  on : (k : Class) {to : Config} {r : Move} → starts c k ≡ false → step l c (tok k s) ≡ some to → step_move c k to ≡ r → Back k r
  on k a e h =
      ap (λ (b : Bool). pick b (Move.Value (frame_at (mode_of c))) (after c k (step l c (tok k s)))) a
      ∙ ap (after c k) e
      ∙ h

  a_sign : (m : Mark) (b : Bool) {to : Config} {r : Move} → flat m ≡ b → step l c (tok (Tokens.mark m) s) ≡ some to → sign_move b c to ≡ r → Back (Tokens.mark m) r
  a_sign m b {to} f e h = on (Tokens.mark m) refl e (ap (λ (x : Bool). sign_move x c to) f ∙ h)

  to_back : (m : Mark) (mode : Mode) (r : Role) → flat m ≡ true → (held c ≡ false → r ≡ Role.Root) →
      Leads l c (tok (Tokens.mark m) s) mode (told l c (tok (Tokens.mark m) s) r) → Back (Tokens.mark m) (Move.To mode r)
  to_back m mode r f u x =
      a_sign m true f x.steps
      (ap (λ (b : Bool). pick b Move.Tuple (Move.To (mode_of x.to) (role_in c (children x.to 0)))) (unpaired l s c m r f x.steps (x.members 0))
      ∙ (λ i. Move.To (x.mode_is i) (role_in c (x.members 0 i)))
      ∙ ap (Move.To mode) (role_told c r u))

  shut_back : (style : Style) (r : Role) → (held c ≡ false → r ≡ Role.Root) →
      Leads l c (tok (Tokens.mark Tokens.curly_close) s) (Mode.Headed style) (told l c (tok (Tokens.mark Tokens.curly_close) s) r) →
      Back (Tokens.mark Tokens.curly_close) (Move.Shut style r)
  shut_back style r u x =
      a_sign Tokens.curly_close false refl x.steps
      (not_value c x.to x.within x.no_value
      ∙ (λ i. Move.Shut (style_at (x.mode_is i)) (role_in c (x.members 0 i)))
      ∙ ap (Move.Shut style) (role_told c r u))

  close_back : (m : Mark) (kind : NodeKind) (detail : ℕ) (r : Role) → flat m ≡ false → (held c ≡ false → r ≡ Role.Root) →
      Closes l c (tok (Tokens.mark m) s) kind detail (told l c (tok (Tokens.mark m) s) r) → Back (Tokens.mark m) (Move.Close kind detail r)
  close_back m kind detail r f u x =
      a_sign m false f x.steps
      (ungrouped (opening c) (held c) refl refl
      ∙ ap (close_of c) (x.members 0 Nodes.root 0)
      ∙ (λ i. Move.Close (code_kind_lem kind i) detail (role_told c r u i)))
    where
      ungrouped : (a b : Bool) → opening c ≡ a → held c ≡ b →
          pick a (pick b Move.Group (close_of c (nodes x.value 0 Nodes.root 0))) (close_of c (nodes x.value 0 Nodes.root 0)) ≡ close_of c (nodes x.value 0 Nodes.root 0)
      ungrouped true true o h = absurd (no_group l s c m r f x o h)
      ungrouped true false o h = refl
      ungrouped false b o h = refl

  -- the move is what is read back
  read_back : (k : Class) (r : Move) → Does l c (tok k s) r → Back k r
  read_back k (Move.Value frame) x =
      ap (λ (b : Bool). pick b (Move.Value (frame_at (mode_of c))) (after c k (step l c (tok k s)))) (started c k (ap wants x.config_is) x.no_sign)
      ∙ ap (λ (m : Mode). Move.Value (frame_at m)) x.mode_is
  read_back k (Move.To mode r) (g, u, x) =
      subst (λ (k' : Class). Back k' (Move.To mode r)) (sym g.class_is)
      (to_back g.sign mode r g.flat_is u (subst (λ (k' : Class). Leads l c (tok k' s) mode (told l c (tok k' s) r)) g.class_is x))
  read_back k Move.Tuple (g, p, x) =
      subst (λ (k' : Class). Back k' Move.Tuple) (sym g.class_is)
      (a_sign g.sign true g.flat_is (subst (λ (k' : Class). step l c (tok k' s) ≡ some x.to) g.class_is x.steps)
      (ap (λ (b : Bool). pick b Move.Tuple (Move.To (mode_of x.to) (role_in c (children x.to 0)))) (ap paired p.config_is)))
  read_back k (Move.Count style) x =
      let y = x.leads in
      subst (λ (k' : Class). Back k' (Move.Count style)) (sym x.class_is)
      (let e = subst (λ (k' : Class). step l c (tok k' s) ≡ some y.to) x.class_is y.steps in
      on (Tokens.atom x.atom) (no_atom l s c x.atom e y.within y.no_value) e (ap (λ (m : Mode). Move.Count (style_at m)) y.mode_is))
  read_back k (Move.Deeper style) (q, y) =
      subst (λ (k' : Class). Back k' (Move.Deeper style)) (sym q)
      (let e = subst (λ (k' : Class). step l c (tok k' s) ≡ some y.to) q y.steps in
      on Tokens.curly (no_curly l s c within e y.stack_is) e (ap (λ (m : Mode). Move.Deeper (style_at m)) y.mode_is))
  read_back k (Move.Shut style r) (q, u, x) =
      subst (λ (k' : Class). Back k' (Move.Shut style r)) (sym q)
      (shut_back style r u (subst (λ (k' : Class). Leads l c (tok k' s) (Mode.Headed style) (told l c (tok k' s) r)) q x))
  read_back k (Move.Close kind detail r) (g, u, x) =
      subst (λ (k' : Class). Back k' (Move.Close kind detail r)) (sym g.class_is)
      (close_back g.sign kind detail r g.flat_is u (subst (λ (k' : Class). Closes l c (tok k' s) kind detail (told l c (tok k' s) r)) g.class_is x))
  read_back k Move.Group x =
      subst (λ (k' : Class). Back k' Move.Group) (sym x.class_is)
      (subst (λ (d : Config). back d (Tokens.mark Tokens.round_close) (step l d (tok (Tokens.mark Tokens.round_close) s)) ≡ Move.Group) (sym x.config_is) refl)
  read_back k Move.Wrong (e, w) =
      ap (λ (b : Bool). pick b (Move.Value (frame_at (mode_of c))) (after c k (step l c (tok k s)))) (⊎_elim (λ n. not_started c k (unwanted c n)) (λ y. ap (starts c) y.1) w)
      ∙ ap (after c k) e

-- inside a bracket a token does one move
pub one_does : (l : Level) (c : Config) (k : Class) (s : Span) → inside c ≡ true → {r r' : Move} → Does l c (tok k s) r → Does l c (tok k s) r' → r ≡ r'
one_does l c k s i {r} {r'} x y = sym (read_back l c i s k r x) ∙ read_back l c i s k r' y

-- so the contract of a move determines it, for each mode that a configuration has where the token is asked about
pub one_move : {forms : Forms} {mode : Mode} {kind : Kind} {r r' : Move} (c : Config) → mode_of c ≡ mode → Asked c kind →
    Moves forms mode kind r → Moves forms mode kind r' → r ≡ r'
one_move {forms} {kind = kind} c m a x y =
    let at : Span = record { first = 0; end = 0 } in one_does (level_of forms) c (class_kind kind) at a.within (x.does c m a at) (y.does c m a at)
