-- The common effects: a token that cannot be taken, a sign that leads on, the end of a bracket. Assumes nothing.
use mathlib.Core.Path.{◌≡◌, refl, sym, ap, subst, ◌∙◌}
use mathlib.Core.Bool.{true, false, false≢true}
use mathlib.Core.List.{List, ◌∷◌, append-nil}
use mathlib.Core.Option.{none, some}
use mathlib.Core.Logic.{inl, inr}
use Prim.Native.Nat.{ℕ, ◌+◌, ◌≤◌}
use lib.ListN.{length}
use Rattle.grammar.specs.Tokens
use Rattle.grammar.specs.Tokens.{Span, Tok, tok, Mark, Class}
use Rattle.grammar.specs.Tree
use Rattle.grammar.specs.Tree.{Style, Value, Listing}
use Rattle.grammar.specs.Level.{Level}
use Rattle.grammar.specs.Nodes as Nodes
use Rattle.grammar.specs.Nodes.{Node, nodes, nodes_listing, over, branch}
use Rattle.grammar.proofs.Frames as Frames
use Rattle.grammar.proofs.Frames.{Config, want, have, want_close, Stack, Closing}
use Rattle.grammar.proofs.Machine.{step}
use Rattle.grammar.proofs.NodeLaws.{some_node}
use Rattle.moves.specs.declared.NodeKind.{NodeKind}
use Rattle.moves.specs.declared.Role.{Role}
use Rattle.moves.specs.declared.Shape.TheVariants as Shape
use Rattle.moves.specs.declared.Mode.{Mode}
use Rattle.moves.specs.declared.Move.TheVariants as Move
use Rattle.moves.proofs.Model as Model
use Rattle.moves.specs.Means.{node_kind_of, shape_of, style_of, frame_of, mode_of, curly_span, frame_span, open_of, below, framed, before}
use Rattle.moves.specs.Effects.{flat, opening_frame, held, Unheld, Leads, Paired, told, Does}

-- where a value is wanted
abbrev pub Wants : Config → Type 0
Wants (Frames.want K) = Unit
Wants (Frames.have v K) = ⊥
Wants (Frames.want_text n o K) = ⊥
Wants (Frames.want_curly o h s k K) = ⊥
Wants (Frames.want_count c f v k K) = ⊥
Wants (Frames.have_item c f i K) = ⊥
Wants (Frames.want_close c K) = ⊥

abbrev pub IsMark : Class → Type 0
IsMark (Tokens.atom a) = ⊥
IsMark (Tokens.text w) = ⊥
IsMark Tokens.names = ⊥
IsMark Tokens.round = ⊥
IsMark Tokens.curly = ⊥
IsMark Tokens.square = ⊥
IsMark (Tokens.mark m) = Unit
IsMark Tokens.later = ⊥

-- behind `(`, a value, `:` and another value: that one was just read, and the first has a node
pub paired_held : {l : Level} {c : Config} {t : Tok} → Paired l c t → held c ≡ true
paired_held p = ap held p.config_is

pub paired_named : {l : Level} {c : Config} {t : Tok} → Paired l c t → (i : ℕ) → 1 ≤ length (before c i)
paired_named p i = subst (λ (x : Config). 1 ≤ length (before x i)) (sym p.config_is) (some_node (Tree.plain p.name) i Nodes.this (i + 1))

-- where a value was just read any role may be told
pub any_role : (r : Role) → true ≡ false → r ≡ Role.Root
any_role r e = absurd (false≢true (sym e))

module _ (l : Level) where
  -- a value begins
  pub begins : (f : Frames.Frame) (K : Stack) (k : Class) (s : Span) → (IsMark k → ⊥) → Does l (want (f ∷ K)) (tok k s) (Move.Value (frame_of f))
  begins f K k s n = record { top = f; stack = K; config_is = refl; mode_is = refl; no_sign = λ m e. n (subst IsMark (sym e) tt) }

  -- behind a value, or where none is wanted
  pub wrong : (c : Config) (k : Class) (s : Span) → (Wants c → ⊥) → step l c (tok k s) ≡ none → Does l c (tok k s) Move.Wrong
  wrong c k s n e = (e, inl (λ K p. n (subst Wants (sym p) tt)))

  pub wrong_sign : (c : Config) (m : Mark) (s : Span) → step l c (tok (Tokens.mark m) s) ≡ none → Does l c (tok (Tokens.mark m) s) Move.Wrong
  wrong_sign c m s e = (e, inr (m, refl))

  -- inside the bracket, with a value wanted
  pub wanting : (c : Config) (t : Tok) (f : Frames.Frame) (then : ℕ → List Node) → opening_frame f ≡ false → step l c t ≡ some (want (f ∷ below c)) →
      frame_span f ≡ open_of c → ((i : ℕ) → framed f i ≡ then i) → Leads l c t (Mode.Want (frame_of f)) then
  wanting c t f then a e o g =
      record {
        to = want (f ∷ below c);
        steps = e;
        within = refl;
        mode_is = refl;
        stack_is = refl;
        open_is = o;
        no_value = refl;
        no_head = refl;
        no_names = refl;
        no_first = a;
        members = λ i. append-nil (framed f i) ∙ g i;
      }

  -- a sign, and then a value is wanted
  pub onward : (c : Config) (m : Mark) (s : Span) (r : Role) (f : Frames.Frame) → flat m ≡ true →
      Unheld l c (tok (Tokens.mark m) s) r → opening_frame f ≡ false → step l c (tok (Tokens.mark m) s) ≡ some (want (f ∷ below c)) → frame_span f ≡ open_of c →
      ((i : ℕ) → framed f i ≡ told l c (tok (Tokens.mark m) s) r i) → Does l c (tok (Tokens.mark m) s) (Move.To (Mode.Want (frame_of f)) r)
  onward c m s r f a u b e o g = (record { sign = m; class_is = refl; flat_is = a }, u, wanting c _ f _ b e o g)

  -- the end of a bracket
  pub closes : (c : Config) (m : Mark) (s : Span) (r : Role) (v : Value) (k : NodeKind) (d : ℕ) → flat m ≡ false → Unheld l c (tok (Tokens.mark m) s) r →
      shape_of v ≡ Shape.Other → step l c (tok (Tokens.mark m) s) ≡ some (have v (below c)) →
      ((p : ℕ) (q : Nodes.Role) (i : ℕ) → nodes v p q i ≡ branch (node_kind_of k) (over (open_of c) s) p q d (told l c (tok (Tokens.mark m) s) r i)) →
      Does l c (tok (Tokens.mark m) s) (Move.Close k d r)
  closes c m s r v k d a u b e g =
      (record { sign = m; class_is = refl; flat_is = a }, u, record { value = v; steps = e; shape_is = b; members = g })

  -- where one closing bracket alone may follow
  pub closing : (c : Config) (t : Tok) (x : Closing) (then : ℕ → List Node) → step l c t ≡ some (want_close x (below c)) →
      open_of (want_close x (below c)) ≡ open_of c → ((i : ℕ) → before (want_close x (below c)) i ≡ then i) → Leads l c t (mode_of (want_close x (below c))) then
  closing c t x then e o g =
      record {
        to = want_close x (below c);
        steps = e;
        within = refl;
        mode_is = refl;
        stack_is = refl;
        open_is = o;
        no_value = refl;
        no_head = refl;
        no_names = refl;
        no_first = refl;
        members = λ i. append-nil (before (want_close x (below c)) i) ∙ g i;
      }

  -- `}`
  pub shuts : {y : Style} (b : Frames.Curly y) (c : Config) (s : Span) (r : Role) (i : Listing y) → Unheld l c (tok (Tokens.mark Tokens.curly_close) s) r →
      step l c (tok (Tokens.mark Tokens.curly_close) s) ≡ some (Frames.shut b i s (below c)) → curly_span b ≡ open_of c →
      ((j : ℕ) → nodes_listing i j (j + 1) ≡ told l c (tok (Tokens.mark Tokens.curly_close) s) r j) →
      Does l c (tok (Tokens.mark Tokens.curly_close) s) (Model.shut (style_of b) r)
  shuts (Frames.lot_curly o) c s r i u e a g =
      closes c Tokens.curly_close s r (Tree.plain (Tree.lot o i s)) NodeKind.Lot 0 refl u refl e λ p q j x. branch Nodes.a_lot (over (a x) s) p q 0 (g j x)
  shuts (Frames.counted_curly o Tree.array t k b) c s r i u e a g = (refl, u, closing c _ (Frames.headed o Tree.array t k b i s) _ e a g)
  shuts (Frames.counted_curly o Tree.set t k b) c s r i u e a g = (refl, u, closing c _ (Frames.headed o Tree.set t k b i s) _ e a g)
  shuts (Frames.counted_curly o Tree.bag t k b) c s r i u e a g = (refl, u, closing c _ (Frames.headed o Tree.bag t k b i s) _ e a g)
