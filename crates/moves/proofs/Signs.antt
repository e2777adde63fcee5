-- Behind a value: a colon, an arrow, the signs of an Interval. Assumes nothing.
use mathlib.Core.Path.{◌≡◌, refl, sym, ap, subst, ◌∙◌}
use mathlib.Core.Bool.{Bool, true, false}
use mathlib.Core.List.{List, ◌∷◌, ◌++◌, append-nil}
use mathlib.Core.Option.{Option, none, some}
use Prim.Native.Nat.{ℕ, ◌+◌}
use Rattle.lexicon.specs.declared.Bound.{Bound}
use Rattle.lexicon.specs.declared.Bound.TheVariants.{Open, Less, LessEqual}
use Rattle.grammar.specs.Tokens
use Rattle.grammar.specs.Tokens.{Span, tok, Mark}
use Rattle.grammar.specs.Tree
use Rattle.grammar.specs.Tree.{PlainName, Arrow, array, set, bag, Side, less, less_equal, Between, star_sign, Style, Value, Plain}
use Rattle.grammar.specs.Level as Level
use Rattle.grammar.specs.Nodes as Nodes
use Rattle.grammar.specs.Nodes.{Node, nodes, between_detail, bounds_detail}
use Rattle.grammar.proofs.Frames.{Lead, lead_comma, lead_row, Front, Curly, lot_curly, counted_curly, RoundFrame, opened, pair_colon, pair_arrow, in_tuple, attribute_name, CurlyFrame, member_joined, SquareFrame, square_opened, low_and, up_to, Frame, in_round, in_square, Stack, bounded, want, have, want_count, plain_name_of, as_name}
use Rattle.grammar.proofs.Machine as Machine
use Rattle.grammar.proofs.Machine.{step}
use Rattle.moves.specs.declared.Forms.{Forms}
use Rattle.moves.specs.declared.Role.{Role}
use Rattle.moves.specs.declared.RoundFrame.TheVariants as Round
use Rattle.moves.specs.declared.Mode.TheVariants as Mode
use Rattle.moves.specs.declared.Move.{Move}
use Rattle.moves.proofs.Model as Model
use Rattle.moves.specs.Means.{level_of, given, name_shape, shape_of, pointing, style_of, round_of, curly_of, square_of, frame_of, frame_span, framed, leading, fronted, then}
use Rattle.moves.specs.Effects.{flat, head_bare, opening_frame, told, Does}
use Rattle.moves.proofs.Members.{told_behind, told_first, NamedBy, named_by, left_role}
use Rattle.moves.proofs.Steps.{any_role, wrong, onward, closing}

module _ (l : Level.Level) where
  abbrev Takes : Value → Frame → Stack → Mark → Span → Move → Type 0
  Takes v f K m s x = Does l (have v (f ∷ K)) (tok (Tokens.mark m) s) x

  -- ---- a colon

  first_colon : (p : Plain) (o s : Span) (K : Stack) →
      Takes (Tree.plain p) (in_round (opened o)) K Tokens.colon s (Model.round (Round.Colon (given (plain_name_of p))) Role.This)
  first_colon p o s K =
      onward l _ Tokens.colon s Role.This (in_round (pair_colon o p s)) refl (any_role _) refl refl refl λ i. sym (told_first (Tree.plain p) Nodes.this i)

  does_colon_first : (p : Plain) (b : Bool) → given (plain_name_of p) ≡ b → (o s : Span) (K : Stack) →
      Takes (Tree.plain p) (in_round (opened o)) K Tokens.colon s (Model.colon_first_of (name_shape b))
  does_colon_first p true e o s K =
      subst (λ (x : Bool). Takes (Tree.plain p) (in_round (opened o)) K Tokens.colon s (Model.round (Round.Colon x) Role.This)) e (first_colon p o s K)
  does_colon_first p false e o s K =
      subst (λ (x : Bool). Takes (Tree.plain p) (in_round (opened o)) K Tokens.colon s (Model.round (Round.Colon x) Role.This)) e (first_colon p o s K)

  does_colon_name : (p : Plain) (n : Option PlainName) → plain_name_of p ≡ n → NamedBy p n → (o : Span) (f : Lead) (s : Span) (K : Stack) →
      Takes (Tree.plain p) (in_round (in_tuple o f)) K Tokens.colon s (Model.colon_attribute_of (name_shape (given n)))
  does_colon_name p none e g o f s K = wrong l _ _ s (λ e. e) (ap (λ (x : Option PlainName). Machine.colon_attribute_of (as_name x) o f s K) e)
  does_colon_name p (some n) e g o f s K =
      onward l _ Tokens.colon s Role.Name (in_round (attribute_name o f (Tree.plain_name n) s)) refl (any_role _) refl
      (ap (λ (x : Option PlainName). Machine.colon_attribute_of (as_name x) o f s K) e) refl
      λ i. ap (λ (x : List Node). leading f i ++ x) (sym (g i _ Nodes.root Nodes.name))

  does_colon_attribute : (v : Value) (o : Span) (f : Lead) (s : Span) (K : Stack) →
      Takes v (in_round (in_tuple o f)) K Tokens.colon s (Model.colon_attribute_of (shape_of v))
  does_colon_attribute (Tree.plain p) o f s K = does_colon_name p (plain_name_of p) refl (named_by p) o f s K
  does_colon_attribute (Tree.bare h t) o f s K =
      onward l _ Tokens.colon s Role.Name (in_round (attribute_name o f (Tree.bare_name h t) s)) refl (any_role _) refl refl refl λ i. refl

  pub does_colon_round : (f : RoundFrame) (v : Value) (s : Span) (K : Stack) → (head_bare (have v (in_round f ∷ K)) ≡ true → ⊥) →
      Takes v (in_round f) K Tokens.colon s (Model.colon_round (round_of f) (shape_of v))
  does_colon_round (opened o) (Tree.plain p) s K n = does_colon_first p (given (plain_name_of p)) refl o s K
  does_colon_round (opened o) (Tree.bare h t) s K n = absurd (n refl)
  does_colon_round (pair_colon o p k) v s K n = wrong l _ _ s (λ e. e) refl
  does_colon_round (pair_arrow o w a k) v s K n = wrong l _ _ s (λ e. e) refl
  does_colon_round (in_tuple o (lead_comma b)) v s K n = does_colon_attribute v o (lead_comma b) s K
  does_colon_round (in_tuple o (lead_row r)) v s K n = does_colon_attribute v o (lead_row r) s K
  does_colon_round (attribute_name o f m k) v s K n = wrong l _ _ s (λ e. e) refl

  -- a count follows
  counting : {u : Tree.Measure} (c : Curly (Tree.copy u)) (f : Front (Tree.copy u)) (v : Value) (s : Span) (K : Stack) →
      step l (have v (Frame.in_curly (CurlyFrame.in_curly c f) ∷ K)) (tok (Tokens.mark Tokens.colon) s) ≡ some (want_count c f v s K) →
      Takes v (Frame.in_curly (CurlyFrame.in_curly c f)) K Tokens.colon s (Move.To (Mode.Count (style_of c)) Role.Value)
  counting c f v s K e = (
    record { sign = Tokens.colon; class_is = refl; flat_is = refl },
    any_role _,
    record {
      to = want_count c f v s K;
      steps = e;
      within = refl;
      mode_is = refl;
      stack_is = refl;
      open_is = refl;
      no_value = refl;
      no_head = refl;
      no_names = refl;
      no_first = refl;
      members = λ i. append-nil _ ∙ sym (told_behind (fronted f i) v Nodes.value i);
    },
  )

  does_colon_in : {y : Style} (c : Curly y) (f : Front y) (v : Value) (s : Span) (K : Stack) →
      Takes v (Frame.in_curly (CurlyFrame.in_curly c f)) K Tokens.colon s (Model.colon_in (style_of c))
  does_colon_in (lot_curly o) f v s K =
      onward l _ Tokens.colon s Role.This (Frame.in_curly (member_joined o f v Tree.colon s)) refl (any_role _) refl refl refl
      λ i. sym (told_behind (fronted f i) v Nodes.this i)
  does_colon_in (counted_curly o array t k b) f v s K = counting (counted_curly o array t k b) f v s K refl
  does_colon_in (counted_curly o set t k b) f v s K = counting (counted_curly o set t k b) f v s K refl
  does_colon_in (counted_curly o bag t k b) f v s K = counting (counted_curly o bag t k b) f v s K refl

  pub does_colon_curly : (f : CurlyFrame) (v : Value) (s : Span) (K : Stack) → Takes v (Frame.in_curly f) K Tokens.colon s (Model.colon_curly (curly_of f))
  does_colon_curly (CurlyFrame.in_curly c f) v s K = does_colon_in c f v s K
  does_colon_curly (member_joined o f w j k) v s K = wrong l _ _ s (λ e. e) refl

  -- ---- the signs of an Interval; the machine's step is one of them

  pub does_low_sign : (m : Mark) → flat m ≡ true → (f : SquareFrame) (v : Value) (b : Between) (s : Span) (K : Stack) →
      step l (have v (in_square f ∷ K)) (tok (Tokens.mark m) s) ≡ Machine.low_sign f v b s K →
      Takes v (in_square f) K m s (Model.low_sign (square_of f) (between_detail b))
  does_low_sign m a (square_opened o) v b s K e =
      onward l _ m s Role.Low (in_square (low_and o v b s)) a (any_role _) refl e refl λ i. sym (told_first v Nodes.low i)
  does_low_sign m a (low_and o w d k) v b s K e = wrong l _ _ s (λ e. e) e
  does_low_sign m a (up_to o d k) v b s K e = wrong l _ _ s (λ e. e) e

  does_low_open : (m : Mark) → flat m ≡ true → (f : SquareFrame) (v : Value) (d : Side) (s : Span) (K : Stack) →
      step l (have v (in_square f ∷ K)) (tok (Tokens.mark m) s) ≡ Machine.low_open f v d s K →
      Takes v (in_square f) K m s (Model.low_open (square_of f) (bounds_detail (Tree.from v d s)))
  does_low_open m a (square_opened o) v d s K e = (
    record { sign = m; class_is = refl; flat_is = a },
    any_role _,
    closing l _ _ (bounded o (Tree.from v d s)) _ e refl λ i. sym (told_first v Nodes.low i),
  )
  does_low_open m a (low_and o w b k) v d s K e = wrong l _ _ s (λ e. e) e
  does_low_open m a (up_to o b k) v d s K e = wrong l _ _ s (λ e. e) e

  pub does_star_square : (f : SquareFrame) (v : Value) (a b : Bound) (s : Span) (K : Stack) →
      Takes v (in_square f) K (Tokens.star a b) s (Model.star_square (square_of f) a b)
  does_star_square f v Open b s K = wrong l _ _ s (λ e. e) refl
  does_star_square f v Less Open s K = does_low_open _ refl f v less s K refl
  does_star_square f v Less Less s K = does_low_sign _ refl f v (star_sign less less) s K refl
  does_star_square f v Less LessEqual s K = does_low_sign _ refl f v (star_sign less less_equal) s K refl
  does_star_square f v LessEqual Open s K = does_low_open _ refl f v less_equal s K refl
  does_star_square f v LessEqual Less s K = does_low_sign _ refl f v (star_sign less_equal less) s K refl
  does_star_square f v LessEqual LessEqual s K = does_low_sign _ refl f v (star_sign less_equal less_equal) s K refl

-- ---- an arrow, which the level may lack

has_same : (forms : Forms) (a : Arrow) → Level.has_arrow_of (level_of forms) a ≡ Model.has_arrow_of forms (pointing a)
has_same forms Tree.rightward = refl
has_same forms Tree.leftward = refl

module _ (forms : Forms) where
  -- the step, if the level has the arrow
  does_when : (b : Bool) (v : Value) (f : Frame) (K : Stack) (m : Mark) (s : Span) (r : Role) (g : Frame) → flat m ≡ true →
      step (level_of forms) (have v (f ∷ K)) (tok (Tokens.mark m) s) ≡ Machine.when b (want (g ∷ K)) → opening_frame g ≡ false → frame_span g ≡ frame_span f →
      ((i : ℕ) → framed g i ≡ told (level_of forms) (have v (f ∷ K)) (tok (Tokens.mark m) s) r i) →
      Takes (level_of forms) v f K m s (Model.when b (Move.To (Mode.Want (frame_of g)) r))
  does_when true v f K m s r g a e n o h = onward (level_of forms) (have v (f ∷ K)) m s r g a (any_role r) n e o h
  does_when false v f K m s r g a e n o h = wrong (level_of forms) (have v (f ∷ K)) _ s (λ e. e) e

  pub does_arrow_round : (m : Mark) → flat m ≡ true → (a : Arrow) (f : RoundFrame) (v : Value) (s : Span) (K : Stack) →
      step (level_of forms) (have v (in_round f ∷ K)) (tok (Tokens.mark m) s) ≡ Machine.arrow_round (level_of forms) f v a s K →
      Takes (level_of forms) v (in_round f) K m s (Model.arrow_round forms (round_of f) (pointing a))
  does_arrow_round m b a (opened o) v s K e =
      does_when (Model.has_arrow_of forms (pointing a)) v (in_round (opened o)) K m s (Model.left_role_of (pointing a)) (in_round (pair_arrow o v a s)) b
      (e ∙ ap (λ (x : Bool). Machine.when x (Machine.round (pair_arrow o v a s) K)) (has_same forms a)) refl refl
      λ i. ap (λ (r : Nodes.Role). nodes v i r (i + 1)) (sym (left_role a)) ∙ sym (told_first v _ i)
  does_arrow_round m b a (pair_colon o p k) v s K e = wrong (level_of forms) _ _ s (λ e. e) e
  does_arrow_round m b a (pair_arrow o w d k) v s K e = wrong (level_of forms) _ _ s (λ e. e) e
  does_arrow_round m b a (in_tuple o (lead_comma d)) v s K e = wrong (level_of forms) _ _ s (λ e. e) e
  does_arrow_round m b a (in_tuple o (lead_row r)) v s K e = wrong (level_of forms) _ _ s (λ e. e) e
  does_arrow_round m b a (attribute_name o f n k) v s K e = wrong (level_of forms) _ _ s (λ e. e) e

  does_arrow_in : (m : Mark) → flat m ≡ true → (a : Arrow) {y : Style} (c : Curly y) (f : Front y) (v : Value) (s : Span) (K : Stack) →
      step (level_of forms) (have v (Frame.in_curly (CurlyFrame.in_curly c f) ∷ K)) (tok (Tokens.mark m) s) ≡ Machine.arrow_in (level_of forms) c f v a s K →
      Takes (level_of forms) v (Frame.in_curly (CurlyFrame.in_curly c f)) K m s (Model.arrow_in forms (style_of c) (pointing a))
  does_arrow_in m b a (lot_curly o) f v s K e =
      does_when (Model.has_arrow_of forms (pointing a)) v (Frame.in_curly (CurlyFrame.in_curly (lot_curly o) f)) K m s (Model.left_role_of (pointing a))
      (Frame.in_curly (member_joined o f v (Tree.arrow a) s)) b
      (e ∙ ap (λ (x : Bool). Machine.when x (Machine.joined o f v (Tree.arrow a) s K)) (has_same forms a)) refl refl
      λ i. ap (λ (r : Nodes.Role). then (fronted f i) i (nodes v i r)) (sym (left_role a)) ∙ sym (told_behind (fronted f i) v _ i)
  does_arrow_in m b a (counted_curly o array t k d) f v s K e = wrong (level_of forms) _ _ s (λ e. e) e
  does_arrow_in m b a (counted_curly o set t k d) f v s K e = wrong (level_of forms) _ _ s (λ e. e) e
  does_arrow_in m b a (counted_curly o bag t k d) f v s K e = wrong (level_of forms) _ _ s (λ e. e) e

  pub does_arrow_curly : (m : Mark) → flat m ≡ true → (a : Arrow) (f : CurlyFrame) (v : Value) (s : Span) (K : Stack) →
      step (level_of forms) (have v (Frame.in_curly f ∷ K)) (tok (Tokens.mark m) s) ≡ Machine.arrow_curly (level_of forms) f v a s K →
      Takes (level_of forms) v (Frame.in_curly f) K m s (Model.arrow_curly forms (curly_of f) (pointing a))
  does_arrow_curly m b a (CurlyFrame.in_curly c f) v s K e = does_arrow_in m b a c f v s K e
  does_arrow_curly m b a (member_joined o f w j k) v s K e = wrong (level_of forms) _ _ s (λ e. e) e
