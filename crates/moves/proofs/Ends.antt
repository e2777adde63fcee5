-- Behind a value: the bracket's end, and a comma. Assumes nothing.
use mathlib.Core.Path.{◌≡◌, refl, sym, ap, ◌∙◌}
use mathlib.Core.List.{◌∷◌}
use mathlib.Core.Option.{Option, none, some}
use Prim.Native.Nat.{ℕ, ◌+◌}
use Rattle.grammar.specs.Tokens
use Rattle.grammar.specs.Tokens.{Span, tok, Mark}
use Rattle.grammar.specs.Tree
use Rattle.grammar.specs.Tree.{PlainName, array, set, bag, Side, less, less_equal, Style, Value, Plain}
use Rattle.grammar.specs.Level.{Level}
use Rattle.grammar.specs.Nodes as Nodes
use Rattle.grammar.specs.Nodes.{both, nodes, nodes_plain, nodes_plain_name, nodes_name, between_detail, over, branch}
use Rattle.grammar.proofs.Frames.{Lead, lead_comma, lead_row, Front, row, Curly, lot_curly, counted_curly, RoundFrame, opened, pair_colon, pair_arrow, in_tuple, attribute_name, CurlyFrame, member_joined, SquareFrame, square_opened, low_and, up_to, Frame, in_round, in_square, Stack, have, next_attribute, last_attribute, next_item, last_item, plain_name_of}
use Rattle.grammar.proofs.Machine as Machine
use Rattle.moves.specs.declared.NodeKind.{NodeKind}
use Rattle.moves.specs.declared.Role.{Role}
use Rattle.moves.specs.declared.RoundFrame.TheVariants as Round
use Rattle.moves.specs.declared.Move.{Move}
use Rattle.moves.proofs.Model as Model
use Rattle.moves.specs.Means.{role_of, given, pointing, joining, style_of, round_of, curly_of, square_of, up_to_detail, leading, fronted, then}
use Rattle.moves.specs.Effects.{Does}
use Rattle.moves.proofs.Members.{last_listed, next_listed, last_attribute_lem, next_attribute_lem, told_behind, told_first, told_second, NamedBy, named_by, told_both, right_role, joined_role}
use Rattle.moves.proofs.Steps.{any_role, wrong, wanting, onward, closes, shuts}

-- the role of a member by itself
alone_role_of : {y : Style} (c : Curly y) → role_of (Model.alone_role_of (style_of c)) ≡ Nodes.alone_role_of y
alone_role_of (lot_curly o) = refl
alone_role_of (counted_curly o array t k b) = refl
alone_role_of (counted_curly o set t k b) = refl
alone_role_of (counted_curly o bag t k b) = refl

-- ---- the nodes of a last item, before and after its role is told

alone_in : {y : Style} (c : Curly y) (f : Front y) (v : Value) (i : ℕ) →
    then (fronted f i) i (nodes v i (Nodes.alone_role_of y)) ≡ then (fronted f i) i (nodes v i (role_of (Model.alone_role_of (style_of c))))
alone_in c f v i = ap (λ (r : Nodes.Role). then (fronted f i) i (nodes v i r)) (sym (alone_role_of c))

joined_in : (f : Front Tree.member) (w : Value) (j : Tree.Joiner) (v : Value) (i : ℕ) →
    then (fronted f i) i (both (nodes w i (Nodes.joiner_left j)) (nodes v i (Nodes.joiner_right j)))
    ≡ then (fronted f i) i (both (nodes w i (Nodes.joiner_left j)) (nodes v i (role_of (Model.right_role_of (joining j)))))
joined_in f w j v i = ap (λ (r : Nodes.Role). then (fronted f i) i (both (nodes w i (Nodes.joiner_left j)) (nodes v i r))) (sym (joined_role j))

arrowed_in : (w : Value) (a : Tree.Arrow) (v : Value) (i : ℕ) →
    then (nodes w i (Nodes.left_role_of a) (i + 1)) i (nodes v i (Nodes.right_role_of a))
    ≡ then (nodes w i (Nodes.left_role_of a) (i + 1)) i (nodes v i (role_of (Model.right_role_of (pointing a))))
arrowed_in w a v i = ap (λ (r : Nodes.Role). then (nodes w i (Nodes.left_role_of a) (i + 1)) i (nodes v i r)) (sym (right_role a))

module _ (l : Level) where
  abbrev Takes : Value → Frame → Stack → Mark → Span → Move → Type 0
  Takes v f K m s x = Does l (have v (f ∷ K)) (tok (Tokens.mark m) s) x

  -- ---- the bracket's end

  close_tuple : (o : Span) (f : Lead) (v : Value) (s : Span) (K : Stack) → Takes v (in_round (in_tuple o f)) K Tokens.round_close s (Move.Close NodeKind.Tuple 0 Role.Value)
  close_tuple o f v s K =
      closes l _ Tokens.round_close s Role.Value (Tree.plain (Tree.tuple o (last_attribute f (Tree.alone v)) s)) NodeKind.Tuple 0 refl (any_role _) refl refl
      λ p q i x. branch Nodes.a_tuple (over o s) p q 0 ((last_attribute_lem f (Tree.alone v) i ∙ sym (told_behind (leading f i) v Nodes.value i)) x)

  pub does_close_round : (f : RoundFrame) (v : Value) (s : Span) (K : Stack) → Takes v (in_round f) K Tokens.round_close s (Model.close_round (round_of f))
  does_close_round (opened o) v s K = record { first = o; value = v; stack = K; config_is = refl; class_is = refl }
  does_close_round (pair_colon o p k) v s K =
      closes l _ Tokens.round_close s Role.ThatAfter (Tree.plain (Tree.pair o p k v s)) NodeKind.Pair 0 refl (any_role _) refl refl
      λ z q i x. branch Nodes.a_pair (over o s) z q 0 (sym (told_behind (nodes_plain p i Nodes.this (i + 1)) v Nodes.that_after i) x)
  does_close_round (pair_arrow o w a k) v s K =
      closes l _ Tokens.round_close s (Model.right_role_of (pointing a)) (Tree.plain (Tree.arrowed o w a k v s)) NodeKind.Pair 0 refl (any_role _) refl refl
      λ p q i x. branch Nodes.a_pair (over o s) p q 0 ((arrowed_in w a v i ∙ sym (told_behind (nodes w i (Nodes.left_role_of a) (i + 1)) v _ i)) x)
  does_close_round (in_tuple o (lead_comma b)) v s K = close_tuple o (lead_comma b) v s K
  does_close_round (in_tuple o (lead_row r)) v s K = close_tuple o (lead_row r) v s K
  does_close_round (attribute_name o f n k) v s K =
      closes l _ Tokens.round_close s Role.Value (Tree.plain (Tree.tuple o (last_attribute f (Tree.named n k v)) s)) NodeKind.Tuple 0 refl (any_role _) refl refl
      λ p q i x.
      branch Nodes.a_tuple (over o s) p q 0
      ((last_attribute_lem f (Tree.named n k v) i ∙ sym (told_second (leading f i) (λ j. nodes_name n i Nodes.name) v Nodes.value i)) x)

  pub does_close_curly : (f : CurlyFrame) (v : Value) (s : Span) (K : Stack) → Takes v (Frame.in_curly f) K Tokens.curly_close s (Model.close_curly (curly_of f))
  does_close_curly (CurlyFrame.in_curly c f) v s K =
      shuts l c _ s (Model.alone_role_of (style_of c)) (last_item f (Tree.alone v)) (any_role _) refl refl
      λ i. last_listed f (Tree.alone v) i ∙ alone_in c f v i ∙ sym (told_behind (fronted f i) v _ i)
  does_close_curly (member_joined o f w j k) v s K =
      shuts l (lot_curly o) _ s (Model.right_role_of (joining j)) (last_item f (Tree.joined w j k v)) (any_role _) refl refl
      λ i. last_listed f (Tree.joined w j k v) i ∙ joined_in f w j v i ∙ sym (told_second (fronted f i) (nodes w i (Nodes.joiner_left j)) v _ i)

  close_up_to : (o : Span) (a : Side) (k : Span) (v : Value) (s : Span) (K : Stack) →
      Takes v (in_square (up_to o a k)) K Tokens.square_close s (Move.Close NodeKind.Interval (up_to_detail a) Role.High)
  close_up_to o less k v s K =
      closes l _ Tokens.square_close s Role.High (Tree.plain (Tree.interval o (Tree.up_to less k v) s)) NodeKind.Interval 9 refl (any_role _) refl refl
      λ p q i x. branch Nodes.an_interval (over o s) p q 9 (sym (told_first v Nodes.high i) x)
  close_up_to o less_equal k v s K =
      closes l _ Tokens.square_close s Role.High (Tree.plain (Tree.interval o (Tree.up_to less_equal k v) s)) NodeKind.Interval 8 refl (any_role _) refl refl
      λ p q i x. branch Nodes.an_interval (over o s) p q 8 (sym (told_first v Nodes.high i) x)

  pub does_close_square : (f : SquareFrame) (v : Value) (s : Span) (K : Stack) → Takes v (in_square f) K Tokens.square_close s (Model.close_square (square_of f))
  does_close_square (square_opened o) v s K =
      closes l _ Tokens.square_close s Role.Single (Tree.plain (Tree.interval o (Tree.single v) s)) NodeKind.Interval 1 refl (any_role _) refl refl
      λ p q i x. branch Nodes.an_interval (over o s) p q 1 (sym (told_first v Nodes.single i) x)
  does_close_square (low_and o w b k) v s K =
      closes l _ Tokens.square_close s Role.High (Tree.plain (Tree.interval o (Tree.between w b k v) s)) NodeKind.Interval (between_detail b)
      refl (any_role _) refl refl
      λ p q i x. branch Nodes.an_interval (over o s) p q (between_detail b) (sym (told_behind (nodes w i Nodes.low (i + 1)) v Nodes.high i) x)
  does_close_square (up_to o a k) v s K = close_up_to o a k v s K

  -- ---- a comma

  -- a name, its `:` and a value turn out an attribute
  does_comma_pair : (p : Plain) (n : Option PlainName) → plain_name_of p ≡ n → NamedBy p n → (o k : Span) (v : Value) (s : Span) (K : Stack) →
      Takes v (in_round (pair_colon o p k)) K Tokens.comma s (Model.comma_pair_of (given n))
  does_comma_pair p none e g o k v s K = wrong l _ _ s (λ e. e) (ap (λ (x : Option PlainName). Machine.comma_pair_of x o k v s K) e)
  does_comma_pair p (some n) e g o k v s K = (
    record { sign = Tokens.comma; class_is = refl; flat_is = refl },
    record { first = o; name = p; colon = k; value = v; stack = K; config_is = refl },
    wanting l _ _ (in_round (in_tuple o (lead_row (Tree.row_first (Tree.open_named n k v) s)))) _ refl
        (ap (λ (x : Option PlainName). Machine.comma_pair_of x o k v s K) e) refl
        λ i. sym (told_both (nodes_plain p i Nodes.this (i + 1)) (nodes_plain_name n i Nodes.name) v i (g i (i + 1) Nodes.this Nodes.name)),
  )

  comma_tuple : (o : Span) (f : Lead) (v : Value) (s : Span) (K : Stack) → Takes v (in_round (in_tuple o f)) K Tokens.comma s (Model.round Round.Row Role.Value)
  comma_tuple o f v s K =
      onward l _ Tokens.comma s Role.Value (in_round (in_tuple o (lead_row (next_attribute f (Tree.alone v) s)))) refl (any_role _) refl refl refl
      λ i. next_attribute_lem f (Tree.alone v) s i ∙ sym (told_behind (leading f i) v Nodes.value i)

  pub does_comma_round : (f : RoundFrame) (v : Value) (s : Span) (K : Stack) → Takes v (in_round f) K Tokens.comma s (Model.comma_round (round_of f))
  does_comma_round (opened o) v s K =
      onward l _ Tokens.comma s Role.Value (in_round (in_tuple o (lead_row (Tree.row_first (Tree.alone v) s)))) refl (any_role _) refl refl refl
      λ i. sym (told_first v Nodes.value i)
  does_comma_round (pair_colon o p k) v s K = does_comma_pair p (plain_name_of p) refl (named_by p) o k v s K
  does_comma_round (pair_arrow o w a k) v s K = wrong l _ _ s (λ e. e) refl
  does_comma_round (in_tuple o (lead_comma b)) v s K = comma_tuple o (lead_comma b) v s K
  does_comma_round (in_tuple o (lead_row r)) v s K = comma_tuple o (lead_row r) v s K
  does_comma_round (attribute_name o f n k) v s K =
      onward l _ Tokens.comma s Role.Value (in_round (in_tuple o (lead_row (next_attribute f (Tree.named n k v) s)))) refl (any_role _) refl refl refl
      λ i. next_attribute_lem f (Tree.named n k v) s i ∙ sym (told_second (leading f i) (λ j. nodes_name n i Nodes.name) v Nodes.value i)

  pub does_comma_curly : (f : CurlyFrame) (v : Value) (s : Span) (K : Stack) → Takes v (Frame.in_curly f) K Tokens.comma s (Model.comma_curly (curly_of f))
  does_comma_curly (CurlyFrame.in_curly c f) v s K =
      onward l _ Tokens.comma s (Model.alone_role_of (style_of c)) (Frame.in_curly (CurlyFrame.in_curly c (row (next_item f (Tree.alone v) s))))
      refl (any_role _) refl refl refl
      λ i. next_listed f (Tree.alone v) s i ∙ alone_in c f v i ∙ sym (told_behind (fronted f i) v _ i)
  does_comma_curly (member_joined o f w j k) v s K =
      onward l _ Tokens.comma s (Model.right_role_of (joining j)) (Frame.in_curly (CurlyFrame.in_curly (lot_curly o) (row (next_item f (Tree.joined w j k v) s))))
      refl (any_role _) refl refl refl
      λ i. next_listed f (Tree.joined w j k v) s i ∙ joined_in f w j v i ∙ sym (told_second (fronted f i) (nodes w i (Nodes.joiner_left j)) v _ i)
