-- Soundness: a step adds its token to what the configuration stands for, and leaves the level. Assumes nothing.
use mathlib.Core.Path.{◌≡◌, refl, sym, ap, ◌∙◌}
use mathlib.Core.Bool.{Bool, true, false, ◌&&◌, and-true}
use mathlib.Core.List.{List, [], ◌∷◌}
use mathlib.Core.Option.{Option, none, some}
use Rattle.lexicon.specs.declared.Bound.{Bound}
use Rattle.lexicon.specs.declared.Bound.TheVariants.{Open, Less, LessEqual}
use Rattle.lexicon.specs.declared.Head.{Head}
use Rattle.grammar.specs.Tokens
use Rattle.grammar.specs.Tokens.{Span, Tok, tok, Mark, Class, Atom, spelled, head_word}
use Rattle.grammar.specs.Tree
use Rattle.grammar.specs.Tree.{Names, Arrow, rightward, leftward, Collection, Measure, by_number, by_truth, Side, less, less_equal, Between, two_dots, star_sign, Style, copy, Value, Plain, Item}
use Rattle.grammar.specs.Yield.{sign, arrow_mark, side_bound, between_mark}
use Rattle.grammar.specs.Level.{Level, intervals, arrays, sets, bags, has_arrow_of, keeps, keeps_plain, keeps_row}
use Rattle.grammar.proofs.Frames.{Lead, lead_comma, lead_row, Front, start, led, row, Curly, lot_curly, counted_curly, RoundFrame, opened, pair_colon, pair_arrow, in_tuple, attribute_name, CurlyFrame, member_joined, SquareFrame, square_opened, low_and, up_to, Frame, in_round, in_square, Stack, Closing, two_commas, headed, bounded, Config, want, have, want_text, want_curly, want_count, have_item, want_close, next_names, next_attribute, no_further, plain_name_of, name_of, names_of}
use Rattle.grammar.proofs.Machine.{text_value, empty_round, empty_curly, empty_square, lead_round, lead_curly, star_right, lead_star, lead_mark, want_mark, close_round, close_curly, close_square, comma_pair_of, comma_round, comma_curly, colon_attribute_of, colon_in, colon_curly, low_sign, low_open, star_side, star_square, names_go, count_of, counted, item_mark, closing, head_colon, colon_first_of, colon_round, arrow_round, arrow_in, arrow, behind_mark, have_mark, want_class, have_class, text_class, curly_class, count_class, item_class, close_class, step}
use Rattle.grammar.proofs.Behind.{behind_curly, behind_stack, kept_front, kept_curly, kept_stack}
use Rattle.grammar.proofs.Parts.{shut_behind, none_behind, next_attribute_behind, last_attribute_behind, none_kept, next_attribute_kept, last_attribute_kept, shut_kept, Sound, Takes, goes, sound_when, item_shut, item_next}

module _ (l : Level) where
  -- ---- where a value is wanted, a sign that begins none

  sound_empty_round : (f : RoundFrame) (c : Span) (K : Stack) → Takes l (want (in_round f ∷ K)) (Tokens.mark Tokens.round_close) c (empty_round f c K)
  sound_empty_round (opened o) c K = goes l (λ r. refl) refl
  sound_empty_round (pair_colon o p k) c K = tt
  sound_empty_round (pair_arrow o v a k) c K = tt
  sound_empty_round (in_tuple o (lead_comma b)) c K = tt
  sound_empty_round (in_tuple o (lead_row t)) c K = goes l (λ r. refl) (ap (kept_stack l K) (sym (and-true (keeps_row l t))))
  sound_empty_round (attribute_name o f n k) c K = tt

  sound_empty_curly : (f : CurlyFrame) (e : Span) (K : Stack) → Takes l (want (Frame.in_curly f ∷ K)) (Tokens.mark Tokens.curly_close) e (empty_curly f e K)
  sound_empty_curly (CurlyFrame.in_curly c f) e K =
      goes l (λ r. shut_behind c (no_further f) e K r ∙ ap (λ (x : List Tok). behind_stack K (behind_curly c x)) (none_behind f (sign Tokens.curly_close e r)))
      (shut_kept l c (no_further f) e K ∙ ap (λ (x : Bool). kept_stack l K (kept_curly l c x)) (none_kept l f))
  sound_empty_curly (member_joined o f v j k) e K = tt

  sound_empty_square : (f : SquareFrame) (c : Span) (K : Stack) → Takes l (want (in_square f ∷ K)) (Tokens.mark Tokens.square_close) c (empty_square f c K)
  sound_empty_square (square_opened o) c K = goes l (λ r. refl) refl
  sound_empty_square (low_and o v b k) c K = tt
  sound_empty_square (up_to o a k) c K = tt

  sound_lead_round : (f : RoundFrame) (c : Span) (K : Stack) → Takes l (want (in_round f ∷ K)) (Tokens.mark Tokens.comma) c (lead_round f c K)
  sound_lead_round (opened o) c K = goes l (λ r. refl) refl
  sound_lead_round (pair_colon o p k) c K = tt
  sound_lead_round (pair_arrow o v a k) c K = tt
  sound_lead_round (in_tuple o f) c K = tt
  sound_lead_round (attribute_name o f n k) c K = tt

  sound_lead_curly : (f : CurlyFrame) (d : Span) (K : Stack) → Takes l (want (Frame.in_curly f ∷ K)) (Tokens.mark Tokens.comma) d (lead_curly f d K)
  sound_lead_curly (CurlyFrame.in_curly c start) d K = goes l (λ r. refl) refl
  sound_lead_curly (CurlyFrame.in_curly c (led b)) d K = goes l (λ r. refl) refl
  sound_lead_curly (CurlyFrame.in_curly c (row t)) d K = tt
  sound_lead_curly (member_joined o f v j k) d K = tt

  sound_star_right : (b : Bound) (o k : Span) (K : Stack) → Takes l (want (in_square (square_opened o) ∷ K)) (Tokens.mark (Tokens.star Open b)) k (star_right b o k K)
  sound_star_right Open o k K = goes l (λ r. refl) refl
  sound_star_right Less o k K = goes l (λ r. refl) refl
  sound_star_right LessEqual o k K = goes l (λ r. refl) refl

  sound_lead_star : (f : SquareFrame) (a b : Bound) (k : Span) (K : Stack) → Takes l (want (in_square f ∷ K)) (Tokens.mark (Tokens.star a b)) k (lead_star f a b k K)
  sound_lead_star (square_opened o) Open b k K = sound_star_right b o k K
  sound_lead_star (square_opened o) Less b k K = tt
  sound_lead_star (square_opened o) LessEqual b k K = tt
  sound_lead_star (low_and o v d j) a b k K = tt
  sound_lead_star (up_to o d j) a b k K = tt

  sound_lead_mark : (m : Mark) (f : Frame) (s : Span) (K : Stack) → Takes l (want (f ∷ K)) (Tokens.mark m) s (lead_mark m f s K)
  sound_lead_mark Tokens.round_close (in_round f) s K = sound_empty_round f s K
  sound_lead_mark Tokens.round_close (Frame.in_curly f) s K = tt
  sound_lead_mark Tokens.round_close (in_square f) s K = tt
  sound_lead_mark Tokens.curly_close (in_round f) s K = tt
  sound_lead_mark Tokens.curly_close (Frame.in_curly f) s K = sound_empty_curly f s K
  sound_lead_mark Tokens.curly_close (in_square f) s K = tt
  sound_lead_mark Tokens.square_close (in_round f) s K = tt
  sound_lead_mark Tokens.square_close (Frame.in_curly f) s K = tt
  sound_lead_mark Tokens.square_close (in_square f) s K = sound_empty_square f s K
  sound_lead_mark Tokens.comma (in_round f) s K = sound_lead_round f s K
  sound_lead_mark Tokens.comma (Frame.in_curly f) s K = sound_lead_curly f s K
  sound_lead_mark Tokens.comma (in_square f) s K = tt
  sound_lead_mark Tokens.colon f s K = tt
  sound_lead_mark Tokens.right_arrow f s K = tt
  sound_lead_mark Tokens.left_arrow f s K = tt
  sound_lead_mark Tokens.dots f s K = tt
  sound_lead_mark (Tokens.star a b) (in_round f) s K = tt
  sound_lead_mark (Tokens.star a b) (Frame.in_curly f) s K = tt
  sound_lead_mark (Tokens.star a b) (in_square f) s K = sound_lead_star f a b s K

  -- ---- behind a value

  pub sound_close_round : (f : RoundFrame) (v : Value) (c : Span) (K : Stack) → Takes l (have v (in_round f ∷ K)) (Tokens.mark Tokens.round_close) c (close_round f v c K)
  sound_close_round (opened o) v c K = goes l (λ r. refl) refl
  sound_close_round (pair_colon o p k) v c K = goes l (λ r. refl) refl
  sound_close_round (pair_arrow o w a k) v c K = goes l (λ r. refl) refl
  sound_close_round (in_tuple o f) v c K =
      goes l (λ r. ap (λ (x : List Tok). behind_stack K (tok Tokens.round o ∷ x)) (last_attribute_behind f (Tree.alone v) (sign Tokens.round_close c r)))
      (ap (kept_stack l K) (last_attribute_kept l f (Tree.alone v)))
  sound_close_round (attribute_name o f n k) v c K =
      goes l (λ r. ap (λ (x : List Tok). behind_stack K (tok Tokens.round o ∷ x)) (last_attribute_behind f (Tree.named n k v) (sign Tokens.round_close c r)))
      (ap (kept_stack l K) (last_attribute_kept l f (Tree.named n k v)))

  pub sound_close_curly : (f : CurlyFrame) (v : Value) (e : Span) (K : Stack) → Takes l (have v (Frame.in_curly f ∷ K)) (Tokens.mark Tokens.curly_close) e (close_curly f v e K)
  sound_close_curly (CurlyFrame.in_curly c f) v e K = let g = item_shut l c f (Tree.alone v) e K in goes l g.reads g.level
  sound_close_curly (member_joined o f w j k) v e K = let g = item_shut l (lot_curly o) f (Tree.joined w j k v) e K in goes l g.reads g.level

  pub sound_close_square : (f : SquareFrame) (v : Value) (c : Span) (K : Stack) → Takes l (have v (in_square f ∷ K)) (Tokens.mark Tokens.square_close) c (close_square f v c K)
  sound_close_square (square_opened o) v c K = goes l (λ r. refl) refl
  sound_close_square (low_and o w b k) v c K = goes l (λ r. refl) refl
  sound_close_square (up_to o a k) v c K = goes l (λ r. refl) refl

  sound_comma_pair : (p : Plain) (o k : Span) (v : Value) (c : Span) (K : Stack) →
      Takes l (have v (in_round (pair_colon o p k) ∷ K)) (Tokens.mark Tokens.comma) c (comma_pair_of (plain_name_of p) o k v c K)
  sound_comma_pair (Tree.literal a t) o k v c K = tt
  sound_comma_pair (Tree.text w t) o k v c K = goes l (λ r. refl) (ap (kept_stack l K) (and-true (keeps l v)))
  sound_comma_pair (Tree.nesting n) o k v c K = goes l (λ r. refl) (ap (kept_stack l K) (and-true (keeps l v)))
  sound_comma_pair (Tree.group q x y) o k v c K = tt
  sound_comma_pair (Tree.pair q p' i x y) o k v c K = tt
  sound_comma_pair (Tree.arrowed q x a i x' y) o k v c K = tt
  sound_comma_pair (Tree.tuple q i y) o k v c K = tt
  sound_comma_pair (Tree.lot q i y) o k v c K = tt
  sound_comma_pair (Tree.counted q h t i b j e y) o k v c K = tt
  sound_comma_pair (Tree.interval q b y) o k v c K = tt

  sound_comma_round : (f : RoundFrame) (v : Value) (c : Span) (K : Stack) → Takes l (have v (in_round f ∷ K)) (Tokens.mark Tokens.comma) c (comma_round f v c K)
  sound_comma_round (opened o) v c K = goes l (λ r. refl) (ap (kept_stack l K) (and-true (keeps l v)))
  sound_comma_round (pair_colon o p k) v c K = sound_comma_pair p o k v c K
  sound_comma_round (pair_arrow o w a k) v c K = tt
  sound_comma_round (in_tuple o f) v c K =
      goes l (λ r. ap (λ (x : List Tok). behind_stack K (tok Tokens.round o ∷ x)) (next_attribute_behind f (Tree.alone v) c r))
      (ap (kept_stack l K) (and-true (keeps_row l (next_attribute f (Tree.alone v) c)) ∙ next_attribute_kept l f (Tree.alone v) c))
  sound_comma_round (attribute_name o f n k) v c K =
      goes l (λ r. ap (λ (x : List Tok). behind_stack K (tok Tokens.round o ∷ x)) (next_attribute_behind f (Tree.named n k v) c r))
      (ap (kept_stack l K) (and-true (keeps_row l (next_attribute f (Tree.named n k v) c)) ∙ next_attribute_kept l f (Tree.named n k v) c))

  sound_comma_curly : (f : CurlyFrame) (v : Value) (d : Span) (K : Stack) → Takes l (have v (Frame.in_curly f ∷ K)) (Tokens.mark Tokens.comma) d (comma_curly f v d K)
  sound_comma_curly (CurlyFrame.in_curly c f) v d K = let g = item_next l c f (Tree.alone v) d K in goes l g.reads g.level
  sound_comma_curly (member_joined o f w j k) v d K = let g = item_next l (lot_curly o) f (Tree.joined w j k v) d K in goes l g.reads g.level

  sound_colon_attribute : (v : Value) (o : Span) (f : Lead) (k : Span) (K : Stack) →
      Takes l (have v (in_round (in_tuple o f) ∷ K)) (Tokens.mark Tokens.colon) k (colon_attribute_of (name_of v) o f k K)
  sound_colon_attribute (Tree.plain (Tree.literal a t)) o f k K = tt
  sound_colon_attribute (Tree.plain (Tree.text w t)) o f k K = goes l (λ r. refl) refl
  sound_colon_attribute (Tree.plain (Tree.nesting n)) o f k K = goes l (λ r. refl) refl
  sound_colon_attribute (Tree.plain (Tree.group q x y)) o f k K = tt
  sound_colon_attribute (Tree.plain (Tree.pair q p' i x y)) o f k K = tt
  sound_colon_attribute (Tree.plain (Tree.arrowed q x a i x' y)) o f k K = tt
  sound_colon_attribute (Tree.plain (Tree.tuple q i y)) o f k K = tt
  sound_colon_attribute (Tree.plain (Tree.lot q i y)) o f k K = tt
  sound_colon_attribute (Tree.plain (Tree.counted q h t i b j e y)) o f k K = tt
  sound_colon_attribute (Tree.plain (Tree.interval q b y)) o f k K = tt
  sound_colon_attribute (Tree.bare h t) o f k K = goes l (λ r. refl) refl

  sound_colon_in : {s : Style} (c : Curly s) (f : Front s) (v : Value) (k : Span) (K : Stack) →
      Takes l (have v (Frame.in_curly (CurlyFrame.in_curly c f) ∷ K)) (Tokens.mark Tokens.colon) k (colon_in c f v k K)
  sound_colon_in (lot_curly o) f v k K = goes l (λ r. refl) (ap (λ (x : Bool). kept_stack l K (kept_front l f x)) (and-true (keeps l v && true) ∙ and-true (keeps l v)))
  sound_colon_in (counted_curly o h s j b) f v k K = goes l (λ r. refl) refl

  sound_colon_curly : (f : CurlyFrame) (v : Value) (k : Span) (K : Stack) → Takes l (have v (Frame.in_curly f ∷ K)) (Tokens.mark Tokens.colon) k (colon_curly f v k K)
  sound_colon_curly (CurlyFrame.in_curly c f) v k K = sound_colon_in c f v k K
  sound_colon_curly (member_joined o f w j i) v k K = tt

  sound_head_colon : (h : Head) (o s k : Span) (K : Stack) → Takes l (have (Tree.bare h s) (in_round (opened o) ∷ K)) (Tokens.mark Tokens.colon) k (head_colon l h o s k K)
  sound_head_colon Head.Array o s k K = sound_when l (l arrays) (λ e. goes l (λ r. refl) (ap (λ (x : Bool). kept_stack l K (x && true)) e))
  sound_head_colon Head.Set o s k K = sound_when l (l sets) (λ e. goes l (λ r. refl) (ap (λ (x : Bool). kept_stack l K (x && true)) e))
  sound_head_colon Head.Bag o s k K = sound_when l (l bags) (λ e. goes l (λ r. refl) (ap (λ (x : Bool). kept_stack l K (x && true)) e))
  sound_head_colon Head.Mix o s k K = tt
  sound_head_colon Head.IntervalSet o s k K = tt
  sound_head_colon Head.IntervalBag o s k K = tt
  sound_head_colon Head.TupleArray o s k K = tt
  sound_head_colon Head.Relation o s k K = tt
  sound_head_colon Head.TupleBag o s k K = tt
  sound_head_colon Head.Article o s k K = tt
  sound_head_colon Head.Excuse o s k K = tt
  sound_head_colon Head.Heading o s k K = tt
  sound_head_colon Head.Renaming o s k K = tt

  sound_colon_first : (v : Value) (o k : Span) (K : Stack) → Takes l (have v (in_round (opened o) ∷ K)) (Tokens.mark Tokens.colon) k (colon_first_of l v o k K)
  sound_colon_first (Tree.plain p) o k K = goes l (λ r. refl) (ap (kept_stack l K) (and-true (keeps_plain l p)))
  sound_colon_first (Tree.bare h s) o k K = sound_head_colon h o s k K

  sound_colon_round : (f : RoundFrame) (v : Value) (k : Span) (K : Stack) → Takes l (have v (in_round f ∷ K)) (Tokens.mark Tokens.colon) k (colon_round l f v k K)
  sound_colon_round (opened o) v k K = sound_colon_first v o k K
  sound_colon_round (pair_colon o p i) v k K = tt
  sound_colon_round (pair_arrow o w a i) v k K = tt
  sound_colon_round (in_tuple o f) v k K = sound_colon_attribute v o f k K
  sound_colon_round (attribute_name o f n i) v k K = tt

  -- the level has the arrow
  arrow_kept : (v : Value) (a : Arrow) → has_arrow_of l a ≡ true → (keeps l v && has_arrow_of l a && true) ≡ keeps l v
  arrow_kept v a e = ap (λ (x : Bool). keeps l v && x && true) e ∙ and-true (keeps l v && true) ∙ and-true (keeps l v)

  sound_arrow_round : (f : RoundFrame) (v : Value) (a : Arrow) (k : Span) (K : Stack) → Takes l (have v (in_round f ∷ K)) (Tokens.mark (arrow_mark a)) k (arrow_round l f v a k K)
  sound_arrow_round (opened o) v a k K = sound_when l (has_arrow_of l a) (λ e. goes l (λ r. refl) (ap (kept_stack l K) (arrow_kept v a e)))
  sound_arrow_round (pair_colon o p i) v a k K = tt
  sound_arrow_round (pair_arrow o w b i) v a k K = tt
  sound_arrow_round (in_tuple o f) v a k K = tt
  sound_arrow_round (attribute_name o f n i) v a k K = tt

  sound_arrow_in : {s : Style} (c : Curly s) (f : Front s) (v : Value) (a : Arrow) (k : Span) (K : Stack) →
      Takes l (have v (Frame.in_curly (CurlyFrame.in_curly c f) ∷ K)) (Tokens.mark (arrow_mark a)) k (arrow_in l c f v a k K)
  sound_arrow_in (lot_curly o) f v a k K = sound_when l (has_arrow_of l a) (λ e. goes l (λ r. refl) (ap (λ (x : Bool). kept_stack l K (kept_front l f x)) (arrow_kept v a e)))
  sound_arrow_in (counted_curly o h s j b) f v a k K = tt

  sound_arrow : (a : Arrow) (f : Frame) (v : Value) (k : Span) (K : Stack) → Takes l (have v (f ∷ K)) (Tokens.mark (arrow_mark a)) k (arrow l a f v k K)
  sound_arrow a (in_round f) v k K = sound_arrow_round f v a k K
  sound_arrow a (Frame.in_curly (CurlyFrame.in_curly c f)) v k K = sound_arrow_in c f v a k K
  sound_arrow a (Frame.in_curly (member_joined o f w j i)) v k K = tt
  sound_arrow a (in_square f) v k K = tt

  sound_low_sign : (f : SquareFrame) (v : Value) (b : Between) (k : Span) (K : Stack) → Takes l (have v (in_square f ∷ K)) (Tokens.mark (between_mark b)) k (low_sign f v b k K)
  sound_low_sign (square_opened o) v b k K = goes l (λ r. refl) (ap (λ (x : Bool). kept_stack l K (l intervals && x)) (and-true (keeps l v)))
  sound_low_sign (low_and o w d i) v b k K = tt
  sound_low_sign (up_to o a i) v b k K = tt

  sound_low_open : (f : SquareFrame) (v : Value) (a : Side) (k : Span) (K : Stack) → Takes l (have v (in_square f ∷ K)) (Tokens.mark (Tokens.star (side_bound a) Open)) k (low_open f v a k K)
  sound_low_open (square_opened o) v a k K = goes l (λ r. refl) refl
  sound_low_open (low_and o w d i) v a k K = tt
  sound_low_open (up_to o d i) v a k K = tt

  sound_star_side : (f : SquareFrame) (v : Value) (a : Side) (b : Bound) (k : Span) (K : Stack) →
      Takes l (have v (in_square f ∷ K)) (Tokens.mark (Tokens.star (side_bound a) b)) k (star_side f v a b k K)
  sound_star_side f v a Open k K = sound_low_open f v a k K
  sound_star_side f v a Less k K = sound_low_sign f v (star_sign a less) k K
  sound_star_side f v a LessEqual k K = sound_low_sign f v (star_sign a less_equal) k K

  sound_star_square : (a : Bound) (f : SquareFrame) (v : Value) (b : Bound) (k : Span) (K : Stack) →
      Takes l (have v (in_square f ∷ K)) (Tokens.mark (Tokens.star a b)) k (star_square a f v b k K)
  sound_star_square Open f v b k K = tt
  sound_star_square Less f v b k K = sound_star_side f v less b k K
  sound_star_square LessEqual f v b k K = sound_star_side f v less_equal b k K

  sound_behind_mark : (m : Mark) (f : Frame) (v : Value) (s : Span) (K : Stack) → Takes l (have v (f ∷ K)) (Tokens.mark m) s (behind_mark l m f v s K)
  sound_behind_mark Tokens.round_close (in_round f) v s K = sound_close_round f v s K
  sound_behind_mark Tokens.round_close (Frame.in_curly f) v s K = tt
  sound_behind_mark Tokens.round_close (in_square f) v s K = tt
  sound_behind_mark Tokens.curly_close (in_round f) v s K = tt
  sound_behind_mark Tokens.curly_close (Frame.in_curly f) v s K = sound_close_curly f v s K
  sound_behind_mark Tokens.curly_close (in_square f) v s K = tt
  sound_behind_mark Tokens.square_close (in_round f) v s K = tt
  sound_behind_mark Tokens.square_close (Frame.in_curly f) v s K = tt
  sound_behind_mark Tokens.square_close (in_square f) v s K = sound_close_square f v s K
  sound_behind_mark Tokens.comma (in_round f) v s K = sound_comma_round f v s K
  sound_behind_mark Tokens.comma (Frame.in_curly f) v s K = sound_comma_curly f v s K
  sound_behind_mark Tokens.comma (in_square f) v s K = tt
  sound_behind_mark Tokens.colon (in_round f) v s K = sound_colon_round f v s K
  sound_behind_mark Tokens.colon (Frame.in_curly f) v s K = sound_colon_curly f v s K
  sound_behind_mark Tokens.colon (in_square f) v s K = tt
  sound_behind_mark Tokens.right_arrow f v s K = sound_arrow rightward f v s K
  sound_behind_mark Tokens.left_arrow f v s K = sound_arrow leftward f v s K
  sound_behind_mark Tokens.dots (in_round f) v s K = tt
  sound_behind_mark Tokens.dots (Frame.in_curly f) v s K = tt
  sound_behind_mark Tokens.dots (in_square f) v s K = sound_low_sign f v two_dots s K
  sound_behind_mark (Tokens.star a b) (in_round f) v s K = tt
  sound_behind_mark (Tokens.star a b) (Frame.in_curly f) v s K = tt
  sound_behind_mark (Tokens.star a b) (in_square f) v s K = sound_star_square a f v b s K

  sound_names : (v : Value) (s : Span) (K : Stack) → Takes l (have v K) Tokens.names s (names_go (names_of v) s K)
  sound_names (Tree.plain (Tree.literal a t)) s K = tt
  sound_names (Tree.plain (Tree.text w t)) s K = tt
  sound_names (Tree.plain (Tree.nesting n)) s K = goes l (λ r. refl) refl
  sound_names (Tree.plain (Tree.group q x y)) s K = tt
  sound_names (Tree.plain (Tree.pair q p' i x y)) s K = tt
  sound_names (Tree.plain (Tree.arrowed q x a i x' y)) s K = tt
  sound_names (Tree.plain (Tree.tuple q i y)) s K = tt
  sound_names (Tree.plain (Tree.lot q i y)) s K = tt
  sound_names (Tree.plain (Tree.counted q h t i b j e y)) s K = tt
  sound_names (Tree.plain (Tree.interval q b y)) s K = tt
  sound_names (Tree.bare h t) s K = tt

  -- ---- the other modes

  pub sound_count : (u : Measure) (a : Atom) (c : Curly (copy u)) (f : Front (copy u)) (v : Value) (k s : Span) (K : Stack) →
      Takes l (want_count c f v k K) (Tokens.atom a) s (counted (count_of u a s) c f v k K)
  sound_count by_number Tokens.ignorance c f v k s K = tt
  sound_count by_number (Tokens.boolean b) c f v k s K = tt
  sound_count by_number (Tokens.integer true) c f v k s K = tt
  sound_count by_number (Tokens.integer false) c f v k s K = goes l (λ r. refl) refl
  sound_count by_number Tokens.fraction c f v k s K = tt
  sound_count by_number Tokens.bits c f v k s K = tt
  sound_count by_number Tokens.blob c f v k s K = tt
  sound_count by_truth Tokens.ignorance c f v k s K = tt
  sound_count by_truth (Tokens.boolean b) c f v k s K = goes l (λ r. refl) refl
  sound_count by_truth (Tokens.integer b) c f v k s K = tt
  sound_count by_truth Tokens.fraction c f v k s K = tt
  sound_count by_truth Tokens.bits c f v k s K = tt
  sound_count by_truth Tokens.blob c f v k s K = tt

  sound_item_mark : {t : Style} (m : Mark) (c : Curly t) (f : Front t) (i : Item t) (s : Span) (K : Stack) → Takes l (have_item c f i K) (Tokens.mark m) s (item_mark m c f i s K)
  sound_item_mark Tokens.round_close c f i s K = tt
  sound_item_mark Tokens.curly_close c f i s K = item_shut l c f i s K
  sound_item_mark Tokens.square_close c f i s K = tt
  sound_item_mark Tokens.comma c f i s K = item_next l c f i s K
  sound_item_mark Tokens.colon c f i s K = tt
  sound_item_mark Tokens.right_arrow c f i s K = tt
  sound_item_mark Tokens.left_arrow c f i s K = tt
  sound_item_mark Tokens.dots c f i s K = tt
  sound_item_mark (Tokens.star a b) c f i s K = tt

  pub sound_closing : (m : Mark) (c : Closing) (s : Span) (K : Stack) → Takes l (want_close c K) (Tokens.mark m) s (closing m c s K)
  sound_closing Tokens.round_close (two_commas c a b) s K = tt
  sound_closing Tokens.round_close (headed o h t k b i e) s K = goes l (λ r. refl) refl
  sound_closing Tokens.round_close (bounded o b) s K = tt
  sound_closing Tokens.curly_close (two_commas c a b) s K = goes l (λ r. shut_behind c (Tree.two_commas a b) s K r) (shut_kept l c (Tree.two_commas a b) s K)
  sound_closing Tokens.curly_close (headed o h t k b i e) s K = tt
  sound_closing Tokens.curly_close (bounded o b) s K = tt
  sound_closing Tokens.square_close (two_commas c a b) s K = tt
  sound_closing Tokens.square_close (headed o h t k b i e) s K = tt
  sound_closing Tokens.square_close (bounded o b) s K = goes l (λ r. refl) refl
  sound_closing Tokens.comma c s K = tt
  sound_closing Tokens.colon c s K = tt
  sound_closing Tokens.right_arrow c s K = tt
  sound_closing Tokens.left_arrow c s K = tt
  sound_closing Tokens.dots c s K = tt
  sound_closing (Tokens.star a b) c s K = tt

  sound_text : (w : Tokens.Wording) (s : Span) (K : Stack) → Takes l (want K) (Tokens.text w) s (some (have (text_value w s) K))
  sound_text (spelled w) s K = goes l (λ r. refl) refl
  sound_text (head_word h) s K = goes l (λ r. refl) refl

  sound_want_mark : (m : Mark) (s : Span) (K : Stack) → Takes l (want K) (Tokens.mark m) s (want_mark m s K)
  sound_want_mark m s [] = tt
  sound_want_mark m s (f ∷ K) = sound_lead_mark m f s K

  sound_want : (k : Class) (s : Span) (K : Stack) → Takes l (want K) k s (want_class l k s K)
  sound_want (Tokens.atom a) s K = goes l (λ r. refl) refl
  sound_want (Tokens.text w) s K = sound_text w s K
  sound_want Tokens.names s K = goes l (λ r. refl) refl
  sound_want Tokens.round s K = goes l (λ r. refl) refl
  sound_want Tokens.curly s K = goes l (λ r. refl) refl
  sound_want Tokens.square s K = sound_when l (l intervals) (λ e. goes l (λ r. refl) (ap (λ (x : Bool). kept_stack l K (x && true)) e))
  sound_want (Tokens.mark m) s K = sound_want_mark m s K
  sound_want Tokens.later s K = tt

  sound_have_mark : (m : Mark) (v : Value) (s : Span) (K : Stack) → Takes l (have v K) (Tokens.mark m) s (have_mark l m v s K)
  sound_have_mark m v s [] = tt
  sound_have_mark m v s (f ∷ K) = sound_behind_mark m f v s K

  sound_have : (k : Class) (v : Value) (s : Span) (K : Stack) → Takes l (have v K) k s (have_class l k v s K)
  sound_have (Tokens.atom a) v s K = tt
  sound_have (Tokens.text w) v s K = tt
  sound_have Tokens.names v s K = sound_names v s K
  sound_have Tokens.round v s K = tt
  sound_have Tokens.curly v s K = tt
  sound_have Tokens.square v s K = tt
  sound_have (Tokens.mark m) v s K = sound_have_mark m v s K
  sound_have Tokens.later v s K = tt

  pub sound_nesting : (n : Option Names) (o : Span) (w : Tokens.Wording) (s : Span) (K : Stack) →
      Takes l (want_text n o K) (Tokens.text w) s (some (have (Tree.plain (Tree.nesting (next_names n o w s))) K))
  sound_nesting none o w s K = goes l (λ r. refl) refl
  sound_nesting (some n) o w s K = goes l (λ r. refl) refl

  sound_want_text : (k : Class) (n : Option Names) (o s : Span) (K : Stack) → Takes l (want_text n o K) k s (text_class k n o s K)
  sound_want_text (Tokens.atom a) n o s K = tt
  sound_want_text (Tokens.text w) n o s K = sound_nesting n o w s K
  sound_want_text Tokens.names n o s K = tt
  sound_want_text Tokens.round n o s K = tt
  sound_want_text Tokens.curly n o s K = tt
  sound_want_text Tokens.square n o s K = tt
  sound_want_text (Tokens.mark m) n o s K = tt
  sound_want_text Tokens.later n o s K = tt

  pub sound_want_curly : (k : Class) (o : Span) (h : Collection) (t j s : Span) (K : Stack) → Takes l (want_curly o h t j K) k s (curly_class k o h t j s K)
  sound_want_curly (Tokens.atom a) o h t j s K = tt
  sound_want_curly (Tokens.text w) o h t j s K = tt
  sound_want_curly Tokens.names o h t j s K = tt
  sound_want_curly Tokens.round o h t j s K = tt
  sound_want_curly Tokens.curly o h t j s K = goes l (λ r. refl) refl
  sound_want_curly Tokens.square o h t j s K = tt
  sound_want_curly (Tokens.mark m) o h t j s K = tt
  sound_want_curly Tokens.later o h t j s K = tt

  sound_want_count : {u : Measure} (k : Class) (c : Curly (copy u)) (f : Front (copy u)) (v : Value) (j s : Span) (K : Stack) → Takes l (want_count c f v j K) k s (count_class k c f v j s K)
  sound_want_count {u} (Tokens.atom a) c f v j s K = sound_count u a c f v j s K
  sound_want_count (Tokens.text w) c f v j s K = tt
  sound_want_count Tokens.names c f v j s K = tt
  sound_want_count Tokens.round c f v j s K = tt
  sound_want_count Tokens.curly c f v j s K = tt
  sound_want_count Tokens.square c f v j s K = tt
  sound_want_count (Tokens.mark m) c f v j s K = tt
  sound_want_count Tokens.later c f v j s K = tt

  sound_have_item : {t : Style} (k : Class) (c : Curly t) (f : Front t) (i : Item t) (s : Span) (K : Stack) → Takes l (have_item c f i K) k s (item_class k c f i s K)
  sound_have_item (Tokens.atom a) c f i s K = tt
  sound_have_item (Tokens.text w) c f i s K = tt
  sound_have_item Tokens.names c f i s K = tt
  sound_have_item Tokens.round c f i s K = tt
  sound_have_item Tokens.curly c f i s K = tt
  sound_have_item Tokens.square c f i s K = tt
  sound_have_item (Tokens.mark m) c f i s K = sound_item_mark m c f i s K
  sound_have_item Tokens.later c f i s K = tt

  sound_want_close : (k : Class) (c : Closing) (s : Span) (K : Stack) → Takes l (want_close c K) k s (close_class k c s K)
  sound_want_close (Tokens.atom a) c s K = tt
  sound_want_close (Tokens.text w) c s K = tt
  sound_want_close Tokens.names c s K = tt
  sound_want_close Tokens.round c s K = tt
  sound_want_close Tokens.curly c s K = tt
  sound_want_close Tokens.square c s K = tt
  sound_want_close (Tokens.mark m) c s K = sound_closing m c s K
  sound_want_close Tokens.later c s K = tt

  pub sound : (c : Config) (t : Tok) → Sound l c (λ r. t ∷ r) (step l c t)
  sound (want K) t = sound_want t.class t.at K
  sound (have v K) t = sound_have t.class v t.at K
  sound (want_text n o K) t = sound_want_text t.class n o t.at K
  sound (want_curly o h s k K) t = sound_want_curly t.class o h s k t.at K
  sound (want_count c f v k K) t = sound_want_count t.class c f v k t.at K
  sound (have_item c f i K) t = sound_have_item t.class c f i t.at K
  sound (want_close c K) t = sound_want_close t.class c t.at K
