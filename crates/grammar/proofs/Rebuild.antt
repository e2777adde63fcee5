-- The tokens that a stack stands for lead to that stack, wanting a value. Assumes nothing.
use mathlib.Core.Path.{◌≡◌, refl, ap, subst, ◌∙◌}
use mathlib.Core.Bool.{Bool, true, ◌&&◌}
use mathlib.Core.List.{List, [], ◌∷◌}
use mathlib.Core.Option.{Option, some}
use Rattle.rules.proofs.Bools.{and_left, and_right}
use Rattle.lexicon.specs.declared.Bound.TheVariants.{Open}
use Rattle.grammar.specs.Tokens
use Rattle.grammar.specs.Tokens.{Span, Tok, tok}
use Rattle.grammar.specs.Tree.{Style}
use Rattle.grammar.specs.Yield.{sign, arrow_mark, joiner_mark, side_bound, between_mark, yield_name, yield_value}
use Rattle.grammar.specs.Level.{Level, intervals, has_collection, has_arrow_of, has_joiner, keeps, keeps_plain, keeps_row}
use Rattle.grammar.proofs.Frames.{Lead, lead_comma, lead_row, Front, start, led, row, Curly, lot_curly, counted_curly, RoundFrame, opened, pair_colon, pair_arrow, in_tuple, attribute_name, CurlyFrame, member_joined, SquareFrame, square_opened, low_and, up_to, Frame, in_round, in_square, Stack, Config, want}
use Rattle.grammar.proofs.Machine.{advance, run, runs}
use Rattle.grammar.proofs.Places.{tuple_holder, curly_holder, place_in, frame_at, when_true, led_comma, arrow_step, join_step, between_step, up_to_step, head_step}
use Rattle.grammar.proofs.Complete.{onward, run_name, run_value, run_plain, run_row}
use Rattle.grammar.proofs.Behind.{behind_lead, behind_front, behind_round, behind_curly_frame, behind_square, behind_frame, behind_stack, kept_lead, kept_front, kept_curly, kept_round, kept_curly_frame, kept_square, kept_frame, kept_stack}

module _ (l : Level) where
  -- ---- of a stack that is of the level, each part is

  lead_inner : (f : Lead) (x : Bool) → kept_lead l f x ≡ true → x ≡ true
  lead_inner (lead_comma b) x e = e
  lead_inner (lead_row o) x e = and_right (keeps_row l o) x e

  front_inner : {s : Style} (f : Front s) (x : Bool) → kept_front l f x ≡ true → x ≡ true
  front_inner start x e = e
  front_inner (led b) x e = e
  front_inner (row o) x e = and_right (keeps_row l o) x e

  curly_inner : {s : Style} (c : Curly s) (x : Bool) → kept_curly l c x ≡ true → x ≡ true
  curly_inner (lot_curly o) x e = e
  curly_inner (counted_curly o h s k b) x e = and_right (has_collection l h) x e

  frame_inner : (f : Frame) (x : Bool) → kept_frame l f x ≡ true → x ≡ true
  frame_inner (in_round (opened o)) x e = e
  frame_inner (in_round (pair_colon o p k)) x e = and_right (keeps_plain l p) x e
  frame_inner (in_round (pair_arrow o v a k)) x e = and_right (keeps l v && has_arrow_of l a) x e
  frame_inner (in_round (in_tuple o f)) x e = lead_inner f x e
  frame_inner (in_round (attribute_name o f n k)) x e = lead_inner f x e
  frame_inner (Frame.in_curly (CurlyFrame.in_curly c f)) x e = front_inner f x (curly_inner c (kept_front l f x) e)
  frame_inner (Frame.in_curly (member_joined o f v j k)) x e = and_right (keeps l v && has_joiner l j) x (front_inner f (keeps l v && has_joiner l j && x) e)
  frame_inner (in_square (square_opened o)) x e = and_right (l intervals) x e
  frame_inner (in_square (low_and o v b k)) x e = and_right (keeps l v) x (and_right (l intervals) (keeps l v && x) e)
  frame_inner (in_square (up_to o a k)) x e = and_right (l intervals) x e

  stack_inner : (K : Stack) (x : Bool) → kept_stack l K x ≡ true → x ≡ true
  stack_inner [] x e = e
  stack_inner (f ∷ K) x e = frame_inner f x (stack_inner K (kept_frame l f x) e)

  -- ---- a frame

  rebuild_lead : (o : Span) (f : Lead) → kept_lead l f true ≡ true → (K : Stack) (r : List Tok) →
      run l (some (want (in_round (opened o) ∷ K))) (behind_lead f r) ≡ run l (some (want (in_round (in_tuple o f) ∷ K))) r
  rebuild_lead o (lead_comma b) e K r = refl
  rebuild_lead o (lead_row t) e K r = run_row l t (and_left (keeps_row l t) true e) (tuple_holder o) K r

  rebuild_front : {s : Style} (c : Curly s) (f : Front s) → kept_front l f true ≡ true → (K : Stack) (r : List Tok) →
      run l (some (want (frame_at (place_in c start) ∷ K))) (behind_front f r) ≡ run l (some (want (frame_at (place_in c f) ∷ K))) r
  rebuild_front c start e K r = refl
  rebuild_front c (led b) e K r = onward l r (led_comma l (curly_holder c) b K)
  rebuild_front c (row t) e K r = run_row l t (and_left (keeps_row l t) true e) (curly_holder c) K r

  rebuild_round : (f : RoundFrame) → kept_round l f true ≡ true → (K : Stack) (r : List Tok) → run l (some (want K)) (behind_round f r) ≡ run l (some (want (in_round f ∷ K))) r
  rebuild_round (opened o) e K r = refl
  rebuild_round (pair_colon o p k) e K r = run_plain l p (and_left (keeps_plain l p) true e) (in_round (opened o) ∷ K) (sign Tokens.colon k r)
  rebuild_round (pair_arrow o v a k) e K r =
      let d : (keeps l v && has_arrow_of l a) ≡ true = and_left (keeps l v && has_arrow_of l a) true e in
      run_value l v (and_left (keeps l v) (has_arrow_of l a) d) (in_round (opened o) ∷ K) (sign (arrow_mark a) k r) ∙ onward l r (arrow_step l a (and_right (keeps l v) (has_arrow_of l a) d) o v k K)
  rebuild_round (in_tuple o f) e K r = rebuild_lead o f e K r
  rebuild_round (attribute_name o f n k) e K r = rebuild_lead o f e K (yield_name n (sign Tokens.colon k r)) ∙ run_name l n o f k K r

  rebuild_curly : (f : CurlyFrame) → kept_curly_frame l f true ≡ true → (K : Stack) (r : List Tok) → run l (some (want K)) (behind_curly_frame f r) ≡ run l (some (want (Frame.in_curly f ∷ K))) r
  rebuild_curly (CurlyFrame.in_curly (lot_curly o) f) e K r = rebuild_front (lot_curly o) f e K r
  rebuild_curly (CurlyFrame.in_curly (counted_curly o h s k b) f) e K r =
      onward l (behind_front f r) (ap (λ (x : Option Config). advance l x (tok Tokens.curly b)) (head_step l h (and_left (has_collection l h) (kept_front l f true) e) o s k K))
      ∙ rebuild_front (counted_curly o h s k b) f (and_right (has_collection l h) (kept_front l f true) e) K r
  rebuild_curly (member_joined o f v j k) e K r =
      let x : (keeps l v && has_joiner l j && true) ≡ true = front_inner f (keeps l v && has_joiner l j && true) e in
      let d : (keeps l v && has_joiner l j) ≡ true = and_left (keeps l v && has_joiner l j) true x in
      rebuild_front (lot_curly o) f (subst (λ (y : Bool). kept_front l f y ≡ true) x e) K (yield_value v (sign (joiner_mark j) k r))
      ∙ run_value l v (and_left (keeps l v) (has_joiner l j) d) (frame_at (place_in (lot_curly o) f) ∷ K) (sign (joiner_mark j) k r)
      ∙ onward l r (join_step l j (and_right (keeps l v) (has_joiner l j) d) o f v k K)

  rebuild_square : (f : SquareFrame) → kept_square l f true ≡ true → (K : Stack) (r : List Tok) → run l (some (want K)) (behind_square f r) ≡ run l (some (want (in_square f ∷ K))) r
  rebuild_square (square_opened o) e K r = onward l r (when_true (l intervals) _ (and_left (l intervals) true e))
  rebuild_square (low_and o v b k) e K r =
      onward l (yield_value v (sign (between_mark b) k r)) (when_true (l intervals) _ (and_left (l intervals) (keeps l v && true) e))
      ∙ run_value l v (and_left (keeps l v) true (and_right (l intervals) (keeps l v && true) e)) (in_square (square_opened o) ∷ K) (sign (between_mark b) k r)
      ∙ onward l r (between_step l b o v k K)
  rebuild_square (up_to o a k) e K r =
      onward l (sign (Tokens.star Open (side_bound a)) k r) (when_true (l intervals) _ (and_left (l intervals) true e)) ∙ onward l r (up_to_step l a o k K)

  rebuild_frame : (f : Frame) → kept_frame l f true ≡ true → (K : Stack) (r : List Tok) → run l (some (want K)) (behind_frame f r) ≡ run l (some (want (f ∷ K))) r
  rebuild_frame (in_round f) e K r = rebuild_round f e K r
  rebuild_frame (Frame.in_curly f) e K r = rebuild_curly f e K r
  rebuild_frame (in_square f) e K r = rebuild_square f e K r

  -- ---- a stack

  pub rebuild : (K : Stack) → kept_stack l K true ≡ true → (r : List Tok) → runs l (behind_stack K r) ≡ run l (some (want K)) r
  rebuild [] e r = refl
  rebuild (f ∷ K) e r =
      let d : kept_frame l f true ≡ true = stack_inner K (kept_frame l f true) e in
      rebuild K (subst (λ (x : Bool). kept_stack l K x ≡ true) d e) (behind_frame f r) ∙ rebuild_frame f d K r
