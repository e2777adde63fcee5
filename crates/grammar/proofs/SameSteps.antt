-- Two levels: a step is the same at both unless the token needs a form that one of them lacks. Assumes nothing.
use mathlib.Core.Path.{◌≡◌, refl, ap}
use mathlib.Core.Bool.{Bool}
use mathlib.Core.List.{[], ◌∷◌}
use Rattle.lexicon.specs.declared.Head.{Head}
use Rattle.grammar.specs.Tokens
use Rattle.grammar.specs.Tokens.{Span, Tok, Mark, Class}
use Rattle.grammar.specs.Tree
use Rattle.grammar.specs.Tree.{Arrow, rightward, leftward, Style, Value}
use Rattle.grammar.specs.Level.{Level, intervals, left_arrows, has_head, has_arrow_of}
use Rattle.grammar.proofs.Frames.{Front, Curly, lot_curly, counted_curly, RoundFrame, opened, pair_colon, pair_arrow, in_tuple, attribute_name, CurlyFrame, member_joined, Frame, in_round, in_square, Stack, Config, want, have, want_text, want_curly, want_count, have_item, want_close}
use Rattle.grammar.proofs.Machine.{when, head_colon, colon_first_of, colon_round, arrow_round, arrow_in, arrow, behind_mark, have_mark, want_class, have_class, step}

-- the forms that a step may need: Intervals at `[` where a value is wanted, the head at its `:`
pub record SameForms (a b : Level) (c : Config) (t : Tok) : Type 0 where
  pub bracket : (K : Stack) → c ≡ want K → t.class ≡ Tokens.square → a intervals ≡ b intervals
  pub head : (h : Head) (s o : Span) (K : Stack) → c ≡ have (Tree.bare h s) (in_round (opened o) ∷ K) → t.class ≡ Tokens.mark Tokens.colon → has_head a h ≡ has_head b h
  pub arrow : t.class ≡ Tokens.mark Tokens.left_arrow → a left_arrows ≡ b left_arrows

module _ (a b : Level) where
  when_same : {x y : Bool} (c : Config) → x ≡ y → when x c ≡ when y c
  when_same c e = ap (λ (z : Bool). when z c) e

  -- the backward arrow, if the arrow is it
  abbrev ArrowSame : Arrow → Type 0
  ArrowSame d = has_arrow_of a d ≡ has_arrow_of b d

  head_same : (h : Head) (o s k : Span) (K : Stack) → has_head a h ≡ has_head b h → head_colon a h o s k K ≡ head_colon b h o s k K
  head_same Head.Array o s k K e = when_same _ e
  head_same Head.Set o s k K e = when_same _ e
  head_same Head.Bag o s k K e = when_same _ e
  head_same Head.Mix o s k K e = refl
  head_same Head.IntervalSet o s k K e = refl
  head_same Head.IntervalBag o s k K e = refl
  head_same Head.TupleArray o s k K e = refl
  head_same Head.Relation o s k K e = refl
  head_same Head.TupleBag o s k K e = refl
  head_same Head.Article o s k K e = refl
  head_same Head.Excuse o s k K e = refl
  head_same Head.Heading o s k K e = refl
  head_same Head.Renaming o s k K e = refl

  -- the head that the value is, if it stands directly behind `(`
  abbrev HeadSame : Value → Stack → Type 0
  HeadSame v K = (h : Head) (s o : Span) (L : Stack) → v ≡ Tree.bare h s → K ≡ in_round (opened o) ∷ L → has_head a h ≡ has_head b h

  colon_first_same : (v : Value) (o k : Span) (K : Stack) → HeadSame v (in_round (opened o) ∷ K) → colon_first_of a v o k K ≡ colon_first_of b v o k K
  colon_first_same (Tree.plain p) o k K g = refl
  colon_first_same (Tree.bare h s) o k K g = head_same h o s k K (g h s o K refl refl)

  colon_round_same : (f : RoundFrame) (v : Value) (k : Span) (K : Stack) → HeadSame v (in_round f ∷ K) → colon_round a f v k K ≡ colon_round b f v k K
  colon_round_same (opened o) v k K g = colon_first_same v o k K g
  colon_round_same (pair_colon o p i) v k K g = refl
  colon_round_same (pair_arrow o w d i) v k K g = refl
  colon_round_same (in_tuple o f) v k K g = refl
  colon_round_same (attribute_name o f n i) v k K g = refl

  arrow_round_same : (f : RoundFrame) (v : Value) (d : Arrow) (k : Span) (K : Stack) → ArrowSame d → arrow_round a f v d k K ≡ arrow_round b f v d k K
  arrow_round_same (opened o) v d k K g = when_same _ g
  arrow_round_same (pair_colon o p i) v d k K g = refl
  arrow_round_same (pair_arrow o w e i) v d k K g = refl
  arrow_round_same (in_tuple o f) v d k K g = refl
  arrow_round_same (attribute_name o f n i) v d k K g = refl

  arrow_in_same : {s : Style} (c : Curly s) (f : Front s) (v : Value) (d : Arrow) (k : Span) (K : Stack) → ArrowSame d → arrow_in a c f v d k K ≡ arrow_in b c f v d k K
  arrow_in_same (lot_curly o) f v d k K g = when_same _ g
  arrow_in_same (counted_curly o h s j e) f v d k K g = refl

  arrows_same : (d : Arrow) (f : Frame) (v : Value) (k : Span) (K : Stack) → ArrowSame d → arrow a d f v k K ≡ arrow b d f v k K
  arrows_same d (in_round f) v k K g = arrow_round_same f v d k K g
  arrows_same d (Frame.in_curly (CurlyFrame.in_curly c f)) v k K g = arrow_in_same c f v d k K g
  arrows_same d (Frame.in_curly (member_joined o f w j i)) v k K g = refl
  arrows_same d (in_square f) v k K g = refl

  behind_same : (m : Mark) (f : Frame) (v : Value) (s : Span) (K : Stack) → (m ≡ Tokens.colon → HeadSame v (f ∷ K)) → (m ≡ Tokens.left_arrow → a left_arrows ≡ b left_arrows) → behind_mark a m f v s K ≡ behind_mark b m f v s K
  behind_same Tokens.round_close (in_round f) v s K g r = refl
  behind_same Tokens.round_close (Frame.in_curly f) v s K g r = refl
  behind_same Tokens.round_close (in_square f) v s K g r = refl
  behind_same Tokens.curly_close (in_round f) v s K g r = refl
  behind_same Tokens.curly_close (Frame.in_curly f) v s K g r = refl
  behind_same Tokens.curly_close (in_square f) v s K g r = refl
  behind_same Tokens.square_close (in_round f) v s K g r = refl
  behind_same Tokens.square_close (Frame.in_curly f) v s K g r = refl
  behind_same Tokens.square_close (in_square f) v s K g r = refl
  behind_same Tokens.comma (in_round f) v s K g r = refl
  behind_same Tokens.comma (Frame.in_curly f) v s K g r = refl
  behind_same Tokens.comma (in_square f) v s K g r = refl
  behind_same Tokens.colon (in_round f) v s K g r = colon_round_same f v s K (g refl)
  behind_same Tokens.colon (Frame.in_curly f) v s K g r = refl
  behind_same Tokens.colon (in_square f) v s K g r = refl
  behind_same Tokens.right_arrow f v s K g r = arrows_same rightward f v s K refl
  behind_same Tokens.left_arrow f v s K g r = arrows_same leftward f v s K (r refl)
  behind_same Tokens.dots (in_round f) v s K g r = refl
  behind_same Tokens.dots (Frame.in_curly f) v s K g r = refl
  behind_same Tokens.dots (in_square f) v s K g r = refl
  behind_same (Tokens.star x y) (in_round f) v s K g r = refl
  behind_same (Tokens.star x y) (Frame.in_curly f) v s K g r = refl
  behind_same (Tokens.star x y) (in_square f) v s K g r = refl

  have_mark_same : (m : Mark) (v : Value) (s : Span) (K : Stack) → (m ≡ Tokens.colon → HeadSame v K) → (m ≡ Tokens.left_arrow → a left_arrows ≡ b left_arrows) → have_mark a m v s K ≡ have_mark b m v s K
  have_mark_same m v s [] g r = refl
  have_mark_same m v s (f ∷ K) g r = behind_same m f v s K g r

  want_same : (k : Class) (s : Span) (K : Stack) → (k ≡ Tokens.square → a intervals ≡ b intervals) → want_class a k s K ≡ want_class b k s K
  want_same (Tokens.atom x) s K g = refl
  want_same (Tokens.text w) s K g = refl
  want_same Tokens.names s K g = refl
  want_same Tokens.round s K g = refl
  want_same Tokens.curly s K g = refl
  want_same Tokens.square s K g = when_same _ (g refl)
  want_same (Tokens.mark m) s K g = refl
  want_same Tokens.later s K g = refl

  have_same : (k : Class) (v : Value) (s : Span) (K : Stack) → (k ≡ Tokens.mark Tokens.colon → HeadSame v K) → (k ≡ Tokens.mark Tokens.left_arrow → a left_arrows ≡ b left_arrows) → have_class a k v s K ≡ have_class b k v s K
  have_same (Tokens.atom x) v s K g r = refl
  have_same (Tokens.text w) v s K g r = refl
  have_same Tokens.names v s K g r = refl
  have_same Tokens.round v s K g r = refl
  have_same Tokens.curly v s K g r = refl
  have_same Tokens.square v s K g r = refl
  have_same (Tokens.mark m) v s K g r = have_mark_same m v s K (λ e. g (ap Tokens.mark e)) (λ e. r (ap Tokens.mark e))
  have_same Tokens.later v s K g r = refl

  pub step_same : (c : Config) (t : Tok) → SameForms a b c t → step a c t ≡ step b c t
  step_same (want K) t g = want_same t.class t.at K (λ e. g.bracket K refl e)
  step_same (have v K) t g = have_same t.class v t.at K (λ e h s o L p q. g.head h s o L (λ i. have (p i) (q i)) e) (λ e. g.arrow e)
  step_same (want_text n o K) t g = refl
  step_same (want_curly o h s k K) t g = refl
  step_same (want_count c f v k K) t g = refl
  step_same (have_item c f i K) t g = refl
  step_same (want_close c K) t g = refl
