-- Places of items on the stack, and the steps that end an item: what completeness is put together from. Assumes nothing.
use mathlib.Core.Path.{◌≡◌, refl}
use mathlib.Core.Bool.{Bool, true, false, false≢true}
use mathlib.Core.List.{◌∷◌}
use mathlib.Core.Option.{some}
use Rattle.lexicon.specs.declared.Bound.TheVariants.{Open}
use Rattle.grammar.specs.Tokens
use Rattle.grammar.specs.Tokens.{Span, tok}
use Rattle.grammar.specs.Tree
use Rattle.grammar.specs.Tree.{PlainName, text_name, nesting_name, plain_name, Arrow, rightward, leftward, Joiner, Collection, array, set, bag, counted_by, Side, less, less_equal, Between, two_dots, star_sign, Style, opening, attribute, member, copy, Value, Plain, Item, Row}
use Rattle.grammar.specs.Yield.{arrow_mark, joiner_mark, side_bound, between_mark, collection_head}
use Rattle.grammar.specs.Level.{Level, has_collection, has_arrow_of, has_joiner}
use Rattle.grammar.proofs.Frames.{Lead, lead_comma, lead_row, Front, start, led, row, Curly, lot_curly, counted_curly, opened, pair_colon, pair_arrow, in_tuple, attribute_name, CurlyFrame, member_joined, square_opened, low_and, up_to, Frame, in_round, in_square, Stack, two_commas, bounded, Config, want, have, want_curly, have_item, want_close, next_attribute, last_attribute, next_item, last_item, no_further, shut}
use Rattle.grammar.proofs.Machine.{when, step}

-- a name as the value that the machine takes it for at first
abbrev pub name_value : PlainName → Plain
name_value (text_name w s) = Tree.text w s
name_value (nesting_name n) = Tree.nesting n

-- where an item of the style may stand
pub data Place : Style → Type 0 where
  first_place : Span → Place opening
  next_place : Span → Lead → Place attribute
  lot_place : Span → Front member → Place member
  counted_place : Span → (h : Collection) → Span → Span → Span → Front (copy (counted_by h)) → Place (copy (counted_by h))

abbrev pub frame_at : {s : Style} → Place s → Frame
frame_at (first_place o) = in_round (opened o)
frame_at (next_place o f) = in_round (in_tuple o f)
frame_at (lot_place o f) = Frame.in_curly (CurlyFrame.in_curly (lot_curly o) f)
frame_at (counted_place o h s k b f) = Frame.in_curly (CurlyFrame.in_curly (counted_curly o h s k b) f)

-- the frame behind the item and a comma
abbrev pub frame_after : {s : Style} → Place s → Item s → Span → Frame
frame_after (first_place o) i c = in_round (in_tuple o (lead_row (Tree.row_first i c)))
frame_after (next_place o f) i c = in_round (in_tuple o (lead_row (next_attribute f i c)))
frame_after (lot_place o f) i c = Frame.in_curly (CurlyFrame.in_curly (lot_curly o) (row (next_item f i c)))
frame_after (counted_place o h s k b f) i c = Frame.in_curly (CurlyFrame.in_curly (counted_curly o h s k b) (row (next_item f i c)))

-- the configuration behind the item
abbrev pub item_read : {s : Style} → Item s → Place s → Stack → Config
item_read (Tree.alone v) p K = have v (frame_at p ∷ K)
item_read (Tree.open_named n k v) (first_place o) K = have v (in_round (pair_colon o (name_value n) k) ∷ K)
item_read (Tree.named n k v) (next_place o f) K = have v (in_round (attribute_name o f n k) ∷ K)
item_read (Tree.joined v j k w) (lot_place o f) K = have w (Frame.in_curly (member_joined o f v j k) ∷ K)
item_read (Tree.times v k n) (counted_place o h s j b f) K = have_item (counted_curly o h s j b) f (Tree.times v k n) K

-- what holds a row: a Tuple, whose first attribute has a style of its own, or curly brackets
pub data Holder : Style → Style → Type 0 where
  tuple_holder : Span → Holder opening attribute
  curly_holder : {s : Style} → Curly s → Holder s s

abbrev pub place_in : {s : Style} → Curly s → Front s → Place s
place_in (lot_curly o) f = lot_place o f
place_in (counted_curly o h s k b) f = counted_place o h s k b f

abbrev pub first_in : {f s : Style} → Holder f s → Place f
first_in (tuple_holder o) = first_place o
first_in (curly_holder c) = place_in c start

abbrev pub led_in : {f s : Style} → Holder f s → Span → Place s
led_in (tuple_holder o) b = next_place o (lead_comma b)
led_in (curly_holder c) b = place_in c (led b)

abbrev pub row_in : {f s : Style} → Holder f s → Row f s → Place s
row_in (tuple_holder o) r = next_place o (lead_row r)
row_in (curly_holder c) r = place_in c (row r)

-- an item with its comma makes the row longer
pub after_first : {f s : Style} (h : Holder f s) (i : Item f) (c : Span) → frame_after (first_in h) i c ≡ frame_at (row_in h (Tree.row_first i c))
after_first (tuple_holder o) i c = refl
after_first (curly_holder (lot_curly o)) i c = refl
after_first (curly_holder (counted_curly o h s k b)) i c = refl

pub after_led : {f s : Style} (h : Holder f s) (d : Span) (i : Item s) (c : Span) → frame_after (led_in h d) i c ≡ frame_at (row_in h (Tree.row_led d i c))
after_led (tuple_holder o) d i c = refl
after_led (curly_holder (lot_curly o)) d i c = refl
after_led (curly_holder (counted_curly o h s k b)) d i c = refl

pub after_next : {f s : Style} (h : Holder f s) (r : Row f s) (i : Item s) (c : Span) → frame_after (row_in h r) i c ≡ frame_at (row_in h (Tree.row_next r i c))
after_next (tuple_holder o) r i c = refl
after_next (curly_holder (lot_curly o)) r i c = refl
after_next (curly_holder (counted_curly o h s k b)) r i c = refl

-- a form that the level has
pub when_true : (b : Bool) (c : Config) → b ≡ true → when b c ≡ some c
when_true true c e = refl
when_true false c e = absurd (false≢true e)

module _ (l : Level) where
  pub item_comma : {s : Style} (i : Item s) (p : Place s) (K : Stack) (c : Span) → step l (item_read i p K) (tok (Tokens.mark Tokens.comma) c) ≡ some (want (frame_after p i c ∷ K))
  item_comma (Tree.alone v) (first_place o) K c = refl
  item_comma (Tree.alone v) (next_place o f) K c = refl
  item_comma (Tree.alone v) (lot_place o f) K c = refl
  item_comma (Tree.alone v) (counted_place o h s k b f) K c = refl
  item_comma (Tree.open_named (text_name w t) k v) (first_place o) K c = refl
  item_comma (Tree.open_named (nesting_name n) k v) (first_place o) K c = refl
  item_comma (Tree.named n k v) (next_place o f) K c = refl
  item_comma (Tree.joined v j k w) (lot_place o f) K c = refl
  item_comma (Tree.times v k n) (counted_place o h s j b f) K c = refl

  pub attribute_close : (i : Item attribute) (o : Span) (f : Lead) (K : Stack) (c : Span) →
      step l (item_read i (next_place o f) K) (tok (Tokens.mark Tokens.round_close) c) ≡ some (have (Tree.plain (Tree.tuple o (last_attribute f i) c)) K)
  attribute_close (Tree.alone v) o f K c = refl
  attribute_close (Tree.named n k v) o f K c = refl

  pub item_close : {s : Style} (c : Curly s) (f : Front s) (i : Item s) (K : Stack) (e : Span) →
      step l (item_read i (place_in c f) K) (tok (Tokens.mark Tokens.curly_close) e) ≡ some (shut c (last_item f i) e K)
  item_close (lot_curly o) f (Tree.alone v) K e = refl
  item_close (lot_curly o) f (Tree.joined v j k w) K e = refl
  item_close (counted_curly o h s j b) f (Tree.alone v) K e = refl
  item_close (counted_curly o h s j b) f (Tree.times v k n) K e = refl

  pub no_item_close : {s : Style} (c : Curly s) (f : Front s) (K : Stack) (e : Span) →
      step l (want (frame_at (place_in c f) ∷ K)) (tok (Tokens.mark Tokens.curly_close) e) ≡ some (shut c (no_further f) e K)
  no_item_close (lot_curly o) f K e = refl
  no_item_close (counted_curly o h s j b) f K e = refl

  pub led_comma : {f s : Style} (h : Holder f s) (d : Span) (K : Stack) → step l (want (frame_at (first_in h) ∷ K)) (tok (Tokens.mark Tokens.comma) d) ≡ some (want (frame_at (led_in h d) ∷ K))
  led_comma (tuple_holder o) d K = refl
  led_comma (curly_holder (lot_curly o)) d K = refl
  led_comma (curly_holder (counted_curly o h s k b)) d K = refl

  pub second_comma : {s : Style} (c : Curly s) (a b : Span) (K : Stack) → step l (want (frame_at (place_in c (led a)) ∷ K)) (tok (Tokens.mark Tokens.comma) b) ≡ some (want_close (two_commas c a b) K)
  second_comma (lot_curly o) a b K = refl
  second_comma (counted_curly o h s k d) a b K = refl

  -- ---- the sign between two values

  pub arrow_step : (a : Arrow) → has_arrow_of l a ≡ true → (o : Span) (v : Value) (k : Span) (K : Stack) →
      step l (have v (in_round (opened o) ∷ K)) (tok (Tokens.mark (arrow_mark a)) k) ≡ some (want (in_round (pair_arrow o v a k) ∷ K))
  arrow_step rightward e o v k K = refl
  arrow_step leftward e o v k K = when_true _ _ e

  pub join_step : (j : Joiner) → has_joiner l j ≡ true → (o : Span) (f : Front member) (v : Value) (k : Span) (K : Stack) →
      step l (have v (frame_at (lot_place o f) ∷ K)) (tok (Tokens.mark (joiner_mark j)) k) ≡ some (want (Frame.in_curly (member_joined o f v j k) ∷ K))
  join_step Tree.colon e o f v k K = refl
  join_step (Tree.arrow rightward) e o f v k K = refl
  join_step (Tree.arrow leftward) e o f v k K = when_true _ _ e

  pub between_step : (b : Between) (o : Span) (v : Value) (k : Span) (K : Stack) →
      step l (have v (in_square (square_opened o) ∷ K)) (tok (Tokens.mark (between_mark b)) k) ≡ some (want (in_square (low_and o v b k) ∷ K))
  between_step two_dots o v k K = refl
  between_step (star_sign less less) o v k K = refl
  between_step (star_sign less less_equal) o v k K = refl
  between_step (star_sign less_equal less) o v k K = refl
  between_step (star_sign less_equal less_equal) o v k K = refl

  pub from_step : (a : Side) (o : Span) (v : Value) (k : Span) (K : Stack) →
      step l (have v (in_square (square_opened o) ∷ K)) (tok (Tokens.mark (Tokens.star (side_bound a) Open)) k) ≡ some (want_close (bounded o (Tree.from v a k)) K)
  from_step less o v k K = refl
  from_step less_equal o v k K = refl

  pub up_to_step : (a : Side) (o k : Span) (K : Stack) →
      step l (want (in_square (square_opened o) ∷ K)) (tok (Tokens.mark (Tokens.star Open (side_bound a))) k) ≡ some (want (in_square (up_to o a k) ∷ K))
  up_to_step less o k K = refl
  up_to_step less_equal o k K = refl

  pub head_step : (h : Collection) → has_collection l h ≡ true → (o s k : Span) (K : Stack) →
      step l (have (Tree.bare (collection_head h) s) (in_round (opened o) ∷ K)) (tok (Tokens.mark Tokens.colon) k) ≡ some (want_curly o h s k K)
  head_step array e o s k K = when_true _ _ e
  head_step set e o s k K = when_true _ _ e
  head_step bag e o s k K = when_true _ _ e

  -- a name in a Tuple behind a comma
  pub name_step : (n : PlainName) (o : Span) (f : Lead) (k : Span) (K : Stack) →
      step l (have (Tree.plain (name_value n)) (in_round (in_tuple o f) ∷ K)) (tok (Tokens.mark Tokens.colon) k) ≡ some (want (in_round (attribute_name o f (plain_name n) k) ∷ K))
  name_step (text_name w s) o f k K = refl
  name_step (nesting_name m) o f k K = refl
