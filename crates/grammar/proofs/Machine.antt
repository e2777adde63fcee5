-- The machine over tokens, for any level: one step is determined by the mode, the top frame and the token. Assumes nothing.
use mathlib.Core.Bool.{Bool, true, false}
use mathlib.Core.List.{List, [], ◌∷◌}
use mathlib.Core.Option.{Option, none, some}
use Rattle.lexicon.specs.declared.Bound.{Bound}
use Rattle.lexicon.specs.declared.Bound.TheVariants.{Open, Less, LessEqual}
use Rattle.lexicon.specs.declared.Head.{Head}
use Rattle.grammar.specs.Tokens
use Rattle.grammar.specs.Tokens.{Span, Tok, Atom, Wording, Mark, Class}
use Rattle.grammar.specs.Tree
use Rattle.grammar.specs.Tree.{Names, PlainName, Name, Arrow, rightward, leftward, Collection, array, set, bag, Measure, by_number, by_truth, Count, Side, less, less_equal, Between, two_dots, star_sign, Style, member, copy, Value, Plain}
use Rattle.grammar.specs.Level.{Level, intervals, arrays, sets, bags, has_arrow_of}
use Rattle.grammar.proofs.Frames.{Lead, lead_comma, lead_row, Front, start, led, row, Curly, lot_curly, counted_curly, RoundFrame, opened, pair_colon, pair_arrow, in_tuple, attribute_name, CurlyFrame, member_joined, SquareFrame, square_opened, low_and, up_to, Frame, in_round, in_square, Stack, Closing, two_commas, headed, bounded, Config, want, have, want_text, want_curly, want_count, have_item, want_close, next_names, next_attribute, last_attribute, next_item, last_item, no_further, shut, plain_name_of, name_of, names_of}

-- a form that the level may lack
abbrev pub when : Bool → Config → Option Config
when true c = some c
when false c = none

abbrev pub text_value : Wording → Span → Value
text_value (Tokens.spelled w) s = Tree.plain (Tree.text w s)
text_value (Tokens.head_word h) s = Tree.bare h s

abbrev pub round : RoundFrame → Stack → Config
round f K = want (in_round f ∷ K)

abbrev pub curly : {s : Style} → Curly s → Front s → Stack → Config
curly c f K = want (Frame.in_curly (CurlyFrame.in_curly c f) ∷ K)

abbrev pub joined : Span → Front member → Value → Tree.Joiner → Span → Stack → Config
joined o f v j k K = want (Frame.in_curly (member_joined o f v j k) ∷ K)

abbrev pub square : SquareFrame → Stack → Config
square f K = want (in_square f ∷ K)

abbrev pub done : Plain → Stack → Option Config
done p K = some (have (Tree.plain p) K)

-- ---- where a value is wanted, a sign that begins none

abbrev pub empty_round : RoundFrame → Span → Stack → Option Config
empty_round (opened o) c K = done (Tree.tuple o Tree.no_attribute c) K
empty_round (pair_colon o p k) c K = none
empty_round (pair_arrow o v a k) c K = none
empty_round (in_tuple o (lead_comma b)) c K = none
empty_round (in_tuple o (lead_row r)) c K = done (Tree.tuple o (Tree.trailing_comma r) c) K
empty_round (attribute_name o f n k) c K = none

abbrev pub empty_curly : CurlyFrame → Span → Stack → Option Config
empty_curly (CurlyFrame.in_curly c f) e K = some (shut c (no_further f) e K)
empty_curly (member_joined o f v j k) e K = none

abbrev pub empty_square : SquareFrame → Span → Stack → Option Config
empty_square (square_opened o) c K = done (Tree.interval o Tree.empty c) K
empty_square (low_and o v b k) c K = none
empty_square (up_to o a k) c K = none

abbrev pub lead_round : RoundFrame → Span → Stack → Option Config
lead_round (opened o) c K = some (round (in_tuple o (lead_comma c)) K)
lead_round (pair_colon o p k) c K = none
lead_round (pair_arrow o v a k) c K = none
lead_round (in_tuple o f) c K = none
lead_round (attribute_name o f n k) c K = none

abbrev pub lead_curly : CurlyFrame → Span → Stack → Option Config
lead_curly (CurlyFrame.in_curly c start) d K = some (curly c (led d) K)
lead_curly (CurlyFrame.in_curly c (led b)) d K = some (want_close (two_commas c b d) K)
lead_curly (CurlyFrame.in_curly c (row r)) d K = none
lead_curly (member_joined o f v j k) d K = none

abbrev pub star_right : Bound → Span → Span → Stack → Option Config
star_right Open o k K = some (want_close (bounded o (Tree.all k)) K)
star_right Less o k K = some (square (up_to o less k) K)
star_right LessEqual o k K = some (square (up_to o less_equal k) K)

abbrev pub lead_star : SquareFrame → Bound → Bound → Span → Stack → Option Config
lead_star (square_opened o) Open b k K = star_right b o k K
lead_star (square_opened o) Less b k K = none
lead_star (square_opened o) LessEqual b k K = none
lead_star (low_and o v d j) a b k K = none
lead_star (up_to o d j) a b k K = none

abbrev pub lead_mark : Mark → Frame → Span → Stack → Option Config
lead_mark Tokens.round_close (in_round f) s K = empty_round f s K
lead_mark Tokens.round_close (Frame.in_curly f) s K = none
lead_mark Tokens.round_close (in_square f) s K = none
lead_mark Tokens.curly_close (in_round f) s K = none
lead_mark Tokens.curly_close (Frame.in_curly f) s K = empty_curly f s K
lead_mark Tokens.curly_close (in_square f) s K = none
lead_mark Tokens.square_close (in_round f) s K = none
lead_mark Tokens.square_close (Frame.in_curly f) s K = none
lead_mark Tokens.square_close (in_square f) s K = empty_square f s K
lead_mark Tokens.comma (in_round f) s K = lead_round f s K
lead_mark Tokens.comma (Frame.in_curly f) s K = lead_curly f s K
lead_mark Tokens.comma (in_square f) s K = none
lead_mark Tokens.colon f s K = none
lead_mark Tokens.right_arrow f s K = none
lead_mark Tokens.left_arrow f s K = none
lead_mark Tokens.dots f s K = none
lead_mark (Tokens.star a b) (in_round f) s K = none
lead_mark (Tokens.star a b) (Frame.in_curly f) s K = none
lead_mark (Tokens.star a b) (in_square f) s K = lead_star f a b s K

abbrev pub want_mark : Mark → Span → Stack → Option Config
want_mark m s [] = none
want_mark m s (f ∷ K) = lead_mark m f s K

-- ---- behind a value

abbrev pub close_round : RoundFrame → Value → Span → Stack → Option Config
close_round (opened o) v c K = done (Tree.group o v c) K
close_round (pair_colon o p k) v c K = done (Tree.pair o p k v c) K
close_round (pair_arrow o w a k) v c K = done (Tree.arrowed o w a k v c) K
close_round (in_tuple o f) v c K = done (Tree.tuple o (last_attribute f (Tree.alone v)) c) K
close_round (attribute_name o f n k) v c K = done (Tree.tuple o (last_attribute f (Tree.named n k v)) c) K

abbrev pub close_curly : CurlyFrame → Value → Span → Stack → Option Config
close_curly (CurlyFrame.in_curly c f) v e K = some (shut c (last_item f (Tree.alone v)) e K)
close_curly (member_joined o f w j k) v e K = some (shut (lot_curly o) (last_item f (Tree.joined w j k v)) e K)

abbrev pub close_square : SquareFrame → Value → Span → Stack → Option Config
close_square (square_opened o) v c K = done (Tree.interval o (Tree.single v) c) K
close_square (low_and o w b k) v c K = done (Tree.interval o (Tree.between w b k v) c) K
close_square (up_to o a k) v c K = done (Tree.interval o (Tree.up_to a k v) c) K

-- a first value behind `(` and its `:` are a name only if the value is one
abbrev pub comma_pair_of : Option PlainName → Span → Span → Value → Span → Stack → Option Config
comma_pair_of none o k v c K = none
comma_pair_of (some n) o k v c K = some (round (in_tuple o (lead_row (Tree.row_first (Tree.open_named n k v) c))) K)

abbrev pub comma_round : RoundFrame → Value → Span → Stack → Option Config
comma_round (opened o) v c K = some (round (in_tuple o (lead_row (Tree.row_first (Tree.alone v) c))) K)
comma_round (pair_colon o p k) v c K = comma_pair_of (plain_name_of p) o k v c K
comma_round (pair_arrow o w a k) v c K = none
comma_round (in_tuple o f) v c K = some (round (in_tuple o (lead_row (next_attribute f (Tree.alone v) c))) K)
comma_round (attribute_name o f n k) v c K = some (round (in_tuple o (lead_row (next_attribute f (Tree.named n k v) c))) K)

abbrev pub comma_curly : CurlyFrame → Value → Span → Stack → Option Config
comma_curly (CurlyFrame.in_curly c f) v d K = some (curly c (row (next_item f (Tree.alone v) d)) K)
comma_curly (member_joined o f w j k) v d K = some (curly (lot_curly o) (row (next_item f (Tree.joined w j k v) d)) K)

abbrev pub colon_attribute_of : Option Name → Span → Lead → Span → Stack → Option Config
colon_attribute_of none o f k K = none
colon_attribute_of (some n) o f k K = some (round (attribute_name o f n k) K)

abbrev pub colon_in : {s : Style} → Curly s → Front s → Value → Span → Stack → Option Config
colon_in (lot_curly o) f v k K = some (joined o f v Tree.colon k K)
colon_in (counted_curly o h s j b) f v k K = some (want_count (counted_curly o h s j b) f v k K)

abbrev pub colon_curly : CurlyFrame → Value → Span → Stack → Option Config
colon_curly (CurlyFrame.in_curly c f) v k K = colon_in c f v k K
colon_curly (member_joined o f w j i) v k K = none

-- `..`, and a star with `<` on both sides
abbrev pub low_sign : SquareFrame → Value → Between → Span → Stack → Option Config
low_sign (square_opened o) v b k K = some (square (low_and o v b k) K)
low_sign (low_and o w d i) v b k K = none
low_sign (up_to o a i) v b k K = none

abbrev pub low_open : SquareFrame → Value → Side → Span → Stack → Option Config
low_open (square_opened o) v a k K = some (want_close (bounded o (Tree.from v a k)) K)
low_open (low_and o w d i) v a k K = none
low_open (up_to o d i) v a k K = none

abbrev pub star_side : SquareFrame → Value → Side → Bound → Span → Stack → Option Config
star_side f v a Open k K = low_open f v a k K
star_side f v a Less k K = low_sign f v (star_sign a less) k K
star_side f v a LessEqual k K = low_sign f v (star_sign a less_equal) k K

abbrev pub star_square : Bound → SquareFrame → Value → Bound → Span → Stack → Option Config
star_square Open f v b k K = none
star_square Less f v b k K = star_side f v less b k K
star_square LessEqual f v b k K = star_side f v less_equal b k K

abbrev pub names_go : Option Names → Span → Stack → Option Config
names_go none s K = none
names_go (some n) s K = some (want_text (some n) s K)

-- ---- the other modes

abbrev pub count_of : (u : Measure) → Atom → Span → Option (Count u)
count_of by_number Tokens.ignorance s = none
count_of by_number (Tokens.boolean b) s = none
count_of by_number (Tokens.integer true) s = none
count_of by_number (Tokens.integer false) s = some (Tree.number s)
count_of by_number Tokens.fraction s = none
count_of by_number Tokens.bits s = none
count_of by_number Tokens.blob s = none
count_of by_truth Tokens.ignorance s = none
count_of by_truth (Tokens.boolean b) s = some (Tree.truth b s)
count_of by_truth (Tokens.integer b) s = none
count_of by_truth Tokens.fraction s = none
count_of by_truth Tokens.bits s = none
count_of by_truth Tokens.blob s = none

abbrev pub counted : {u : Measure} → Option (Count u) → Curly (copy u) → Front (copy u) → Value → Span → Stack → Option Config
counted none c f v k K = none
counted (some n) c f v k K = some (have_item c f (Tree.times v k n) K)

abbrev pub item_mark : {s : Style} → Mark → Curly s → Front s → Tree.Item s → Span → Stack → Option Config
item_mark Tokens.round_close c f i s K = none
item_mark Tokens.curly_close c f i s K = some (shut c (last_item f i) s K)
item_mark Tokens.square_close c f i s K = none
item_mark Tokens.comma c f i s K = some (curly c (row (next_item f i s)) K)
item_mark Tokens.colon c f i s K = none
item_mark Tokens.right_arrow c f i s K = none
item_mark Tokens.left_arrow c f i s K = none
item_mark Tokens.dots c f i s K = none
item_mark (Tokens.star a b) c f i s K = none

abbrev pub closing : Mark → Closing → Span → Stack → Option Config
closing Tokens.round_close (two_commas c a b) s K = none
closing Tokens.round_close (headed o h t k b i e) s K = done (Tree.counted o h t k b i e s) K
closing Tokens.round_close (bounded o b) s K = none
closing Tokens.curly_close (two_commas c a b) s K = some (shut c (Tree.two_commas a b) s K)
closing Tokens.curly_close (headed o h t k b i e) s K = none
closing Tokens.curly_close (bounded o b) s K = none
closing Tokens.square_close (two_commas c a b) s K = none
closing Tokens.square_close (headed o h t k b i e) s K = none
closing Tokens.square_close (bounded o b) s K = done (Tree.interval o b s) K
closing Tokens.comma c s K = none
closing Tokens.colon c s K = none
closing Tokens.right_arrow c s K = none
closing Tokens.left_arrow c s K = none
closing Tokens.dots c s K = none
closing (Tokens.star a b) c s K = none

module _ (l : Level) where
  -- a head and its `:` directly behind `(`
  abbrev pub head_colon : Head → Span → Span → Span → Stack → Option Config
  head_colon Head.Array o s k K = when (l arrays) (want_curly o array s k K)
  head_colon Head.Set o s k K = when (l sets) (want_curly o set s k K)
  head_colon Head.Bag o s k K = when (l bags) (want_curly o bag s k K)
  head_colon Head.Mix o s k K = none
  head_colon Head.IntervalSet o s k K = none
  head_colon Head.IntervalBag o s k K = none
  head_colon Head.TupleArray o s k K = none
  head_colon Head.Relation o s k K = none
  head_colon Head.TupleBag o s k K = none
  head_colon Head.Article o s k K = none
  head_colon Head.Excuse o s k K = none
  head_colon Head.Heading o s k K = none
  head_colon Head.Renaming o s k K = none

  abbrev pub colon_first_of : Value → Span → Span → Stack → Option Config
  colon_first_of (Tree.plain p) o k K = some (round (pair_colon o p k) K)
  colon_first_of (Tree.bare h s) o k K = head_colon h o s k K

  abbrev pub colon_round : RoundFrame → Value → Span → Stack → Option Config
  colon_round (opened o) v k K = colon_first_of v o k K
  colon_round (pair_colon o p i) v k K = none
  colon_round (pair_arrow o w a i) v k K = none
  colon_round (in_tuple o f) v k K = colon_attribute_of (name_of v) o f k K
  colon_round (attribute_name o f n i) v k K = none

  abbrev pub arrow_round : RoundFrame → Value → Arrow → Span → Stack → Option Config
  arrow_round (opened o) v a k K = when (has_arrow_of l a) (round (pair_arrow o v a k) K)
  arrow_round (pair_colon o p i) v a k K = none
  arrow_round (pair_arrow o w b i) v a k K = none
  arrow_round (in_tuple o f) v a k K = none
  arrow_round (attribute_name o f n i) v a k K = none

  abbrev pub arrow_in : {s : Style} → Curly s → Front s → Value → Arrow → Span → Stack → Option Config
  arrow_in (lot_curly o) f v a k K = when (has_arrow_of l a) (joined o f v (Tree.arrow a) k K)
  arrow_in (counted_curly o h s j b) f v a k K = none

  abbrev pub arrow_curly : CurlyFrame → Value → Arrow → Span → Stack → Option Config
  arrow_curly (CurlyFrame.in_curly c f) v a k K = arrow_in c f v a k K
  arrow_curly (member_joined o f w j i) v a k K = none

  abbrev pub arrow : Arrow → Frame → Value → Span → Stack → Option Config
  arrow a (in_round f) v k K = arrow_round f v a k K
  arrow a (Frame.in_curly f) v k K = arrow_curly f v a k K
  arrow a (in_square f) v k K = none

  abbrev pub behind_mark : Mark → Frame → Value → Span → Stack → Option Config
  behind_mark Tokens.round_close (in_round f) v s K = close_round f v s K
  behind_mark Tokens.round_close (Frame.in_curly f) v s K = none
  behind_mark Tokens.round_close (in_square f) v s K = none
  behind_mark Tokens.curly_close (in_round f) v s K = none
  behind_mark Tokens.curly_close (Frame.in_curly f) v s K = close_curly f v s K
  behind_mark Tokens.curly_close (in_square f) v s K = none
  behind_mark Tokens.square_close (in_round f) v s K = none
  behind_mark Tokens.square_close (Frame.in_curly f) v s K = none
  behind_mark Tokens.square_close (in_square f) v s K = close_square f v s K
  behind_mark Tokens.comma (in_round f) v s K = comma_round f v s K
  behind_mark Tokens.comma (Frame.in_curly f) v s K = comma_curly f v s K
  behind_mark Tokens.comma (in_square f) v s K = none
  behind_mark Tokens.colon (in_round f) v s K = colon_round f v s K
  behind_mark Tokens.colon (Frame.in_curly f) v s K = colon_curly f v s K
  behind_mark Tokens.colon (in_square f) v s K = none
  behind_mark Tokens.right_arrow f v s K = arrow rightward f v s K
  behind_mark Tokens.left_arrow f v s K = arrow leftward f v s K
  behind_mark Tokens.dots (in_round f) v s K = none
  behind_mark Tokens.dots (Frame.in_curly f) v s K = none
  behind_mark Tokens.dots (in_square f) v s K = low_sign f v two_dots s K
  behind_mark (Tokens.star a b) (in_round f) v s K = none
  behind_mark (Tokens.star a b) (Frame.in_curly f) v s K = none
  behind_mark (Tokens.star a b) (in_square f) v s K = star_square a f v b s K

  abbrev pub have_mark : Mark → Value → Span → Stack → Option Config
  have_mark m v s [] = none
  have_mark m v s (f ∷ K) = behind_mark m f v s K

  -- ---- one function for each mode

  abbrev pub want_class : Class → Span → Stack → Option Config
  want_class (Tokens.atom a) s K = done (Tree.literal a s) K
  want_class (Tokens.text w) s K = some (have (text_value w s) K)
  want_class Tokens.names s K = some (want_text none s K)
  want_class Tokens.round s K = some (round (opened s) K)
  want_class Tokens.curly s K = some (curly (lot_curly s) start K)
  want_class Tokens.square s K = when (l intervals) (square (square_opened s) K)
  want_class (Tokens.mark m) s K = want_mark m s K
  want_class Tokens.later s K = none

  abbrev pub have_class : Class → Value → Span → Stack → Option Config
  have_class (Tokens.atom a) v s K = none
  have_class (Tokens.text w) v s K = none
  have_class Tokens.names v s K = names_go (names_of v) s K
  have_class Tokens.round v s K = none
  have_class Tokens.curly v s K = none
  have_class Tokens.square v s K = none
  have_class (Tokens.mark m) v s K = have_mark m v s K
  have_class Tokens.later v s K = none

abbrev pub text_class : Class → Option Names → Span → Span → Stack → Option Config
text_class (Tokens.atom a) n o s K = none
text_class (Tokens.text w) n o s K = done (Tree.nesting (next_names n o w s)) K
text_class Tokens.names n o s K = none
text_class Tokens.round n o s K = none
text_class Tokens.curly n o s K = none
text_class Tokens.square n o s K = none
text_class (Tokens.mark m) n o s K = none
text_class Tokens.later n o s K = none

abbrev pub curly_class : Class → Span → Collection → Span → Span → Span → Stack → Option Config
curly_class (Tokens.atom a) o h t k s K = none
curly_class (Tokens.text w) o h t k s K = none
curly_class Tokens.names o h t k s K = none
curly_class Tokens.round o h t k s K = none
curly_class Tokens.curly o h t k s K = some (curly (counted_curly o h t k s) start K)
curly_class Tokens.square o h t k s K = none
curly_class (Tokens.mark m) o h t k s K = none
curly_class Tokens.later o h t k s K = none

abbrev pub count_class : {u : Measure} → Class → Curly (copy u) → Front (copy u) → Value → Span → Span → Stack → Option Config
count_class {u} (Tokens.atom a) c f v k s K = counted (count_of u a s) c f v k K
count_class (Tokens.text w) c f v k s K = none
count_class Tokens.names c f v k s K = none
count_class Tokens.round c f v k s K = none
count_class Tokens.curly c f v k s K = none
count_class Tokens.square c f v k s K = none
count_class (Tokens.mark m) c f v k s K = none
count_class Tokens.later c f v k s K = none

abbrev pub item_class : {t : Style} → Class → Curly t → Front t → Tree.Item t → Span → Stack → Option Config
item_class (Tokens.atom a) c f i s K = none
item_class (Tokens.text w) c f i s K = none
item_class Tokens.names c f i s K = none
item_class Tokens.round c f i s K = none
item_class Tokens.curly c f i s K = none
item_class Tokens.square c f i s K = none
item_class (Tokens.mark m) c f i s K = item_mark m c f i s K
item_class Tokens.later c f i s K = none

abbrev pub close_class : Class → Closing → Span → Stack → Option Config
close_class (Tokens.atom a) c s K = none
close_class (Tokens.text w) c s K = none
close_class Tokens.names c s K = none
close_class Tokens.round c s K = none
close_class Tokens.curly c s K = none
close_class Tokens.square c s K = none
close_class (Tokens.mark m) c s K = closing m c s K
close_class Tokens.later c s K = none

module _ (l : Level) where
  abbrev pub step : Config → Tok → Option Config
  step (want K) t = want_class l t.class t.at K
  step (have v K) t = have_class l t.class v t.at K
  step (want_text n o K) t = text_class t.class n o t.at K
  step (want_curly o h s k K) t = curly_class t.class o h s k t.at K
  step (want_count c f v k K) t = count_class t.class c f v k t.at K
  step (have_item c f i K) t = item_class t.class c f i t.at K
  step (want_close c K) t = close_class t.class c t.at K

  abbrev pub advance : Option Config → Tok → Option Config
  advance none t = none
  advance (some c) t = step c t

  -- none: some token could not be taken
  abbrev pub run : Option Config → List Tok → Option Config
  run m [] = m
  run m (t ∷ ts) = run (advance m t) ts

  -- the tokens of a whole text
  abbrev pub runs : List Tok → Option Config
  runs ts = run (some (want [])) ts
