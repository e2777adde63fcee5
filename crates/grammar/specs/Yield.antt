-- The tokens that a tree stands for, in front of those that follow. Assumes nothing.
use Rattle.std.specs.Prelude.{false, List, ◌∷◌}
use Rattle.lexicon.specs.declared.Bound.{Bound}
use Rattle.lexicon.specs.declared.Bound.TheVariants.{Open, Less, LessEqual}
use Rattle.lexicon.specs.declared.Head.{Head}
use Rattle.grammar.specs.Tokens
use Rattle.grammar.specs.Tokens.{Span, Tok, tok, Mark, atom, text, names, round, curly, square, mark, boolean}
use Rattle.grammar.specs.Tokens.{integer, spelled, head_word}
use Rattle.grammar.specs.Tree
use Rattle.grammar.specs.Tree.{Names, one_name, more_names, PlainName, text_name, nesting_name, Name, plain_name}
use Rattle.grammar.specs.Tree.{bare_name, Arrow, rightward, leftward, Joiner, Collection, array, set, bag, Measure}
use Rattle.grammar.specs.Tree.{Count, number, truth, Side, less, less_equal, Between, two_dots, star_sign, Style}
use Rattle.grammar.specs.Tree.{Value, Plain, Item, Row, Listing, Attributes, Bounds}

-- a sign with its span, in front of what follows
abbrev pub sign : Mark → Span → List Tok → List Tok
sign m s r = tok (mark m) s ∷ r

abbrev pub arrow_mark : Arrow → Mark
arrow_mark rightward = Tokens.right_arrow
arrow_mark leftward = Tokens.left_arrow

abbrev pub joiner_mark : Joiner → Mark
joiner_mark Tree.colon = Tokens.colon
joiner_mark (Tree.arrow a) = arrow_mark a

abbrev pub side_bound : Side → Bound
side_bound less = Less
side_bound less_equal = LessEqual

abbrev pub between_mark : Between → Mark
between_mark two_dots = Tokens.dots
between_mark (star_sign a b) = Tokens.star (side_bound a) (side_bound b)

abbrev pub collection_head : Collection → Head
collection_head array = Head.Array
collection_head set = Head.Set
collection_head bag = Head.Bag

abbrev pub yield_names : Names → List Tok → List Tok
yield_names (one_name s w t) r = tok names s ∷ tok (text w) t ∷ r
yield_names (more_names n s w t) r = yield_names n (tok names s ∷ tok (text w) t ∷ r)

abbrev pub yield_plain_name : PlainName → List Tok → List Tok
yield_plain_name (text_name w s) r = tok (text (spelled w)) s ∷ r
yield_plain_name (nesting_name n) r = yield_names n r

abbrev pub yield_name : Name → List Tok → List Tok
yield_name (plain_name n) r = yield_plain_name n r
yield_name (bare_name h s) r = tok (text (head_word h)) s ∷ r

-- the count of an Array or a Bag is an unsigned Integer
abbrev pub yield_count : {u : Measure} → Count u → List Tok → List Tok
yield_count (number s) r = tok (atom (integer false)) s ∷ r
yield_count (truth b s) r = tok (atom (boolean b)) s ∷ r

abbrev mutual
  pub yield_value : Value → List Tok → List Tok
  yield_value (Tree.plain p) r = yield_plain p r
  yield_value (Tree.bare h s) r = tok (text (head_word h)) s ∷ r

  pub yield_plain : Plain → List Tok → List Tok
  yield_plain (Tree.literal a s) r = tok (atom a) s ∷ r
  yield_plain (Tree.text w s) r = tok (text (spelled w)) s ∷ r
  yield_plain (Tree.nesting n) r = yield_names n r
  yield_plain (Tree.group o v c) r = tok round o ∷ yield_value v (sign Tokens.round_close c r)
  yield_plain (Tree.pair o p k v c) r =
      tok round o ∷ yield_plain p (sign Tokens.colon k (yield_value v (sign Tokens.round_close c r)))
  yield_plain (Tree.arrowed o v a k w c) r =
      tok round o ∷ yield_value v (sign (arrow_mark a) k (yield_value w (sign Tokens.round_close c r)))
  yield_plain (Tree.tuple o l c) r = tok round o ∷ yield_attributes l (sign Tokens.round_close c r)
  yield_plain (Tree.lot o l c) r = tok curly o ∷ yield_listing l (sign Tokens.curly_close c r)
  yield_plain (Tree.counted o h s k b l e c) r =
      tok round o ∷ tok (text (head_word (collection_head h))) s ∷
      sign Tokens.colon k (tok curly b ∷ yield_listing l (sign Tokens.curly_close e (sign Tokens.round_close c r)))
  yield_plain (Tree.interval o b c) r = tok square o ∷ yield_bounds b (sign Tokens.square_close c r)

  pub yield_item : {s : Style} → Item s → List Tok → List Tok
  yield_item (Tree.alone v) r = yield_value v r
  yield_item (Tree.open_named n k v) r = yield_plain_name n (sign Tokens.colon k (yield_value v r))
  yield_item (Tree.named n k v) r = yield_name n (sign Tokens.colon k (yield_value v r))
  yield_item (Tree.joined v j k w) r = yield_value v (sign (joiner_mark j) k (yield_value w r))
  yield_item (Tree.times v k c) r = yield_value v (sign Tokens.colon k (yield_count c r))

  pub yield_row : {f s : Style} → Row f s → List Tok → List Tok
  yield_row (Tree.row_first i c) r = yield_item i (sign Tokens.comma c r)
  yield_row (Tree.row_led b i c) r = sign Tokens.comma b (yield_item i (sign Tokens.comma c r))
  yield_row (Tree.row_next o i c) r = yield_row o (yield_item i (sign Tokens.comma c r))

  pub yield_listing : {s : Style} → Listing s → List Tok → List Tok
  yield_listing Tree.no_item r = r
  yield_listing (Tree.one_comma c) r = sign Tokens.comma c r
  yield_listing (Tree.two_commas c d) r = sign Tokens.comma c (sign Tokens.comma d r)
  yield_listing (Tree.one_item i) r = yield_item i r
  yield_listing (Tree.led_item c i) r = sign Tokens.comma c (yield_item i r)
  yield_listing (Tree.trailing o) r = yield_row o r
  yield_listing (Tree.last_item o i) r = yield_row o (yield_item i r)

  pub yield_attributes : Attributes → List Tok → List Tok
  yield_attributes Tree.no_attribute r = r
  yield_attributes (Tree.led_attribute c i) r = sign Tokens.comma c (yield_item i r)
  yield_attributes (Tree.trailing_comma o) r = yield_row o r
  yield_attributes (Tree.last_attribute o i) r = yield_row o (yield_item i r)

  pub yield_bounds : Bounds → List Tok → List Tok
  yield_bounds Tree.empty r = r
  yield_bounds (Tree.single v) r = yield_value v r
  yield_bounds (Tree.between v b k w) r = yield_value v (sign (between_mark b) k (yield_value w r))
  yield_bounds (Tree.from v a k) r = yield_value v (sign (Tokens.star (side_bound a) Open) k r)
  yield_bounds (Tree.up_to a k v) r = sign (Tokens.star Open (side_bound a)) k (yield_value v r)
  yield_bounds (Tree.all k) r = sign (Tokens.star Open Open) k r
