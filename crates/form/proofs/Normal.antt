-- The tree whose tokens the plain form is: groups gone, `->` and `<-` turned to `:`, commas between members only, head words quoted.
-- Assumes nothing.
use Rattle.grammar.specs.Tokens
use Rattle.grammar.specs.Tokens.{Span, Wording, spelled, quoted}
use Rattle.grammar.specs.Tree
use Rattle.grammar.specs.Tree.{Names, one_name, more_names, PlainName, text_name, nesting_name, Name, plain_name, bare_name, Arrow, rightward, leftward, Joiner, Style, Value, Plain, Item, Row, Listing, Attributes, Bounds}

-- ---- names

abbrev pub norm_wording : Wording → Wording
norm_wording (spelled x) = spelled x
norm_wording (Tokens.head_word h) = spelled quoted

abbrev pub norm_names : Names → Names
norm_names (one_name s x t) = one_name s (norm_wording x) t
norm_names (more_names n s x t) = more_names (norm_names n) s (norm_wording x) t

abbrev pub norm_plain_name : PlainName → PlainName
norm_plain_name (text_name x s) = text_name x s
norm_plain_name (nesting_name n) = nesting_name (norm_names n)

abbrev pub norm_name : Name → PlainName
norm_name (plain_name n) = norm_plain_name n
norm_name (bare_name h s) = text_name quoted s

-- this and that of a pair
abbrev pub pair_up : Arrow → Span → Plain → Span → Plain → Span → Plain
pair_up rightward o x k y c = Tree.pair o x k (Tree.plain y) c
pair_up leftward o x k y c = Tree.pair o y k (Tree.plain x) c

abbrev pub join_up : Joiner → Plain → Span → Plain → Item Tree.member
join_up Tree.colon x k y = Tree.joined (Tree.plain x) Tree.colon k (Tree.plain y)
join_up (Tree.arrow rightward) x k y = Tree.joined (Tree.plain x) Tree.colon k (Tree.plain y)
join_up (Tree.arrow leftward) x k y = Tree.joined (Tree.plain y) Tree.colon k (Tree.plain x)

-- an attribute directly behind `(`
abbrev pub opened : Item Tree.attribute → Item Tree.opening
opened (Tree.alone v) = Tree.alone v
opened (Tree.named (plain_name n) k v) = Tree.open_named n k v
opened (Tree.named (bare_name h s) k v) = Tree.open_named (text_name quoted s) k v

-- a row as the members of a Listing, the last without its comma
abbrev pub closed : {s : Style} → Row s s → Listing s
closed (Tree.row_first i c) = Tree.one_item i
closed (Tree.row_led b i c) = Tree.one_item i
closed (Tree.row_next o i c) = Tree.last_item o i

abbrev pub closed_tuple : Row Tree.opening Tree.attribute → Attributes
closed_tuple (Tree.row_first i c) = Tree.trailing_comma (Tree.row_first i c)
closed_tuple (Tree.row_led b i c) = Tree.trailing_comma (Tree.row_first (opened i) c)
closed_tuple (Tree.row_next o i c) = Tree.last_attribute o i

abbrev mutual
  pub norm : Value → Plain
  norm (Tree.plain p) = norm_plain p
  norm (Tree.bare h s) = Tree.text quoted s

  pub norm_plain : Plain → Plain
  norm_plain (Tree.literal a s) = Tree.literal a s
  norm_plain (Tree.text x s) = Tree.text x s
  norm_plain (Tree.nesting n) = Tree.nesting (norm_names n)
  norm_plain (Tree.group o v c) = norm v
  norm_plain (Tree.pair o p k v c) = Tree.pair o (norm_plain p) k (Tree.plain (norm v)) c
  norm_plain (Tree.arrowed o v a k w c) = pair_up a o (norm v) k (norm w) c
  norm_plain (Tree.tuple o l c) = Tree.tuple o (norm_attributes l) c
  norm_plain (Tree.lot o l c) = Tree.lot o (norm_listing l) c
  norm_plain (Tree.counted o h s k b l e c) = Tree.counted o h s k b (norm_listing l) e c
  norm_plain (Tree.interval o b c) = Tree.interval o (norm_bounds b) c

  pub norm_item : {s : Style} → Item s → Item s
  norm_item (Tree.alone v) = Tree.alone (Tree.plain (norm v))
  norm_item (Tree.open_named n k v) = Tree.open_named (norm_plain_name n) k (Tree.plain (norm v))
  norm_item (Tree.named n k v) = Tree.named (plain_name (norm_name n)) k (Tree.plain (norm v))
  norm_item (Tree.joined v j k w) = join_up j (norm v) k (norm w)
  norm_item (Tree.times v k c) = Tree.times (Tree.plain (norm v)) k c

  -- the first item as one of the style t
  pub norm_row : {f s : Style} → Row f s → (t : Style) → (Item f → Item t) → (Item s → Item t) → Row t s
  norm_row (Tree.row_first i c) t g h = Tree.row_first (g (norm_item i)) c
  norm_row (Tree.row_led b i c) t g h = Tree.row_first (h (norm_item i)) c
  norm_row (Tree.row_next o i c) t g h = Tree.row_next (norm_row o t g h) (norm_item i) c

  pub norm_listing : {s : Style} → Listing s → Listing s
  norm_listing Tree.no_item = Tree.no_item
  norm_listing (Tree.one_comma c) = Tree.no_item
  norm_listing (Tree.two_commas c d) = Tree.no_item
  norm_listing (Tree.one_item i) = Tree.one_item (norm_item i)
  norm_listing (Tree.led_item c i) = Tree.one_item (norm_item i)
  norm_listing (Tree.trailing {s} o) = closed (norm_row o s (λ i. i) (λ i. i))
  norm_listing (Tree.last_item {s} o i) = Tree.last_item (norm_row o s (λ i. i) (λ i. i)) (norm_item i)

  pub norm_attributes : Attributes → Attributes
  norm_attributes Tree.no_attribute = Tree.no_attribute
  norm_attributes (Tree.led_attribute c i) = Tree.trailing_comma (Tree.row_first (opened (norm_item i)) c)
  norm_attributes (Tree.trailing_comma o) = closed_tuple (norm_row o Tree.opening (λ i. i) opened)
  norm_attributes (Tree.last_attribute o i) = Tree.last_attribute (norm_row o Tree.opening (λ i. i) opened) (norm_item i)

  pub norm_bounds : Bounds → Bounds
  norm_bounds Tree.empty = Tree.empty
  norm_bounds (Tree.single v) = Tree.single (Tree.plain (norm v))
  norm_bounds (Tree.between v b k w) = Tree.between (Tree.plain (norm v)) b k (Tree.plain (norm w))
  norm_bounds (Tree.from v a k) = Tree.from (Tree.plain (norm v)) a k
  norm_bounds (Tree.up_to a k v) = Tree.up_to a k (Tree.plain (norm v))
  norm_bounds (Tree.all k) = Tree.all k
