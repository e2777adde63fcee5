-- Tokens have one tree at most: every tree is of the level that has all forms. Assumes nothing.
use mathlib.Core.Path.{◌≡◌, refl}
use mathlib.Core.Bool.{true}
use mathlib.Core.List.{[]}
use Rattle.rules.proofs.Bools.{and_both}
use Rattle.grammar.specs.Tree
use Rattle.grammar.specs.Tree.{Arrow, rightward, leftward, Joiner, Collection, array, set, bag, Style, Value, Plain, Item, Row, Listing, Attributes, Bounds}
use Rattle.grammar.specs.Yield.{yield_value}
use Rattle.grammar.specs.Level.{Level, has_collection, has_arrow_of, has_joiner, keeps, keeps_plain, keeps_item, keeps_row, keeps_listing, keeps_attributes, keeps_bounds}
use Rattle.grammar.proofs.Accepts.{same_tree}

abbrev pub every_form : Level
every_form f = true

all_collections : (h : Collection) → has_collection every_form h ≡ true
all_collections array = refl
all_collections set = refl
all_collections bag = refl

all_arrows : (a : Arrow) → has_arrow_of every_form a ≡ true
all_arrows rightward = refl
all_arrows leftward = refl

all_joiners : (j : Joiner) → has_joiner every_form j ≡ true
all_joiners Tree.colon = refl
all_joiners (Tree.arrow a) = all_arrows a

mutual
  pub all_values : (v : Value) → keeps every_form v ≡ true
  all_values (Tree.plain p) = all_plain p
  all_values (Tree.bare h s) = refl

  all_plain : (p : Plain) → keeps_plain every_form p ≡ true
  all_plain (Tree.literal a s) = refl
  all_plain (Tree.text w s) = refl
  all_plain (Tree.nesting n) = refl
  all_plain (Tree.group o v c) = all_values v
  all_plain (Tree.pair o p k v c) = and_both _ _ (all_plain p) (all_values v)
  all_plain (Tree.arrowed o v a k w c) = and_both _ _ (and_both _ _ (all_values v) (all_arrows a)) (all_values w)
  all_plain (Tree.tuple o i c) = all_attributes i
  all_plain (Tree.lot o i c) = all_listings i
  all_plain (Tree.counted o h s k b i e c) = and_both _ _ (all_collections h) (all_listings i)
  all_plain (Tree.interval o b c) = all_bounds b

  all_items : {s : Style} (i : Item s) → keeps_item every_form i ≡ true
  all_items (Tree.alone v) = all_values v
  all_items (Tree.open_named n k v) = all_values v
  all_items (Tree.named n k v) = all_values v
  all_items (Tree.joined v j k w) = and_both _ _ (and_both _ _ (all_values v) (all_joiners j)) (all_values w)
  all_items (Tree.times v k c) = all_values v

  all_rows : {f s : Style} (r : Row f s) → keeps_row every_form r ≡ true
  all_rows (Tree.row_first i c) = all_items i
  all_rows (Tree.row_led b i c) = all_items i
  all_rows (Tree.row_next r i c) = and_both _ _ (all_rows r) (all_items i)

  all_listings : {s : Style} (i : Listing s) → keeps_listing every_form i ≡ true
  all_listings Tree.no_item = refl
  all_listings (Tree.one_comma c) = refl
  all_listings (Tree.two_commas c d) = refl
  all_listings (Tree.one_item i) = all_items i
  all_listings (Tree.led_item c i) = all_items i
  all_listings (Tree.trailing r) = all_rows r
  all_listings (Tree.last_item r i) = and_both _ _ (all_rows r) (all_items i)

  all_attributes : (i : Attributes) → keeps_attributes every_form i ≡ true
  all_attributes Tree.no_attribute = refl
  all_attributes (Tree.led_attribute c i) = all_items i
  all_attributes (Tree.trailing_comma r) = all_rows r
  all_attributes (Tree.last_attribute r i) = and_both _ _ (all_rows r) (all_items i)

  all_bounds : (b : Bounds) → keeps_bounds every_form b ≡ true
  all_bounds Tree.empty = refl
  all_bounds (Tree.single v) = all_values v
  all_bounds (Tree.between v b k w) = and_both _ _ (all_values v) (all_values w)
  all_bounds (Tree.from v a k) = all_values v
  all_bounds (Tree.up_to a k v) = all_values v
  all_bounds (Tree.all k) = refl

pub one_tree : (v w : Value) → yield_value v [] ≡ yield_value w [] → v ≡ w
one_tree v w e = same_tree every_form v w (all_values v) (all_values w) e
