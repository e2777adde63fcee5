-- Levels: a level is the set of the forms that it has beyond the common ones, so that a further level, or a retired
-- form, is one more set. Assumes nothing.
use Rattle.std.specs.Prelude.{◌≡◌, Bool, true, false, ◌&&◌}
use Rattle.lexicon.specs.declared.Head.{Head}
use Rattle.lexicon.specs.declared.Head.TheVariants.{Array, Set, Bag, Mix, IntervalSet, IntervalBag, TupleArray}
use Rattle.lexicon.specs.declared.Head.TheVariants.{Relation, TupleBag, Article, Excuse, Heading, Renaming}
use Rattle.grammar.specs.Tree
use Rattle.grammar.specs.Tree.{Arrow, rightward, leftward, Joiner, Collection, array, set, bag, Style, Value}
use Rattle.grammar.specs.Tree.{Plain, Item, Row, Listing, Attributes, Bounds}

-- the forms that a level may have or lack; both of 01's levels have the arrow `<-`, and by them places are judged even
-- where it is retired (docs/DECISIONS.md, point 28)
pub data Feature : Type 0 where
  arrays sets bags intervals left_arrows : Feature

abbrev pub Level : Type 0
Level = Feature → Bool

-- 01's table of levels: level 2 has Array, Set, Bag and Interval as well
abbrev pub level1 : Level
level1 arrays = false
level1 sets = false
level1 bags = false
level1 intervals = false
level1 left_arrows = true

abbrev pub level2 : Level
level2 arrays = true
level2 sets = true
level2 bags = true
level2 intervals = true
level2 left_arrows = true

-- a level without the backward arrow: 02, request 6, retires it
abbrev pub arrowless : Level → Level
arrowless l arrays = l arrays
arrowless l sets = l sets
arrowless l bags = l bags
arrowless l intervals = l intervals
arrowless l left_arrows = false

infix 40 ◌Within◌
-- one level's forms are among another's
pub record ◌Within◌ (a b : Level) : Type 0 where
  pub has_too : (f : Feature) → a f ≡ true → b f ≡ true

module _ (l : Level) where
  abbrev pub has_collection : Collection → Bool
  has_collection array = l arrays
  has_collection set = l sets
  has_collection bag = l bags

  -- the heads of the level among the thirteen
  abbrev pub has_head : Head → Bool
  has_head Array = l arrays
  has_head Set = l sets
  has_head Bag = l bags
  has_head Mix = false
  has_head IntervalSet = false
  has_head IntervalBag = false
  has_head TupleArray = false
  has_head Relation = false
  has_head TupleBag = false
  has_head Article = false
  has_head Excuse = false
  has_head Heading = false
  has_head Renaming = false

  abbrev pub has_arrow_of : Arrow → Bool
  has_arrow_of rightward = true
  has_arrow_of leftward = l left_arrows

  abbrev pub has_joiner : Joiner → Bool
  has_joiner Tree.colon = true
  has_joiner (Tree.arrow a) = has_arrow_of a

  -- a tree has only forms of the level
  abbrev mutual
    pub keeps : Value → Bool
    keeps (Tree.plain p) = keeps_plain p
    keeps (Tree.bare h s) = true

    pub keeps_plain : Plain → Bool
    keeps_plain (Tree.literal a s) = true
    keeps_plain (Tree.text w s) = true
    keeps_plain (Tree.nesting n) = true
    keeps_plain (Tree.group o v c) = keeps v
    keeps_plain (Tree.pair o p k v c) = keeps_plain p && keeps v
    keeps_plain (Tree.arrowed o v a k w c) = keeps v && has_arrow_of a && keeps w
    keeps_plain (Tree.tuple o i c) = keeps_attributes i
    keeps_plain (Tree.lot o i c) = keeps_listing i
    keeps_plain (Tree.counted o h s k b i e c) = has_collection h && keeps_listing i
    keeps_plain (Tree.interval o b c) = l intervals && keeps_bounds b

    pub keeps_item : {s : Style} → Item s → Bool
    keeps_item (Tree.alone v) = keeps v
    keeps_item (Tree.open_named n k v) = keeps v
    keeps_item (Tree.named n k v) = keeps v
    keeps_item (Tree.joined v j k w) = keeps v && has_joiner j && keeps w
    keeps_item (Tree.times v k c) = keeps v

    pub keeps_row : {f s : Style} → Row f s → Bool
    keeps_row (Tree.row_first i c) = keeps_item i
    keeps_row (Tree.row_led b i c) = keeps_item i
    keeps_row (Tree.row_next r i c) = keeps_row r && keeps_item i

    pub keeps_listing : {s : Style} → Listing s → Bool
    keeps_listing Tree.no_item = true
    keeps_listing (Tree.one_comma c) = true
    keeps_listing (Tree.two_commas c d) = true
    keeps_listing (Tree.one_item i) = keeps_item i
    keeps_listing (Tree.led_item c i) = keeps_item i
    keeps_listing (Tree.trailing r) = keeps_row r
    keeps_listing (Tree.last_item r i) = keeps_row r && keeps_item i

    pub keeps_attributes : Attributes → Bool
    keeps_attributes Tree.no_attribute = true
    keeps_attributes (Tree.led_attribute c i) = keeps_item i
    keeps_attributes (Tree.trailing_comma r) = keeps_row r
    keeps_attributes (Tree.last_attribute r i) = keeps_row r && keeps_item i

    pub keeps_bounds : Bounds → Bool
    keeps_bounds Tree.empty = true
    keeps_bounds (Tree.single v) = keeps v
    keeps_bounds (Tree.between v b k w) = keeps v && keeps w
    keeps_bounds (Tree.from v a k) = keeps v
    keeps_bounds (Tree.up_to a k v) = keeps v
    keeps_bounds (Tree.all k) = true
