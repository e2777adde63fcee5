-- A derivation as nodes under nodes: what the node table holds of it, without groups, commas and tokens. Assumes nothing.
use mathlib.Core.List.{List, [], ◌++◌}
use Prim.Native.Nat.{ℕ, ◌+◌}
use lib.ListN.{length}
use Rattle.grammar.specs.Tokens.{Span}
use Rattle.grammar.specs.Tree
use Rattle.grammar.specs.Tree.{PlainName, Name, Measure, Count, Style, Value, Plain, Item, Row, Listing, Attributes, Bounds, text_name, nesting_name, plain_name, bare_name}
use Rattle.grammar.specs.Nodes
use Rattle.grammar.specs.Nodes.{Node, NodeKind, Role, over, names_span, atom_kind, atom_detail, truth_detail, spelling_detail, bounds_detail, collection_kind, alone_role_of, left_role_of, right_role_of, joiner_left, joiner_right}

mutual
  pub data Branch : Type 0 where
    branch : NodeKind → Span → Role → ℕ → Branches → Branch

  pub data Branches : Type 0 where
    none : Branches
    more : Branch → Branches → Branches

abbrev mutual
  -- the nodes of a branch under the parent p, the first at index n
  pub flat : Branch → ℕ → ℕ → List Node
  flat (branch k s r d bs) p n = Nodes.branch k s p r d (flats bs n (n + 1))

  pub flats : Branches → ℕ → ℕ → List Node
  flats none p n = []
  flats (more b bs) p n = flat b p n ++ flats bs p (n + length (flat b p n))

abbrev pub end : NodeKind → Span → Role → ℕ → Branch
end k s r d = branch k s r d none

abbrev pub grow_plain_name : PlainName → Role → Branch
grow_plain_name (text_name w s) r = end Nodes.a_text s r (spelling_detail w)
grow_plain_name (nesting_name m) r = end Nodes.a_nesting (names_span m) r 0

abbrev pub grow_name : Name → Role → Branch
grow_name (plain_name m) r = grow_plain_name m r
grow_name (bare_name h s) r = end Nodes.a_text s r 2

abbrev pub grow_count : {u : Measure} → Count u → Branch
grow_count (Tree.number s) = end Nodes.an_integer s Nodes.count 0
grow_count (Tree.truth b s) = end Nodes.a_boolean s Nodes.count (truth_detail b)

abbrev mutual
  pub grow : Value → Role → Branch
  grow (Tree.plain v) r = grow_plain v r
  grow (Tree.bare h s) r = end Nodes.a_text s r 2

  pub grow_plain : Plain → Role → Branch
  grow_plain (Tree.literal a s) r = end (atom_kind a) s r (atom_detail a)
  grow_plain (Tree.text w s) r = end Nodes.a_text s r (spelling_detail w)
  grow_plain (Tree.nesting m) r = end Nodes.a_nesting (names_span m) r 0
  grow_plain (Tree.group o v c) r = grow v r
  grow_plain (Tree.pair o a k b c) r = branch Nodes.a_pair (over o c) r 0 (more (grow_plain a Nodes.this) (more (grow b Nodes.that_after) none))
  grow_plain (Tree.arrowed o a j k b c) r = branch Nodes.a_pair (over o c) r 0 (more (grow a (left_role_of j)) (more (grow b (right_role_of j)) none))
  grow_plain (Tree.tuple o i c) r = branch Nodes.a_tuple (over o c) r 0 (grow_attributes i none)
  grow_plain (Tree.lot o i c) r = branch Nodes.a_lot (over o c) r 0 (grow_listing i none)
  grow_plain (Tree.counted o h s k b i e c) r = branch (collection_kind h) (over o c) r 0 (grow_listing i none)
  grow_plain (Tree.interval o b c) r = branch Nodes.an_interval (over o c) r (bounds_detail b) (grow_bounds b)

  pub grow_item : {s : Style} → Item s → Branches → Branches
  grow_item (Tree.alone {s} v) bs = more (grow v (alone_role_of s)) bs
  grow_item (Tree.open_named m k v) bs = more (grow_plain_name m Nodes.name) (more (grow v Nodes.value) bs)
  grow_item (Tree.named m k v) bs = more (grow_name m Nodes.name) (more (grow v Nodes.value) bs)
  grow_item (Tree.joined a j k b) bs = more (grow a (joiner_left j)) (more (grow b (joiner_right j)) bs)
  grow_item (Tree.times v k c) bs = more (grow v Nodes.value) (more (grow_count c) bs)

  pub grow_row : {f s : Style} → Row f s → Branches → Branches
  grow_row (Tree.row_first i c) bs = grow_item i bs
  grow_row (Tree.row_led b i c) bs = grow_item i bs
  grow_row (Tree.row_next o i c) bs = grow_row o (grow_item i bs)

  pub grow_listing : {s : Style} → Listing s → Branches → Branches
  grow_listing Tree.no_item bs = bs
  grow_listing (Tree.one_comma c) bs = bs
  grow_listing (Tree.two_commas c d) bs = bs
  grow_listing (Tree.one_item i) bs = grow_item i bs
  grow_listing (Tree.led_item c i) bs = grow_item i bs
  grow_listing (Tree.trailing o) bs = grow_row o bs
  grow_listing (Tree.last_item o i) bs = grow_row o (grow_item i bs)

  pub grow_attributes : Attributes → Branches → Branches
  grow_attributes Tree.no_attribute bs = bs
  grow_attributes (Tree.led_attribute c i) bs = grow_item i bs
  grow_attributes (Tree.trailing_comma o) bs = grow_row o bs
  grow_attributes (Tree.last_attribute o i) bs = grow_row o (grow_item i bs)

  pub grow_bounds : Bounds → Branches
  grow_bounds Tree.empty = none
  grow_bounds (Tree.single v) = more (grow v Nodes.single) none
  grow_bounds (Tree.between v b k w) = more (grow v Nodes.low) (more (grow w Nodes.high) none)
  grow_bounds (Tree.from v a k) = more (grow v Nodes.low) none
  grow_bounds (Tree.up_to a k v) = more (grow v Nodes.high) none
  grow_bounds (Tree.all k) = none
