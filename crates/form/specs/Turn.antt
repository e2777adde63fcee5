-- What the reading of a plain form keeps of the nodes: 02, request 5, 'the same nodes in all but first and last bytes,
-- the order of this and that (with the node and parent indices that follow from it), roles 2 and 3 taken as one, and a
-- Text's detail'; request 7, of the seventh word: 'there it follows the indices'. Assumes nothing.
use Rattle.std.specs.Prelude.{ℕ}
use Rattle.grammar.specs.Tokens.{Span}
use Rattle.grammar.specs.Tree
use Rattle.grammar.specs.Tree.{rightward, leftward, Value, Plain, Style, Item, Row, Listing, Attributes, Bounds}
use Rattle.grammar.specs.Nodes
use Rattle.grammar.specs.Nodes.{Node, NodeKind}

-- 'all but first and last bytes'
abbrev pub nowhere : Span
nowhere = record { first = 0; end = 0 }

-- 'and a Text's detail': the detail of any other node
abbrev pub other_detail : NodeKind → ℕ → ℕ
other_detail Nodes.an_ignorance d = d
other_detail Nodes.a_boolean d = d
other_detail Nodes.an_integer d = d
other_detail Nodes.a_fraction d = d
other_detail Nodes.a_bits d = d
other_detail Nodes.a_blob d = d
other_detail Nodes.a_text d = 0
other_detail Nodes.a_nesting d = d
other_detail Nodes.a_pair d = d
other_detail Nodes.a_tuple d = d
other_detail Nodes.a_lot d = d
other_detail Nodes.an_array d = d
other_detail Nodes.a_set d = d
other_detail Nodes.a_bag d = d
other_detail Nodes.an_interval d = d

-- a node without both; its stretch stays, so that the seventh word follows the index
abbrev pub unspelled : Node → Node
unspelled n =
    record {
      kind = n.kind;
      at = nowhere;
      parent = n.parent;
      role = n.role;
      detail = other_detail n.kind n.detail;
      stretch = n.stretch;
    }

-- 'the order of this and that … roles 2 and 3 taken as one': the derivation in which each `b<-a` is turned to `a->b`.
-- 'The node and parent indices that follow from it' are those of its own table
abbrev mutual
  pub turn : Value → Value
  turn (Tree.plain p) = Tree.plain (turn_plain p)
  turn (Tree.bare h s) = Tree.bare h s

  pub turn_plain : Plain → Plain
  turn_plain (Tree.literal a s) = Tree.literal a s
  turn_plain (Tree.text w s) = Tree.text w s
  turn_plain (Tree.nesting n) = Tree.nesting n
  turn_plain (Tree.group o v c) = Tree.group o (turn v) c
  turn_plain (Tree.pair o p k v c) = Tree.pair o (turn_plain p) k (turn v) c
  turn_plain (Tree.arrowed o v rightward k w c) = Tree.arrowed o (turn v) rightward k (turn w) c
  turn_plain (Tree.arrowed o v leftward k w c) = Tree.arrowed o (turn w) rightward k (turn v) c
  turn_plain (Tree.tuple o l c) = Tree.tuple o (turn_attributes l) c
  turn_plain (Tree.lot o l c) = Tree.lot o (turn_listing l) c
  turn_plain (Tree.counted o h s k b l e c) = Tree.counted o h s k b (turn_listing l) e c
  turn_plain (Tree.interval o b c) = Tree.interval o (turn_bounds b) c

  pub turn_item : {s : Style} → Item s → Item s
  turn_item (Tree.alone v) = Tree.alone (turn v)
  turn_item (Tree.open_named n k v) = Tree.open_named n k (turn v)
  turn_item (Tree.named n k v) = Tree.named n k (turn v)
  turn_item (Tree.joined v Tree.colon k w) = Tree.joined (turn v) Tree.colon k (turn w)
  turn_item (Tree.joined v (Tree.arrow rightward) k w) = Tree.joined (turn v) (Tree.arrow rightward) k (turn w)
  turn_item (Tree.joined v (Tree.arrow leftward) k w) = Tree.joined (turn w) (Tree.arrow rightward) k (turn v)
  turn_item (Tree.times v k c) = Tree.times (turn v) k c

  pub turn_row : {f s : Style} → Row f s → Row f s
  turn_row (Tree.row_first i c) = Tree.row_first (turn_item i) c
  turn_row (Tree.row_led b i c) = Tree.row_led b (turn_item i) c
  turn_row (Tree.row_next o i c) = Tree.row_next (turn_row o) (turn_item i) c

  pub turn_listing : {s : Style} → Listing s → Listing s
  turn_listing Tree.no_item = Tree.no_item
  turn_listing (Tree.one_comma c) = Tree.one_comma c
  turn_listing (Tree.two_commas c d) = Tree.two_commas c d
  turn_listing (Tree.one_item i) = Tree.one_item (turn_item i)
  turn_listing (Tree.led_item c i) = Tree.led_item c (turn_item i)
  turn_listing (Tree.trailing o) = Tree.trailing (turn_row o)
  turn_listing (Tree.last_item o i) = Tree.last_item (turn_row o) (turn_item i)

  pub turn_attributes : Attributes → Attributes
  turn_attributes Tree.no_attribute = Tree.no_attribute
  turn_attributes (Tree.led_attribute c i) = Tree.led_attribute c (turn_item i)
  turn_attributes (Tree.trailing_comma o) = Tree.trailing_comma (turn_row o)
  turn_attributes (Tree.last_attribute o i) = Tree.last_attribute (turn_row o) (turn_item i)

  pub turn_bounds : Bounds → Bounds
  turn_bounds Tree.empty = Tree.empty
  turn_bounds (Tree.single v) = Tree.single (turn v)
  turn_bounds (Tree.between v b k w) = Tree.between (turn v) b k (turn w)
  turn_bounds (Tree.from v a k) = Tree.from (turn v) a k
  turn_bounds (Tree.up_to a k v) = Tree.up_to a k (turn v)
  turn_bounds (Tree.all k) = Tree.all k
