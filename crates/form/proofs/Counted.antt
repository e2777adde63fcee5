-- The plain form has as many nodes as the text. Assumes nothing.
use mathlib.Core.Path.{◌≡◌, refl, sym, ap, ◌∙◌}
use mathlib.Core.List.{map}
use Prim.Native.Nat.{ℕ, suc, ◌+◌}
use native.Mathlib.Omega.{arith}
use lib.ListN.{length, length-append}
use Rattle.grammar.specs.Tree
use Rattle.grammar.specs.Tree.{rightward, leftward, Style, Value, Plain, Item, Row, Listing, Attributes, Bounds}
use Rattle.grammar.specs.Nodes
use Rattle.grammar.specs.Nodes.{Role, table}
use Rattle.form.specs.Turn.{unspelled, turn, turn_plain, turn_item, turn_row, turn_listing, turn_attributes, turn_bounds}
use Rattle.grammar.proofs.Branches.{Branch, Branches, branch, none, more, flat, flats, grow, grow_plain, grow_item, grow_row, grow_listing, grow_attributes, grow_bounds}
use Rattle.grammar.proofs.Flat.{table_flat}
use Rattle.grammar.proofs.NodeLaws.{as_many}

abbrev mutual
  size : Branch → ℕ
  size (branch k s r d bs) = suc (sizes bs)

  sizes : Branches → ℕ
  sizes none = 0
  sizes (more b bs) = size b + sizes bs

mutual
  flat_size : (b : Branch) (p n : ℕ) → length (flat b p n) ≡ size b
  flat_size (branch k s r d bs) p n = omega (arith, flats_size bs n (n + 1))

  flats_size : (bs : Branches) (p n : ℕ) → length (flats bs p n) ≡ sizes bs
  flats_size none p n = refl
  flats_size (more b bs) p n =
      omega (arith, length-append (flat b p n) (flats bs p (n + length (flat b p n))), flat_size b p n, flats_size bs p (n + length (flat b p n)))

mutual
  value_size : (v : Value) (r q : Role) → size (grow (turn v) r) ≡ size (grow v q)
  value_size (Tree.plain p) r q = plain_size p r q
  value_size (Tree.bare h s) r q = refl

  plain_size : (p : Plain) (r q : Role) → size (grow_plain (turn_plain p) r) ≡ size (grow_plain p q)
  plain_size (Tree.literal a s) r q = refl
  plain_size (Tree.text x s) r q = refl
  plain_size (Tree.nesting n) r q = refl
  plain_size (Tree.group o v c) r q = value_size v r q
  plain_size (Tree.pair o p k v c) r q = omega (arith, plain_size p Nodes.this Nodes.this, value_size v Nodes.that_after Nodes.that_after)
  plain_size (Tree.arrowed o v rightward k w c) r q =
      omega (arith, value_size v (Nodes.left_role_of rightward) (Nodes.left_role_of rightward), value_size w (Nodes.right_role_of rightward) (Nodes.right_role_of rightward))
  plain_size (Tree.arrowed o v leftward k w c) r q =
      omega (arith, value_size v (Nodes.right_role_of rightward) (Nodes.left_role_of leftward), value_size w (Nodes.left_role_of rightward) (Nodes.right_role_of leftward))
  plain_size (Tree.tuple o i c) r q = ap suc (attributes_size i none none refl)
  plain_size (Tree.lot o i c) r q = ap suc (listing_size i none none refl)
  plain_size (Tree.counted o h s k b i e c) r q = ap suc (listing_size i none none refl)
  plain_size (Tree.interval o b c) r q = ap suc (bounds_size b)

  item_size : {s : Style} (i : Item s) (bs cs : Branches) → sizes bs ≡ sizes cs → sizes (grow_item (turn_item i) bs) ≡ sizes (grow_item i cs)
  item_size (Tree.alone {s} v) bs cs e = omega (arith, e, value_size v (Nodes.alone_role_of s) (Nodes.alone_role_of s))
  item_size (Tree.open_named n k v) bs cs e = omega (arith, e, value_size v Nodes.value Nodes.value)
  item_size (Tree.named n k v) bs cs e = omega (arith, e, value_size v Nodes.value Nodes.value)
  item_size (Tree.joined v Tree.colon k w) bs cs e =
      omega (
        arith,
        e,
        value_size v (Nodes.joiner_left Tree.colon) (Nodes.joiner_left Tree.colon),
        value_size w (Nodes.joiner_right Tree.colon)
            (Nodes.joiner_right Tree.colon),
      )
  item_size (Tree.joined v (Tree.arrow rightward) k w) bs cs e =
      omega (
        arith,
        e,
        value_size v (Nodes.joiner_left (Tree.arrow rightward)) (Nodes.joiner_left (Tree.arrow rightward)),
        value_size w
            (Nodes.joiner_right (Tree.arrow rightward)) (Nodes.joiner_right (Tree.arrow rightward)),
      )
  item_size (Tree.joined v (Tree.arrow leftward) k w) bs cs e =
      omega (
        arith,
        e,
        value_size v (Nodes.joiner_right (Tree.arrow rightward)) (Nodes.joiner_left (Tree.arrow leftward)),
        value_size w
            (Nodes.joiner_left (Tree.arrow rightward)) (Nodes.joiner_right (Tree.arrow leftward)),
      )
  item_size (Tree.times v k c) bs cs e = omega (arith, e, value_size v Nodes.value Nodes.value)

  row_size : {f s : Style} (o : Row f s) (bs cs : Branches) → sizes bs ≡ sizes cs → sizes (grow_row (turn_row o) bs) ≡ sizes (grow_row o cs)
  row_size (Tree.row_first i c) bs cs e = item_size i bs cs e
  row_size (Tree.row_led b i c) bs cs e = item_size i bs cs e
  row_size (Tree.row_next o i c) bs cs e = row_size o (grow_item (turn_item i) bs) (grow_item i cs) (item_size i bs cs e)

  listing_size : {s : Style} (i : Listing s) (bs cs : Branches) → sizes bs ≡ sizes cs → sizes (grow_listing (turn_listing i) bs) ≡ sizes (grow_listing i cs)
  listing_size Tree.no_item bs cs e = e
  listing_size (Tree.one_comma c) bs cs e = e
  listing_size (Tree.two_commas c d) bs cs e = e
  listing_size (Tree.one_item i) bs cs e = item_size i bs cs e
  listing_size (Tree.led_item c i) bs cs e = item_size i bs cs e
  listing_size (Tree.trailing o) bs cs e = row_size o bs cs e
  listing_size (Tree.last_item o i) bs cs e = row_size o (grow_item (turn_item i) bs) (grow_item i cs) (item_size i bs cs e)

  attributes_size : (i : Attributes) (bs cs : Branches) → sizes bs ≡ sizes cs → sizes (grow_attributes (turn_attributes i) bs) ≡ sizes (grow_attributes i cs)
  attributes_size Tree.no_attribute bs cs e = e
  attributes_size (Tree.led_attribute c i) bs cs e = item_size i bs cs e
  attributes_size (Tree.trailing_comma o) bs cs e = row_size o bs cs e
  attributes_size (Tree.last_attribute o i) bs cs e = row_size o (grow_item (turn_item i) bs) (grow_item i cs) (item_size i bs cs e)

  bounds_size : (b : Bounds) → sizes (grow_bounds (turn_bounds b)) ≡ sizes (grow_bounds b)
  bounds_size Tree.empty = refl
  bounds_size (Tree.single v) = omega (arith, value_size v Nodes.single Nodes.single)
  bounds_size (Tree.between v b k w) = omega (arith, value_size v Nodes.low Nodes.low, value_size w Nodes.high Nodes.high)
  bounds_size (Tree.from v a k) = omega (arith, value_size v Nodes.low Nodes.low)
  bounds_size (Tree.up_to a k v) = omega (arith, value_size v Nodes.high Nodes.high)
  bounds_size (Tree.all k) = refl

table_size : (v : Value) → length (table v) ≡ size (grow v Nodes.root)
table_size v = ap length (table_flat v) ∙ flat_size (grow v Nodes.root) 0 0

turn_count : (v : Value) → length (table (turn v)) ≡ length (table v)
turn_count v = table_size (turn v) ∙ value_size v Nodes.root Nodes.root ∙ sym (table_size v)

-- trees with the nodes of the turned one have as many as the tree
pub same_count : (v w : Value) → map unspelled (table w) ≡ map unspelled (table (turn v)) → length (table w) ≡ length (table v)
same_count v w e = as_many unspelled (table w) (table (turn v)) e ∙ turn_count v
