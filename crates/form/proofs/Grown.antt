-- The normal tree has the nodes of the tree with `<-` turned, but for places and a Text's detail. Assumes nothing.
use mathlib.Core.Path.{◌≡◌, refl, ap, ◌∙◌}
use Rattle.grammar.specs.Tokens.{Span}
use Rattle.grammar.specs.Tree
use Rattle.grammar.specs.Tree.{PlainName, text_name, nesting_name, Name, plain_name, bare_name, rightward, leftward, Style, Value, Plain, Item, Row, Listing, Attributes, Bounds}
use Rattle.grammar.specs.Nodes
use Rattle.grammar.specs.Nodes.{Role}
use Rattle.form.specs.Turn.{nowhere, other_detail, turn, turn_plain, turn_item, turn_row, turn_listing, turn_attributes, turn_bounds}
use Rattle.grammar.proofs.Branches.{Branch, Branches, branch, none, more, grow, grow_plain, grow_name, grow_plain_name, grow_item, grow_row, grow_listing, grow_attributes}
use Rattle.form.proofs.Normal.{norm_plain_name, norm_name, opened, closed, closed_tuple, norm, norm_plain, norm_item, norm_row, norm_listing, norm_attributes, norm_bounds}

abbrev mutual
  -- without places and a Text's detail
  pub bleach : Branch → Branch
  bleach (branch k s r d bs) = branch k nowhere r (other_detail k d) (bleaches bs)

  pub bleaches : Branches → Branches
  bleaches none = none
  bleaches (more b bs) = more (bleach b) (bleaches bs)

both : {a b : Branch} {bs cs : Branches} → a ≡ b → bs ≡ cs → more a bs ≡ more b cs
both e f = cc (e, f)

plain_name_grown : (n : PlainName) (r : Role) → bleach (grow_plain_name (norm_plain_name n) r) ≡ bleach (grow_plain_name n r)
plain_name_grown (text_name x s) r = refl
plain_name_grown (nesting_name n) r = refl

name_grown : (n : Name) (r : Role) → bleach (grow_plain_name (norm_name n) r) ≡ bleach (grow_name n r)
name_grown (plain_name n) r = plain_name_grown n r
name_grown (bare_name h s) r = refl

opened_grown : (i : Item Tree.attribute) (bs : Branches) → grow_item (opened (norm_item i)) bs ≡ grow_item (norm_item i) bs
opened_grown (Tree.alone v) bs = refl
opened_grown (Tree.named n k v) bs = refl

closed_grown : {s : Style} (o : Row s s) (bs : Branches) → grow_listing (closed (norm_row o s (λ i. i) (λ i. i))) bs ≡ grow_row (norm_row o s (λ i. i) (λ i. i)) bs
closed_grown (Tree.row_first i c) bs = refl
closed_grown (Tree.row_led b i c) bs = refl
closed_grown (Tree.row_next o i c) bs = refl

tuple_grown : (o : Row Tree.opening Tree.attribute) (bs : Branches) →
    grow_attributes (closed_tuple (norm_row o Tree.opening (λ i. i) opened)) bs ≡ grow_row (norm_row o Tree.opening (λ i. i) opened) bs
tuple_grown (Tree.row_first i c) bs = refl
tuple_grown (Tree.row_led b i c) bs = refl
tuple_grown (Tree.row_next o i c) bs = refl

mutual
  pub value_grown : (v : Value) (r : Role) → bleach (grow_plain (norm v) r) ≡ bleach (grow (turn v) r)
  value_grown (Tree.plain p) r = plain_grown p r
  value_grown (Tree.bare h s) r = refl

  plain_grown : (p : Plain) (r : Role) → bleach (grow_plain (norm_plain p) r) ≡ bleach (grow_plain (turn_plain p) r)
  plain_grown (Tree.literal a s) r = refl
  plain_grown (Tree.text x s) r = refl
  plain_grown (Tree.nesting n) r = refl
  plain_grown (Tree.group o v c) r = value_grown v r
  plain_grown (Tree.pair o p k v c) r =
      ap (λ (b : Branches). branch Nodes.a_pair nowhere r 0 b) (both (plain_grown p Nodes.this) (both (value_grown v Nodes.that_after) refl))
  plain_grown (Tree.arrowed o v rightward k w c) r =
      ap (λ (b : Branches). branch Nodes.a_pair nowhere r 0 b) (both (value_grown v Nodes.this) (both (value_grown w Nodes.that_after) refl))
  plain_grown (Tree.arrowed o v leftward k w c) r =
      ap (λ (b : Branches). branch Nodes.a_pair nowhere r 0 b) (both (value_grown w Nodes.this) (both (value_grown v Nodes.that_after) refl))
  plain_grown (Tree.tuple o l c) r = ap (λ (b : Branches). branch Nodes.a_tuple nowhere r 0 b) (attributes_grown l none none refl)
  plain_grown (Tree.lot o l c) r = ap (λ (b : Branches). branch Nodes.a_lot nowhere r 0 b) (listing_grown l none none refl)
  plain_grown (Tree.counted o h s k b l e c) r =
      ap (λ (x : Branches). branch (Nodes.collection_kind h) nowhere r (other_detail (Nodes.collection_kind h) 0) x) (listing_grown l none none refl)
  plain_grown (Tree.interval o b c) r = bounds_grown b o c r

  item_grown : {s : Style} (i : Item s) (bs cs : Branches) → bleaches bs ≡ bleaches cs →
      bleaches (grow_item (norm_item i) bs) ≡ bleaches (grow_item (turn_item i) cs)
  item_grown (Tree.alone {s} v) bs cs e = both (value_grown v (Nodes.alone_role_of s)) e
  item_grown (Tree.open_named n k v) bs cs e = both (plain_name_grown n Nodes.name) (both (value_grown v Nodes.value) e)
  item_grown (Tree.named n k v) bs cs e = both (name_grown n Nodes.name) (both (value_grown v Nodes.value) e)
  item_grown (Tree.joined v Tree.colon k w) bs cs e = both (value_grown v _) (both (value_grown w _) e)
  item_grown (Tree.joined v (Tree.arrow rightward) k w) bs cs e = both (value_grown v _) (both (value_grown w _) e)
  item_grown (Tree.joined v (Tree.arrow leftward) k w) bs cs e = both (value_grown w _) (both (value_grown v _) e)
  item_grown (Tree.times v k c) bs cs e = both (value_grown v Nodes.value) (both refl e)

  row_grown : {f s : Style} (o : Row f s) (t : Style) (g : Item f → Item t) (h : Item s → Item t) →
      ((i : Item f) (bs : Branches) → grow_item (g (norm_item i)) bs ≡ grow_item (norm_item i) bs) →
      ((i : Item s) (bs : Branches) → grow_item (h (norm_item i)) bs ≡ grow_item (norm_item i) bs) →
      (bs cs : Branches) → bleaches bs ≡ bleaches cs → bleaches (grow_row (norm_row o t g h) bs) ≡ bleaches (grow_row (turn_row o) cs)
  row_grown (Tree.row_first i c) t g h x y bs cs e = ap bleaches (x i bs) ∙ item_grown i bs cs e
  row_grown (Tree.row_led b i c) t g h x y bs cs e = ap bleaches (y i bs) ∙ item_grown i bs cs e
  row_grown (Tree.row_next o i c) t g h x y bs cs e = row_grown o t g h x y _ _ (item_grown i bs cs e)

  listing_grown : {s : Style} (l : Listing s) (bs cs : Branches) → bleaches bs ≡ bleaches cs →
      bleaches (grow_listing (norm_listing l) bs) ≡ bleaches (grow_listing (turn_listing l) cs)
  listing_grown Tree.no_item bs cs e = e
  listing_grown (Tree.one_comma c) bs cs e = e
  listing_grown (Tree.two_commas c d) bs cs e = e
  listing_grown (Tree.one_item i) bs cs e = item_grown i bs cs e
  listing_grown (Tree.led_item c i) bs cs e = item_grown i bs cs e
  listing_grown (Tree.trailing {s} o) bs cs e = ap bleaches (closed_grown o bs) ∙ row_grown o s (λ i. i) (λ i. i) (λ i b. refl) (λ i b. refl) bs cs e
  listing_grown (Tree.last_item {s} o i) bs cs e = row_grown o s (λ i. i) (λ i. i) (λ i b. refl) (λ i b. refl) _ _ (item_grown i bs cs e)

  attributes_grown : (l : Attributes) (bs cs : Branches) → bleaches bs ≡ bleaches cs →
      bleaches (grow_attributes (norm_attributes l) bs) ≡ bleaches (grow_attributes (turn_attributes l) cs)
  attributes_grown Tree.no_attribute bs cs e = e
  attributes_grown (Tree.led_attribute c i) bs cs e = ap bleaches (opened_grown i bs) ∙ item_grown i bs cs e
  attributes_grown (Tree.trailing_comma o) bs cs e = ap bleaches (tuple_grown o bs) ∙ row_grown o Tree.opening (λ i. i) opened (λ i b. refl) opened_grown bs cs e
  attributes_grown (Tree.last_attribute o i) bs cs e = row_grown o Tree.opening (λ i. i) opened (λ i b. refl) opened_grown _ _ (item_grown i bs cs e)

  bounds_grown : (b : Bounds) (o c : Span) (r : Role) →
      bleach (grow_plain (Tree.interval o (norm_bounds b) c) r) ≡ bleach (grow_plain (Tree.interval o (turn_bounds b) c) r)
  bounds_grown Tree.empty o c r = refl
  bounds_grown (Tree.single v) o c r =
      ap (λ (x : Branches). branch Nodes.an_interval nowhere r (Nodes.bounds_detail (Tree.single (turn v))) x) (both (value_grown v Nodes.single) refl)
  bounds_grown (Tree.between v b k w) o c r =
      ap (λ (x : Branches). branch Nodes.an_interval nowhere r (Nodes.bounds_detail (Tree.between (turn v) b k (turn w))) x)
      (both (value_grown v Nodes.low) (both (value_grown w Nodes.high) refl))
  bounds_grown (Tree.from v a k) o c r =
      ap (λ (x : Branches). branch Nodes.an_interval nowhere r (Nodes.bounds_detail (Tree.from (turn v) a k)) x) (both (value_grown v Nodes.low) refl)
  bounds_grown (Tree.up_to Tree.less k v) o c r =
      ap (λ (x : Branches). branch Nodes.an_interval nowhere r (Nodes.bounds_detail (Tree.up_to Tree.less k (turn v))) x) (both (value_grown v Nodes.high) refl)
  bounds_grown (Tree.up_to Tree.less_equal k v) o c r =
      ap (λ (x : Branches). branch Nodes.an_interval nowhere r (Nodes.bounds_detail (Tree.up_to Tree.less_equal k (turn v))) x)
      (both (value_grown v Nodes.high) refl)
  bounds_grown (Tree.all k) o c r = refl
