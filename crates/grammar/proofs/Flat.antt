-- The node table is the branches, flat. Assumes nothing.
use mathlib.Core.Path.{◌≡◌, refl, sym, ap, ◌∙◌}
use mathlib.Core.List.{List, [], ◌++◌, append_assoc, append-nil}
use Prim.Native.Nat.{ℕ, ◌+◌}
use native.Mathlib.Nat.{add_assoc, add-zero}
use lib.ListN.{length, length-append}
use Rattle.grammar.specs.Tree
use Rattle.grammar.specs.Tree.{PlainName, Name, Measure, Count, Style, Value, Plain, Item, Row, Listing, Attributes, Bounds, text_name, nesting_name, plain_name, bare_name}
use Rattle.grammar.specs.Nodes
use Rattle.grammar.specs.Nodes.{Node, NodeKind, Role, both, nodes, nodes_plain, nodes_item, nodes_row, nodes_listing, nodes_attributes, nodes_bounds, nodes_plain_name, nodes_name, nodes_count, table}
use Rattle.grammar.specs.Tokens.{Span}
use Rattle.grammar.proofs.Branches.{Branch, branch, Branches, none, more, flat, flats, grow, grow_plain, grow_item, grow_row, grow_listing, grow_attributes, grow_bounds, grow_plain_name, grow_name, grow_count}

-- nodes in front of further ones
abbrev Front : (ℕ → List Node) → Branches → Branches → ℕ → Type 0
Front f bs cs p = (n : ℕ) → flats bs p n ≡ f n ++ flats cs p (n + length (f n))

-- none, those of one branch, two groups of them, and those of two branches
nothing : (bs : Branches) (p : ℕ) → Front (λ n. []) bs bs p
nothing bs p n = ap (λ (k : ℕ). flats bs p k) (sym (add-zero n))

one : (f : ℕ → List Node) (b : Branch) (bs : Branches) (p : ℕ) → ((n : ℕ) → flat b p n ≡ f n) → Front f (more b bs) bs p
one f b bs p h n = ap (λ (l : List Node). l ++ flats bs p (n + length l)) (h n)

two : (f g : ℕ → List Node) (bs cs ds : Branches) (p : ℕ) → Front f bs cs p → Front g cs ds p → Front (both f g) bs ds p
two f g bs cs ds p x y n =
    let k = n + length (f n) in
    x n ∙ ap (λ (l : List Node). f n ++ l) (y k) ∙ sym (append_assoc (f n) (g k) _)
    ∙ ap (λ (i : ℕ). (f n ++ g k) ++ flats ds p i)
    (add_assoc n (length (f n)) (length (g k)) ∙ ap (λ (i : ℕ). n + i) (sym (length-append (f n) (g k))))

one_each : (f g : ℕ → List Node) (a b : Branch) (bs : Branches) (p : ℕ) → ((n : ℕ) → flat a p n ≡ f n) → ((n : ℕ) → flat b p n ≡ g n) →
    Front (both f g) (more a (more b bs)) bs p
one_each f g a b bs p x y = two f g (more a (more b bs)) (more b bs) bs p (one f a (more b bs) p x) (one g b bs p y)

-- a node and what stands under it
under : (k : NodeKind) (s : Span) (r : Role) (d p n : ℕ) (bs : Branches) (f : ℕ → List Node) → Front f bs none n →
    flat (branch k s r d bs) p n ≡ Nodes.branch k s p r d (f (n + 1))
under k s r d p n bs f h = ap (Nodes.branch k s p r d) (h (n + 1) ∙ append-nil (f (n + 1)))

-- ---- names and counts

plain_name_lem : (m : PlainName) (p : ℕ) (r : Role) (n : ℕ) → flat (grow_plain_name m r) p n ≡ nodes_plain_name m p r
plain_name_lem (text_name w s) p r n = refl
plain_name_lem (nesting_name m) p r n = refl

any_name : (m : Name) (p : ℕ) (r : Role) (n : ℕ) → flat (grow_name m r) p n ≡ nodes_name m p r
any_name (plain_name m) p r n = plain_name_lem m p r n
any_name (bare_name h s) p r n = refl

any_count : {u : Measure} (c : Count u) (p : ℕ) (n : ℕ) → flat (grow_count c) p n ≡ nodes_count c p
any_count (Tree.number s) p n = refl
any_count (Tree.truth b s) p n = refl

-- ---- values, and rows of items, given that their branches are flat

abbrev FlatAt : Value → ℕ → Role → Type 0
FlatAt v p r = (n : ℕ) → flat (grow v r) p n ≡ nodes v p r n

one_value : (v : Value) (r : Role) (bs : Branches) (p : ℕ) → FlatAt v p r → Front (λ i. nodes v p r i) (more (grow v r) bs) bs p
one_value v r bs p h = one (λ i. nodes v p r i) (grow v r) bs p h

two_values : (v w : Value) (q r : Role) (bs : Branches) (p : ℕ) → FlatAt v p q → FlatAt w p r →
    Front (both (λ i. nodes v p q i) (λ i. nodes w p r i)) (more (grow v q) (more (grow w r) bs)) bs p
two_values v w q r bs p x y = one_each (λ i. nodes v p q i) (λ i. nodes w p r i) (grow v q) (grow w r) bs p x y

row_and_item : {f s t : Style} (o : Row f s) (i : Item t) (bs : Branches) (p : ℕ) →
    Front (λ n. nodes_row o p n) (grow_row o (grow_item i bs)) (grow_item i bs) p → Front (λ n. nodes_item i p n) (grow_item i bs) bs p →
    Front (both (λ n. nodes_row o p n) (λ n. nodes_item i p n)) (grow_row o (grow_item i bs)) bs p
row_and_item o i bs p x y = two (λ n. nodes_row o p n) (λ n. nodes_item i p n) (grow_row o (grow_item i bs)) (grow_item i bs) bs p x y

mutual
  pub flat_value : (v : Value) (p : ℕ) (r : Role) (n : ℕ) → flat (grow v r) p n ≡ nodes v p r n
  flat_value (Tree.plain v) p r n = flat_plain v p r n
  flat_value (Tree.bare h s) p r n = refl

  flat_plain : (v : Plain) (p : ℕ) (r : Role) (n : ℕ) → flat (grow_plain v r) p n ≡ nodes_plain v p r n
  flat_plain (Tree.literal a s) p r n = refl
  flat_plain (Tree.text w s) p r n = refl
  flat_plain (Tree.nesting m) p r n = refl
  flat_plain (Tree.group o v c) p r n = flat_value v p r n
  flat_plain (Tree.pair o a k b c) p r n =
      let f : ℕ → List Node = λ i. nodes_plain a n Nodes.this i in
      let g : ℕ → List Node = λ i. nodes b n Nodes.that_after i in
      let x = grow_plain a Nodes.this in
      let y = grow b Nodes.that_after in
      under Nodes.a_pair (Nodes.over o c) r 0 p n (more x (more y none)) (both f g)
      (one_each f g x y none n (λ i. flat_plain a n Nodes.this i) (λ i. flat_value b n Nodes.that_after i))
  flat_plain (Tree.arrowed o a j k b c) p r n =
      let x = Nodes.left_role_of j in
      let y = Nodes.right_role_of j in
      under Nodes.a_pair (Nodes.over o c) r 0 p n (more (grow a x) (more (grow b y) none)) (both (λ i. nodes a n x i) (λ i. nodes b n y i))
      (two_values a b x y none n (λ i. flat_value a n x i) (λ i. flat_value b n y i))
  flat_plain (Tree.tuple o i c) p r n =
      under Nodes.a_tuple (Nodes.over o c) r 0 p n (grow_attributes i none) (λ m. nodes_attributes i n m) (flat_attributes i none n)
  flat_plain (Tree.lot o i c) p r n =
      under Nodes.a_lot (Nodes.over o c) r 0 p n (grow_listing i none) (λ m. nodes_listing i n m) (flat_listing i none n)
  flat_plain (Tree.counted o h s k b i e c) p r n =
      under (Nodes.collection_kind h) (Nodes.over o c) r 0 p n (grow_listing i none) (λ m. nodes_listing i n m) (flat_listing i none n)
  flat_plain (Tree.interval o b c) p r n =
      under Nodes.an_interval (Nodes.over o c) r (Nodes.bounds_detail b) p n (grow_bounds b) (λ m. nodes_bounds b n m) (flat_bounds b n)

  flat_item : {s : Style} (i : Item s) (bs : Branches) (p : ℕ) → Front (λ n. nodes_item i p n) (grow_item i bs) bs p
  flat_item (Tree.alone {s} v) bs p = one_value v (Nodes.alone_role_of s) bs p (λ n. flat_value v p (Nodes.alone_role_of s) n)
  flat_item (Tree.open_named m k v) bs p =
      one_each (λ i. nodes_plain_name m p Nodes.name) (λ i. nodes v p Nodes.value i) (grow_plain_name m Nodes.name) (grow v Nodes.value) bs p
      (λ n. plain_name_lem m p Nodes.name n) (λ n. flat_value v p Nodes.value n)
  flat_item (Tree.named m k v) bs p =
      one_each (λ i. nodes_name m p Nodes.name) (λ i. nodes v p Nodes.value i) (grow_name m Nodes.name) (grow v Nodes.value) bs p
      (λ n. any_name m p Nodes.name n) (λ n. flat_value v p Nodes.value n)
  flat_item (Tree.joined a j k b) bs p =
      let x = Nodes.joiner_left j in
      let y = Nodes.joiner_right j in
      two_values a b x y bs p (λ n. flat_value a p x n) (λ n. flat_value b p y n)
  flat_item (Tree.times v k c) bs p =
      one_each (λ i. nodes v p Nodes.value i) (λ i. nodes_count c p) (grow v Nodes.value) (grow_count c) bs p
      (λ n. flat_value v p Nodes.value n) (λ n. any_count c p n)

  flat_row : {f s : Style} (o : Row f s) (bs : Branches) (p : ℕ) → Front (λ n. nodes_row o p n) (grow_row o bs) bs p
  flat_row (Tree.row_first i c) bs p = flat_item i bs p
  flat_row (Tree.row_led b i c) bs p = flat_item i bs p
  flat_row (Tree.row_next o i c) bs p = row_and_item o i bs p (flat_row o (grow_item i bs) p) (flat_item i bs p)

  flat_listing : {s : Style} (l : Listing s) (bs : Branches) (p : ℕ) → Front (λ n. nodes_listing l p n) (grow_listing l bs) bs p
  flat_listing Tree.no_item bs p = nothing bs p
  flat_listing (Tree.one_comma c) bs p = nothing bs p
  flat_listing (Tree.two_commas c d) bs p = nothing bs p
  flat_listing (Tree.one_item i) bs p = flat_item i bs p
  flat_listing (Tree.led_item c i) bs p = flat_item i bs p
  flat_listing (Tree.trailing o) bs p = flat_row o bs p
  flat_listing (Tree.last_item o i) bs p = row_and_item o i bs p (flat_row o (grow_item i bs) p) (flat_item i bs p)

  flat_attributes : (l : Attributes) (bs : Branches) (p : ℕ) → Front (λ n. nodes_attributes l p n) (grow_attributes l bs) bs p
  flat_attributes Tree.no_attribute bs p = nothing bs p
  flat_attributes (Tree.led_attribute c i) bs p = flat_item i bs p
  flat_attributes (Tree.trailing_comma o) bs p = flat_row o bs p
  flat_attributes (Tree.last_attribute o i) bs p = row_and_item o i bs p (flat_row o (grow_item i bs) p) (flat_item i bs p)

  flat_bounds : (b : Bounds) (p : ℕ) → Front (λ n. nodes_bounds b p n) (grow_bounds b) none p
  flat_bounds Tree.empty p = nothing none p
  flat_bounds (Tree.single v) p = one_value v Nodes.single none p (λ i. flat_value v p Nodes.single i)
  flat_bounds (Tree.between v b k w) p =
      two_values v w Nodes.low Nodes.high none p (λ i. flat_value v p Nodes.low i) (λ i. flat_value w p Nodes.high i)
  flat_bounds (Tree.from v a k) p = one_value v Nodes.low none p (λ i. flat_value v p Nodes.low i)
  flat_bounds (Tree.up_to a k v) p = one_value v Nodes.high none p (λ i. flat_value v p Nodes.high i)
  flat_bounds (Tree.all k) p = nothing none p

pub table_flat : (v : Value) → table v ≡ flat (grow v Nodes.root) 0 0
table_flat v = sym (flat_value v 0 Nodes.root 0)
