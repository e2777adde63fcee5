-- A tree whose spans are moved: the same tree but for places, so its tokens are moved, it is of the same levels, and its nodes are moved. Assumes nothing.
use mathlib.Core.Path.{◌≡◌, refl, sym, ap, ◌∙◌}
use mathlib.Core.Bool.{Bool, ◌&&◌}
use mathlib.Core.List.{List, [], ◌∷◌, ◌++◌, map, map-append}
use Prim.Native.Nat.{ℕ, ◌+◌}
use lib.ListN.{length, length-map}
use Rattle.grammar.specs.Tokens.{Span, Tok, tok}
use Rattle.grammar.specs.Tree
use Rattle.grammar.specs.Tree.{Names, one_name, more_names, PlainName, text_name, nesting_name, Name, plain_name, bare_name, Measure, Count, Style, Value, Plain, Item, Row, Listing, Attributes, Bounds}
use Rattle.grammar.specs.Yield.{yield_names, yield_plain_name, yield_name, yield_count, yield_value, yield_plain, yield_item, yield_row, yield_listing, yield_attributes, yield_bounds}
use Rattle.grammar.specs.Level.{Level, intervals, has_collection, has_arrow_of, has_joiner, keeps, keeps_plain, keeps_item, keeps_row, keeps_listing, keeps_attributes, keeps_bounds}
use Rattle.grammar.specs.Nodes
use Rattle.grammar.specs.Nodes.{Node, NodeKind, Role, names_start, names_span, bounds_detail, table}
use Rattle.grammar.proofs.Branches.{Branch, branch, Branches, none, more, flat, flats, grow, grow_plain, grow_item, grow_row, grow_listing, grow_attributes, grow_bounds, grow_plain_name, grow_name, grow_count}
use Rattle.grammar.proofs.Flat.{table_flat}

also : {t : Tok} {r q : List Tok} → q ≡ r → t ∷ q ≡ t ∷ r
also {t} e = ap (λ (l : List Tok). t ∷ l) e

both : {a b c d : Bool} → a ≡ b → c ≡ d → (a && c) ≡ (b && d)
both e f = cc (e, f)

then : {a b : Branch} {bs cs : Branches} → a ≡ b → bs ≡ cs → more a bs ≡ more b cs
then e f = cc (e, f)

under : {k : NodeKind} {s : Span} {r : Role} {d : ℕ} {bs cs : Branches} → bs ≡ cs → branch k s r d bs ≡ branch k s r d cs
under {k} {s} {r} {d} e = ap (λ (x : Branches). branch k s r d x) e

-- each place n is moved to g n
module _ (g : ℕ → ℕ) where
  abbrev pub move_span : Span → Span
  move_span s = record { first = g s.first; end = g s.end }

  -- a token and a node moved
  abbrev pub move_tok : Tok → Tok
  move_tok t = tok t.class (move_span t.at)

  abbrev pub move_node : Node → Node
  move_node n =
      record { kind = n.kind; at = move_span n.at; parent = n.parent; role = n.role; detail = n.detail; stretch = n.stretch }

  -- ---- trees

  abbrev pub move_names : Names → Names
  move_names (one_name s w t) = one_name (move_span s) w (move_span t)
  move_names (more_names n s w t) = more_names (move_names n) (move_span s) w (move_span t)

  abbrev pub move_plain_name : PlainName → PlainName
  move_plain_name (text_name w s) = text_name w (move_span s)
  move_plain_name (nesting_name n) = nesting_name (move_names n)

  abbrev pub move_name : Name → Name
  move_name (plain_name n) = plain_name (move_plain_name n)
  move_name (bare_name h s) = bare_name h (move_span s)

  abbrev pub move_count : {u : Measure} → Count u → Count u
  move_count (Tree.number s) = Tree.number (move_span s)
  move_count (Tree.truth b s) = Tree.truth b (move_span s)

  abbrev mutual
    pub move : Value → Value
    move (Tree.plain p) = Tree.plain (move_plain p)
    move (Tree.bare h s) = Tree.bare h (move_span s)

    pub move_plain : Plain → Plain
    move_plain (Tree.literal a s) = Tree.literal a (move_span s)
    move_plain (Tree.text w s) = Tree.text w (move_span s)
    move_plain (Tree.nesting n) = Tree.nesting (move_names n)
    move_plain (Tree.group o v c) = Tree.group (move_span o) (move v) (move_span c)
    move_plain (Tree.pair o p k v c) = Tree.pair (move_span o) (move_plain p) (move_span k) (move v) (move_span c)
    move_plain (Tree.arrowed o v a k w c) = Tree.arrowed (move_span o) (move v) a (move_span k) (move w) (move_span c)
    move_plain (Tree.tuple o i c) = Tree.tuple (move_span o) (move_attributes i) (move_span c)
    move_plain (Tree.lot o i c) = Tree.lot (move_span o) (move_listing i) (move_span c)
    move_plain (Tree.counted o h s k b i e c) = Tree.counted (move_span o) h (move_span s) (move_span k) (move_span b) (move_listing i) (move_span e) (move_span c)
    move_plain (Tree.interval o b c) = Tree.interval (move_span o) (move_bounds b) (move_span c)

    pub move_item : {s : Style} → Item s → Item s
    move_item (Tree.alone v) = Tree.alone (move v)
    move_item (Tree.open_named n k v) = Tree.open_named (move_plain_name n) (move_span k) (move v)
    move_item (Tree.named n k v) = Tree.named (move_name n) (move_span k) (move v)
    move_item (Tree.joined v j k w) = Tree.joined (move v) j (move_span k) (move w)
    move_item (Tree.times v k c) = Tree.times (move v) (move_span k) (move_count c)

    pub move_row : {f s : Style} → Row f s → Row f s
    move_row (Tree.row_first i c) = Tree.row_first (move_item i) (move_span c)
    move_row (Tree.row_led b i c) = Tree.row_led (move_span b) (move_item i) (move_span c)
    move_row (Tree.row_next o i c) = Tree.row_next (move_row o) (move_item i) (move_span c)

    pub move_listing : {s : Style} → Listing s → Listing s
    move_listing Tree.no_item = Tree.no_item
    move_listing (Tree.one_comma c) = Tree.one_comma (move_span c)
    move_listing (Tree.two_commas c d) = Tree.two_commas (move_span c) (move_span d)
    move_listing (Tree.one_item i) = Tree.one_item (move_item i)
    move_listing (Tree.led_item c i) = Tree.led_item (move_span c) (move_item i)
    move_listing (Tree.trailing o) = Tree.trailing (move_row o)
    move_listing (Tree.last_item o i) = Tree.last_item (move_row o) (move_item i)

    pub move_attributes : Attributes → Attributes
    move_attributes Tree.no_attribute = Tree.no_attribute
    move_attributes (Tree.led_attribute c i) = Tree.led_attribute (move_span c) (move_item i)
    move_attributes (Tree.trailing_comma o) = Tree.trailing_comma (move_row o)
    move_attributes (Tree.last_attribute o i) = Tree.last_attribute (move_row o) (move_item i)

    pub move_bounds : Bounds → Bounds
    move_bounds Tree.empty = Tree.empty
    move_bounds (Tree.single v) = Tree.single (move v)
    move_bounds (Tree.between v b k w) = Tree.between (move v) b (move_span k) (move w)
    move_bounds (Tree.from v a k) = Tree.from (move v) a (move_span k)
    move_bounds (Tree.up_to a k v) = Tree.up_to a (move_span k) (move v)
    move_bounds (Tree.all k) = Tree.all (move_span k)

  -- ---- its tokens

  names_yield : (n : Names) (r q : List Tok) → q ≡ map move_tok r → yield_names (move_names n) q ≡ map move_tok (yield_names n r)
  names_yield (one_name s w t) r q e = also (also e)
  names_yield (more_names n s w t) r q e = names_yield n _ _ (also (also e))

  plain_name_yield : (n : PlainName) (r q : List Tok) → q ≡ map move_tok r → yield_plain_name (move_plain_name n) q ≡ map move_tok (yield_plain_name n r)
  plain_name_yield (text_name w s) r q e = also e
  plain_name_yield (nesting_name n) r q e = names_yield n r q e

  name_yield : (n : Name) (r q : List Tok) → q ≡ map move_tok r → yield_name (move_name n) q ≡ map move_tok (yield_name n r)
  name_yield (plain_name n) r q e = plain_name_yield n r q e
  name_yield (bare_name h s) r q e = also e

  count_yield : {u : Measure} (c : Count u) (r q : List Tok) → q ≡ map move_tok r → yield_count (move_count c) q ≡ map move_tok (yield_count c r)
  count_yield (Tree.number s) r q e = also e
  count_yield (Tree.truth b s) r q e = also e

  mutual
    value_yield : (v : Value) (r q : List Tok) → q ≡ map move_tok r → yield_value (move v) q ≡ map move_tok (yield_value v r)
    value_yield (Tree.plain p) r q e = plain_yield p r q e
    value_yield (Tree.bare h s) r q e = also e

    plain_yield : (p : Plain) (r q : List Tok) → q ≡ map move_tok r → yield_plain (move_plain p) q ≡ map move_tok (yield_plain p r)
    plain_yield (Tree.literal a s) r q e = also e
    plain_yield (Tree.text w s) r q e = also e
    plain_yield (Tree.nesting n) r q e = names_yield n r q e
    plain_yield (Tree.group o v c) r q e = also (value_yield v _ _ (also e))
    plain_yield (Tree.pair o p k v c) r q e = also (plain_yield p _ _ (also (value_yield v _ _ (also e))))
    plain_yield (Tree.arrowed o v a k w c) r q e = also (value_yield v _ _ (also (value_yield w _ _ (also e))))
    plain_yield (Tree.tuple o i c) r q e = also (attributes_yield i _ _ (also e))
    plain_yield (Tree.lot o i c) r q e = also (listing_yield i _ _ (also e))
    plain_yield (Tree.counted o h s k b i x c) r q e = also (also (also (also (listing_yield i _ _ (also (also e))))))
    plain_yield (Tree.interval o b c) r q e = also (bounds_yield b _ _ (also e))

    item_yield : {s : Style} (i : Item s) (r q : List Tok) → q ≡ map move_tok r → yield_item (move_item i) q ≡ map move_tok (yield_item i r)
    item_yield (Tree.alone v) r q e = value_yield v r q e
    item_yield (Tree.open_named n k v) r q e = plain_name_yield n _ _ (also (value_yield v r q e))
    item_yield (Tree.named n k v) r q e = name_yield n _ _ (also (value_yield v r q e))
    item_yield (Tree.joined v j k w) r q e = value_yield v _ _ (also (value_yield w r q e))
    item_yield (Tree.times v k c) r q e = value_yield v _ _ (also (count_yield c r q e))

    row_yield : {f s : Style} (o : Row f s) (r q : List Tok) → q ≡ map move_tok r → yield_row (move_row o) q ≡ map move_tok (yield_row o r)
    row_yield (Tree.row_first i c) r q e = item_yield i _ _ (also e)
    row_yield (Tree.row_led b i c) r q e = also (item_yield i _ _ (also e))
    row_yield (Tree.row_next o i c) r q e = row_yield o _ _ (item_yield i _ _ (also e))

    listing_yield : {s : Style} (i : Listing s) (r q : List Tok) → q ≡ map move_tok r → yield_listing (move_listing i) q ≡ map move_tok (yield_listing i r)
    listing_yield Tree.no_item r q e = e
    listing_yield (Tree.one_comma c) r q e = also e
    listing_yield (Tree.two_commas c d) r q e = also (also e)
    listing_yield (Tree.one_item i) r q e = item_yield i r q e
    listing_yield (Tree.led_item c i) r q e = also (item_yield i r q e)
    listing_yield (Tree.trailing o) r q e = row_yield o r q e
    listing_yield (Tree.last_item o i) r q e = row_yield o _ _ (item_yield i r q e)

    attributes_yield : (i : Attributes) (r q : List Tok) → q ≡ map move_tok r → yield_attributes (move_attributes i) q ≡ map move_tok (yield_attributes i r)
    attributes_yield Tree.no_attribute r q e = e
    attributes_yield (Tree.led_attribute c i) r q e = also (item_yield i r q e)
    attributes_yield (Tree.trailing_comma o) r q e = row_yield o r q e
    attributes_yield (Tree.last_attribute o i) r q e = row_yield o _ _ (item_yield i r q e)

    bounds_yield : (b : Bounds) (r q : List Tok) → q ≡ map move_tok r → yield_bounds (move_bounds b) q ≡ map move_tok (yield_bounds b r)
    bounds_yield Tree.empty r q e = e
    bounds_yield (Tree.single v) r q e = value_yield v r q e
    bounds_yield (Tree.between v b k w) r q e = value_yield v _ _ (also (value_yield w r q e))
    bounds_yield (Tree.from v a k) r q e = value_yield v _ _ (also e)
    bounds_yield (Tree.up_to a k v) r q e = also (value_yield v r q e)
    bounds_yield (Tree.all k) r q e = also e

  -- the tokens of the moved tree are the moved ones, in front of moved ones
  pub yield_moved : (v : Value) (r : List Tok) → yield_value (move v) (map move_tok r) ≡ map move_tok (yield_value v r)
  yield_moved v r = value_yield v r (map move_tok r) refl

  pub tokens_moved : (v : Value) → yield_value (move v) [] ≡ map move_tok (yield_value v [])
  tokens_moved v = yield_moved v []

  -- ---- its levels

  module _ (l : Level) where
    mutual
      pub keeps_moved : (v : Value) → keeps l (move v) ≡ keeps l v
      keeps_moved (Tree.plain p) = plain_keeps p
      keeps_moved (Tree.bare h s) = refl

      plain_keeps : (p : Plain) → keeps_plain l (move_plain p) ≡ keeps_plain l p
      plain_keeps (Tree.literal a s) = refl
      plain_keeps (Tree.text w s) = refl
      plain_keeps (Tree.nesting n) = refl
      plain_keeps (Tree.group o v c) = keeps_moved v
      plain_keeps (Tree.pair o p k v c) = both (plain_keeps p) (keeps_moved v)
      plain_keeps (Tree.arrowed o v a k w c) = both (both {c = has_arrow_of l a} (keeps_moved v) refl) (keeps_moved w)
      plain_keeps (Tree.tuple o i c) = attributes_keep i
      plain_keeps (Tree.lot o i c) = listing_keeps i
      plain_keeps (Tree.counted o h s k b i e c) = both {a = has_collection l h} refl (listing_keeps i)
      plain_keeps (Tree.interval o b c) = both {a = l intervals} refl (bounds_keep b)

      item_keeps : {s : Style} (i : Item s) → keeps_item l (move_item i) ≡ keeps_item l i
      item_keeps (Tree.alone v) = keeps_moved v
      item_keeps (Tree.open_named n k v) = keeps_moved v
      item_keeps (Tree.named n k v) = keeps_moved v
      item_keeps (Tree.joined v j k w) = both (both {c = has_joiner l j} (keeps_moved v) refl) (keeps_moved w)
      item_keeps (Tree.times v k c) = keeps_moved v

      row_keeps : {f s : Style} (o : Row f s) → keeps_row l (move_row o) ≡ keeps_row l o
      row_keeps (Tree.row_first i c) = item_keeps i
      row_keeps (Tree.row_led b i c) = item_keeps i
      row_keeps (Tree.row_next o i c) = both (row_keeps o) (item_keeps i)

      listing_keeps : {s : Style} (i : Listing s) → keeps_listing l (move_listing i) ≡ keeps_listing l i
      listing_keeps Tree.no_item = refl
      listing_keeps (Tree.one_comma c) = refl
      listing_keeps (Tree.two_commas c d) = refl
      listing_keeps (Tree.one_item i) = item_keeps i
      listing_keeps (Tree.led_item c i) = item_keeps i
      listing_keeps (Tree.trailing o) = row_keeps o
      listing_keeps (Tree.last_item o i) = both (row_keeps o) (item_keeps i)

      attributes_keep : (i : Attributes) → keeps_attributes l (move_attributes i) ≡ keeps_attributes l i
      attributes_keep Tree.no_attribute = refl
      attributes_keep (Tree.led_attribute c i) = item_keeps i
      attributes_keep (Tree.trailing_comma o) = row_keeps o
      attributes_keep (Tree.last_attribute o i) = both (row_keeps o) (item_keeps i)

      bounds_keep : (b : Bounds) → keeps_bounds l (move_bounds b) ≡ keeps_bounds l b
      bounds_keep Tree.empty = refl
      bounds_keep (Tree.single v) = keeps_moved v
      bounds_keep (Tree.between v b k w) = both (keeps_moved v) (keeps_moved w)
      bounds_keep (Tree.from v a k) = keeps_moved v
      bounds_keep (Tree.up_to a k v) = keeps_moved v
      bounds_keep (Tree.all k) = refl

  -- ---- its nodes

  abbrev mutual
    move_branch : Branch → Branch
    move_branch (branch k s r d bs) = branch k (move_span s) r d (move_branches bs)

    move_branches : Branches → Branches
    move_branches none = none
    move_branches (more b bs) = more (move_branch b) (move_branches bs)

  start_moved : (n : Names) → names_start (move_names n) ≡ move_span (names_start n)
  start_moved (one_name s w t) = refl
  start_moved (more_names n s w t) = start_moved n

  names_span_lem : (n : Names) → names_span (move_names n) ≡ move_span (names_span n)
  names_span_lem (one_name s w t) = refl
  names_span_lem (more_names n s w t) = ap (λ (x : Span). Nodes.over x (move_span t)) (start_moved n)

  names_grown : (n : Names) (r : Role) → branch Nodes.a_nesting (names_span (move_names n)) r 0 none ≡ move_branch (branch Nodes.a_nesting (names_span n) r 0 none)
  names_grown n r = ap (λ (s : Span). branch Nodes.a_nesting s r 0 none) (names_span_lem n)

  plain_name_grown : (n : PlainName) (r : Role) → grow_plain_name (move_plain_name n) r ≡ move_branch (grow_plain_name n r)
  plain_name_grown (text_name w s) r = refl
  plain_name_grown (nesting_name n) r = names_grown n r

  name_grown : (n : Name) (r : Role) → grow_name (move_name n) r ≡ move_branch (grow_name n r)
  name_grown (plain_name n) r = plain_name_grown n r
  name_grown (bare_name h s) r = refl

  count_grown : {u : Measure} (c : Count u) → grow_count (move_count c) ≡ move_branch (grow_count c)
  count_grown (Tree.number s) = refl
  count_grown (Tree.truth b s) = refl

  detail_moved : (b : Bounds) → bounds_detail (move_bounds b) ≡ bounds_detail b
  detail_moved Tree.empty = refl
  detail_moved (Tree.single v) = refl
  detail_moved (Tree.between v b k w) = refl
  detail_moved (Tree.from v Tree.less_equal k) = refl
  detail_moved (Tree.from v Tree.less k) = refl
  detail_moved (Tree.up_to Tree.less_equal k v) = refl
  detail_moved (Tree.up_to Tree.less k v) = refl
  detail_moved (Tree.all k) = refl

  mutual
    grow_moved : (v : Value) (r : Role) → grow (move v) r ≡ move_branch (grow v r)
    grow_moved (Tree.plain p) r = plain_grown p r
    grow_moved (Tree.bare h s) r = refl

    plain_grown : (p : Plain) (r : Role) → grow_plain (move_plain p) r ≡ move_branch (grow_plain p r)
    plain_grown (Tree.literal a s) r = refl
    plain_grown (Tree.text w s) r = refl
    plain_grown (Tree.nesting n) r = names_grown n r
    plain_grown (Tree.group o v c) r = grow_moved v r
    plain_grown (Tree.pair o p k v c) r = under (then (plain_grown p _) (then (grow_moved v _) refl))
    plain_grown (Tree.arrowed o v a k w c) r = under (then (grow_moved v _) (then (grow_moved w _) refl))
    plain_grown (Tree.tuple o i c) r = under (attributes_grown i none none refl)
    plain_grown (Tree.lot o i c) r = under (listing_grown i none none refl)
    plain_grown (Tree.counted o h s k b i e c) r = under (listing_grown i none none refl)
    plain_grown (Tree.interval o b c) r =
        ap (λ (d : ℕ). branch Nodes.an_interval (move_span (Nodes.over o c)) r d (grow_bounds (move_bounds b))) (detail_moved b)
        ∙ under (bounds_grown b)

    item_grown : {s : Style} (i : Item s) (bs cs : Branches) → cs ≡ move_branches bs → grow_item (move_item i) cs ≡ move_branches (grow_item i bs)
    item_grown (Tree.alone {s} v) bs cs e = then (grow_moved v (Nodes.alone_role_of s)) e
    item_grown (Tree.open_named n k v) bs cs e = then (plain_name_grown n Nodes.name) (then (grow_moved v Nodes.value) e)
    item_grown (Tree.named n k v) bs cs e = then (name_grown n Nodes.name) (then (grow_moved v Nodes.value) e)
    item_grown (Tree.joined v j k w) bs cs e = then (grow_moved v (Nodes.joiner_left j)) (then (grow_moved w (Nodes.joiner_right j)) e)
    item_grown (Tree.times v k c) bs cs e = then (grow_moved v Nodes.value) (then (count_grown c) e)

    row_grown : {f s : Style} (o : Row f s) (bs cs : Branches) → cs ≡ move_branches bs → grow_row (move_row o) cs ≡ move_branches (grow_row o bs)
    row_grown (Tree.row_first i c) bs cs e = item_grown i bs cs e
    row_grown (Tree.row_led b i c) bs cs e = item_grown i bs cs e
    row_grown (Tree.row_next o i c) bs cs e = row_grown o _ _ (item_grown i bs cs e)

    listing_grown : {s : Style} (i : Listing s) (bs cs : Branches) → cs ≡ move_branches bs → grow_listing (move_listing i) cs ≡ move_branches (grow_listing i bs)
    listing_grown Tree.no_item bs cs e = e
    listing_grown (Tree.one_comma c) bs cs e = e
    listing_grown (Tree.two_commas c d) bs cs e = e
    listing_grown (Tree.one_item i) bs cs e = item_grown i bs cs e
    listing_grown (Tree.led_item c i) bs cs e = item_grown i bs cs e
    listing_grown (Tree.trailing o) bs cs e = row_grown o bs cs e
    listing_grown (Tree.last_item o i) bs cs e = row_grown o _ _ (item_grown i bs cs e)

    attributes_grown : (i : Attributes) (bs cs : Branches) → cs ≡ move_branches bs → grow_attributes (move_attributes i) cs ≡ move_branches (grow_attributes i bs)
    attributes_grown Tree.no_attribute bs cs e = e
    attributes_grown (Tree.led_attribute c i) bs cs e = item_grown i bs cs e
    attributes_grown (Tree.trailing_comma o) bs cs e = row_grown o bs cs e
    attributes_grown (Tree.last_attribute o i) bs cs e = row_grown o _ _ (item_grown i bs cs e)

    bounds_grown : (b : Bounds) → grow_bounds (move_bounds b) ≡ move_branches (grow_bounds b)
    bounds_grown Tree.empty = refl
    bounds_grown (Tree.single v) = then (grow_moved v _) refl
    bounds_grown (Tree.between v b k w) = then (grow_moved v _) (then (grow_moved w _) refl)
    bounds_grown (Tree.from v a k) = then (grow_moved v _) refl
    bounds_grown (Tree.up_to a k v) = then (grow_moved v _) refl
    bounds_grown (Tree.all k) = refl

  mutual
    flat_moved : (b : Branch) (p n : ℕ) → flat (move_branch b) p n ≡ map move_node (flat b p n)
    flat_moved (branch k s r d bs) p n =
        ap (Nodes.branch k (move_span s) p r d) (flats_moved bs n (n + 1))
        ∙ ap (λ (x : ℕ). record { kind = k; at = move_span s; parent = p; role = r; detail = d; stretch = 1 + x } ∷ map move_node (flats bs n (n + 1)))
        (length-map (flats bs n (n + 1)) move_node)

    flats_moved : (bs : Branches) (p n : ℕ) → flats (move_branches bs) p n ≡ map move_node (flats bs p n)
    flats_moved none p n = refl
    flats_moved (more b bs) p n =
        let k = n + length (flat b p n) in
        ap (λ (l : List Node). l ++ flats (move_branches bs) p (n + length l)) (flat_moved b p n)
        ∙ ap (λ (x : ℕ). map move_node (flat b p n) ++ flats (move_branches bs) p (n + x)) (length-map (flat b p n) move_node)
        ∙ ap (λ (l : List Node). map move_node (flat b p n) ++ l) (flats_moved bs p k) ∙ sym (map-append move_node (flat b p n) (flats bs p k))

  pub table_moved : (v : Value) → table (move v) ≡ map move_node (table v)
  table_moved v =
      table_flat (move v) ∙ ap (λ (b : Branch). flat b 0 0) (grow_moved v Nodes.root) ∙ flat_moved (grow v Nodes.root) 0 0
      ∙ ap (λ (l : List Node). map move_node l) (sym (table_flat v))
