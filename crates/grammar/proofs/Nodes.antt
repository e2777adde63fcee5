-- Every node of a derivation, by one induction: it begins and ends with tokens of the tree, so what holds of every token of the yield holds of
-- these; its parent is in the table, its detail at most 11, the largest of 01, and a that before its this comes with a `<-`. Assumes nothing.
use mathlib.Core.Path.{◌≡◌, refl, sym, ◌∙◌}
use mathlib.Core.Bool.{Bool, true, false, false≢true}
use mathlib.Core.List.{List, []}
use Prim.Native.Nat.{ℕ, ◌+◌, ◌≤◌, ◌<◌}
use native.Mathlib.Omega.{arith}
use lib.ListN.{length, length-append}
use Rattle.rules.specs.Every.{Every, none, also}
use Rattle.rules.proofs.Every.{every_first, every_rest, every_append, every_map}
use Rattle.grammar.specs.Tokens
use Rattle.grammar.specs.Tokens.{Span, Tok, tok, Class, mark, left_arrow, Atom, boolean, integer, Spelling, quoted, word, code_point_of, spelled, head_word, names}
use Rattle.grammar.specs.Tree
use Rattle.grammar.specs.Tree.{Names, one_name, more_names, PlainName, text_name, nesting_name, Name, plain_name, bare_name, Arrow, rightward, leftward, Joiner, Collection, Between, two_dots, star_sign, less, less_equal, Measure, Count, Style, Value, Plain, Item, Row, Listing, Attributes, Bounds}
use Rattle.grammar.specs.Yield.{arrow_mark, joiner_mark, yield_names, yield_plain_name, yield_name, yield_count, yield_value, yield_plain, yield_item, yield_row, yield_listing, yield_attributes, yield_bounds}
use Rattle.grammar.specs.Nodes.{NodeKind, a_nesting, Node, Role, root, this, that_after, that_before, name, value, count, low, high, single, alone_role_of, left_role_of, right_role_of, joiner_left, joiner_right, collection_kind, over, leaf, branch, both, names_start, names_span, truth_detail, atom_detail, spelling_detail, between_detail, bounds_detail, table, nodes, nodes_plain, nodes_plain_name, nodes_name, nodes_count, nodes_item, nodes_row, nodes_listing, nodes_attributes, nodes_bounds}
use Rattle.grammar.specs.Leaves.{Written, literal, text, is_literal_of}
use Rattle.grammar.proofs.NodeLaws.{some_node}

-- ---- details

no_detail : 0 ≤ 11
no_detail = omega arith

truth_detail_lem : (b : Bool) → truth_detail b ≤ 11
truth_detail_lem false = omega arith
truth_detail_lem true = omega arith

atom_detail_lem : (a : Atom) → atom_detail a ≤ 11
atom_detail_lem Tokens.ignorance = omega arith
atom_detail_lem (boolean b) = truth_detail_lem b
atom_detail_lem (integer signed) = omega arith
atom_detail_lem Tokens.fraction = omega arith
atom_detail_lem Tokens.bits = omega arith
atom_detail_lem Tokens.blob = omega arith

spelling_detail_lem : (w : Spelling) → spelling_detail w ≤ 11
spelling_detail_lem quoted = omega arith
spelling_detail_lem word = omega arith
spelling_detail_lem code_point_of = omega arith

between_detail_lem : (b : Between) → between_detail b ≤ 11
between_detail_lem two_dots = omega arith
between_detail_lem (star_sign less_equal less_equal) = omega arith
between_detail_lem (star_sign less_equal less) = omega arith
between_detail_lem (star_sign less less_equal) = omega arith
between_detail_lem (star_sign less less) = omega arith

bounds_detail_lem : (b : Bounds) → bounds_detail b ≤ 11
bounds_detail_lem Tree.empty = omega arith
bounds_detail_lem (Tree.single v) = omega arith
bounds_detail_lem (Tree.between v b k w) = between_detail_lem b
bounds_detail_lem (Tree.from v less_equal k) = omega arith
bounds_detail_lem (Tree.from v less k) = omega arith
bounds_detail_lem (Tree.up_to less_equal k v) = omega arith
bounds_detail_lem (Tree.up_to less k v) = omega arith
bounds_detail_lem (Tree.all k) = omega arith

module _ (P : Tok → Type 0) where
  -- the node is a token with the property
  pub record TokenOf (n : Node) : Type 0 where
    pub class : Class
    pub written : Written n.kind class
    pub holds : P (tok class n.at)

  -- a role that is told by a `<-`, and the others
  abbrev pub Told : Role → Type 0
  Told root = Unit {0}
  Told this = Unit {0}
  Told that_after = Unit {0}
  Told that_before = (s : Span) × P (tok (mark left_arrow) s)
  Told name = Unit {0}
  Told value = Unit {0}
  Told count = Unit {0}
  Told low = Unit {0}
  Told high = Unit {0}
  Told single = Unit {0}

  alone_told : (s : Style) → Told (alone_role_of s)
  alone_told Tree.opening = tt
  alone_told Tree.attribute = tt
  alone_told Tree.member = tt
  alone_told (Tree.copy u) = tt

  left_told : (j : Arrow) (k : Span) → P (tok (mark (arrow_mark j)) k) → Told (left_role_of j)
  left_told rightward k x = tt
  left_told leftward k x = (k, x)

  right_told : (j : Arrow) → Told (right_role_of j)
  right_told rightward = tt
  right_told leftward = tt

  joiner_left_lem : (j : Joiner) (k : Span) → P (tok (mark (joiner_mark j)) k) → Told (joiner_left j)
  joiner_left_lem Tree.colon k x = tt
  joiner_left_lem (Tree.arrow a) k x = left_told a k x

  joiner_right_lem : (j : Joiner) → Told (joiner_right j)
  joiner_right_lem Tree.colon = tt
  joiner_right_lem (Tree.arrow a) = right_told a

  abbrev pub IfLiteral : Node → Type 0
  IfLiteral n = is_literal_of n.kind ≡ true → TokenOf n

  -- a node of a table with so many: the tokens that it begins and ends with, one and the same for a literal
  pub record Made (size : ℕ) (n : Node) : Type 0 where
    pub opening : Tok
    pub opening_holds : P opening
    pub first_is : n.at.first ≡ opening.at.first
    pub closing : Tok
    pub closing_holds : P closing
    pub end_is : n.at.end ≡ closing.at.end
    pub if_literal : IfLiteral n
    pub parent_inside : n.parent < size
    pub detail_small : n.detail ≤ 11
    pub role_told : Told n.role

  module _ (size : ℕ) where
    one_token : {k : NodeKind} {c : Class} {s : Span} {p d : ℕ} {r : Role} → Written k c → P (tok c s) → p < size → Told r → d ≤ 11 → Every (Made size) (leaf k s p r d)
    one_token {s = s} w x h y e =
        also (record {
          opening = tok _ s;
          opening_holds = x;
          first_is = refl;
          closing = tok _ s;
          closing_holds = x;
          end_is = refl;
          if_literal = λ z. record { class = _; written = w; holds = x };
          parent_inside = h;
          detail_small = e;
          role_told = y;
        }) none

    -- a Nesting, or what stands in brackets, before its children
    from_to : {k : NodeKind} {a b : Class} {s t : Span} {p d m : ℕ} {r : Role} → is_literal_of k ≡ false → P (tok a s) → P (tok b t) → p < size → Told r → d ≤ 11 →
        Made size (record { kind = k; at = over s t; parent = p; role = r; detail = d; stretch = m })
    from_to {s = s} {t} f x y h o e =
        record {
          opening = tok _ s;
          opening_holds = x;
          first_is = refl;
          closing = tok _ t;
          closing_holds = y;
          end_is = refl;
          if_literal = λ z. absurd (false≢true (sym f ∙ z));
          parent_inside = h;
          detail_small = e;
          role_told = o;
        }

    -- the nodes from index n on, where the table has room for them
    abbrev From : (ℕ → List Node) → Type 0
    From f = (n : ℕ) → n + length (f n) ≤ size → Every (Made size) (f n)

    from_both : (f g : ℕ → List Node) → From f → From g → From (both f g)
    from_both f g x y n h =
        let e = length-append (f n) (g (n + length (f n))) in
        every_append (x n (omega (arith, e, h))) (y (n + length (f n)) (omega (arith, e, h)))

    -- the nodes, wherever they stand; and the tokens behind
    abbrev All : (ℕ → Role → ℕ → List Node) → List Tok → Type 0
    All f ts = ((p : ℕ) (r : Role) → p < size → Told r → From (f p r)) × Every P ts

    abbrev Under : (ℕ → ℕ → List Node) → List Tok → Type 0
    Under f ts = ((p : ℕ) → p < size → From (f p)) × Every P ts

    -- ---- names and counts

    names_start_lem : (m : Names) {ts : List Tok} → Every P (yield_names m ts) → P (tok names (names_start m)) × Every P ts
    names_start_lem (one_name s w t) x = (every_first x, every_rest (every_rest x))
    names_start_lem (more_names m s w t) x = let y = names_start_lem m x in (y.0, every_rest (every_rest y.1))

    of_names : (m : Names) {ts : List Tok} → Every P (yield_names m ts) → All (λ p r n. leaf a_nesting (names_span m) p r 0) ts
    of_names (one_name s w t) x =
        (λ p r h o n e. also (from_to refl (every_first x) (every_first (every_rest x)) h o no_detail) none, every_rest (every_rest x))
    of_names (more_names m s w t) x =
        let y = names_start_lem m x in
        (λ p r h o n e. also (from_to refl y.0 (every_first (every_rest y.1)) h o no_detail) none, every_rest (every_rest y.1))

    of_plain_name : (m : PlainName) {ts : List Tok} → Every P (yield_plain_name m ts) → All (λ p r n. nodes_plain_name m p r) ts
    of_plain_name (text_name w s) x = (λ p r h o n e. one_token (text (spelled w)) (every_first x) h o (spelling_detail_lem w), every_rest x)
    of_plain_name (nesting_name m) x = of_names m x

    of_name : (m : Name) {ts : List Tok} → Every P (yield_name m ts) → All (λ p r n. nodes_name m p r) ts
    of_name (plain_name m) x = of_plain_name m x
    of_name (bare_name h s) x = (λ p r l o n e. one_token (text (head_word h)) (every_first x) l o (omega arith), every_rest x)

    of_count : {u : Measure} (c : Count u) {ts : List Tok} → Every P (yield_count c ts) → Under (λ p n. nodes_count c p) ts
    of_count (Tree.number s) x = (λ p h n e. one_token (literal (integer _)) (every_first x) h tt (omega arith), every_rest x)
    of_count (Tree.truth b s) x = (λ p h n e. one_token (literal (boolean b)) (every_first x) h tt (truth_detail_lem b), every_rest x)

    -- ---- values

    -- a bracket's own node, and behind it those of what it holds
    holding : {k : NodeKind} {a b : Class} {s t : Span} {d : ℕ} (f : ℕ → ℕ → List Node) → is_literal_of k ≡ false → P (tok a s) → P (tok b t) → d ≤ 11 →
        ((p : ℕ) → p < size → From (f p)) →
        (p : ℕ) (r : Role) → p < size → Told r → From (λ n. branch k (over s t) p r d (f n (n + 1)))
    holding f k x y e z p r h o n l = also (from_to k x y h o e) (z n (omega (arith, l)) (n + 1) (omega (arith, l)))

    counted_kind : (h : Collection) → is_literal_of (collection_kind h) ≡ false
    counted_kind Tree.array = refl
    counted_kind Tree.set = refl
    counted_kind Tree.bag = refl

    mutual
      of_value_lem : (v : Value) {ts : List Tok} → Every P (yield_value v ts) → All (nodes v) ts
      of_value_lem (Tree.plain v) x = of_plain v x
      of_value_lem (Tree.bare h s) x = (λ p r l o n e. one_token (text (head_word h)) (every_first x) l o (omega arith), every_rest x)

      of_plain : (v : Plain) {ts : List Tok} → Every P (yield_plain v ts) → All (nodes_plain v) ts
      of_plain (Tree.literal a s) x = (λ p r h o n e. one_token (literal a) (every_first x) h o (atom_detail_lem a), every_rest x)
      of_plain (Tree.text w s) x = (λ p r h o n e. one_token (text (spelled w)) (every_first x) h o (spelling_detail_lem w), every_rest x)
      of_plain (Tree.nesting m) x = of_names m x
      of_plain (Tree.group o v c) x = let y = of_value_lem v (every_rest x) in (y.0, every_rest y.1)
      of_plain (Tree.pair o a k b c) x =
          let y = of_plain a (every_rest x) in let z = of_value_lem b (every_rest y.1) in
          (holding (λ p. both (nodes_plain a p this) (nodes b p that_after)) refl (every_first x) (every_first z.1) no_detail (λ p h. from_both _ _ (y.0 p _ h tt) (z.0 p _ h tt)), every_rest z.1)
      of_plain (Tree.arrowed o a j k b c) x =
          let y = of_value_lem a (every_rest x) in let z = of_value_lem b (every_rest y.1) in
          (holding (λ p. both (nodes a p (left_role_of j)) (nodes b p (right_role_of j))) refl (every_first x) (every_first z.1) no_detail (λ p h. from_both _ _ (y.0 p _ h (left_told j k (every_first y.1))) (z.0 p _ h (right_told j))), every_rest z.1)
      of_plain (Tree.tuple o l c) x =
          let y = of_attributes l (every_rest x) in (holding (nodes_attributes l) refl (every_first x) (every_first y.1) no_detail y.0, every_rest y.1)
      of_plain (Tree.lot o l c) x =
          let y = of_listing l (every_rest x) in (holding (nodes_listing l) refl (every_first x) (every_first y.1) no_detail y.0, every_rest y.1)
      of_plain (Tree.counted o h s k b l e c) x =
          let y = of_listing l (every_rest (every_rest (every_rest (every_rest x)))) in
          (holding (nodes_listing l) (counted_kind h) (every_first x) (every_first (every_rest y.1)) no_detail y.0, every_rest (every_rest y.1))
      of_plain (Tree.interval o b c) x =
          let y = of_bounds b (every_rest x) in (holding (nodes_bounds b) refl (every_first x) (every_first y.1) (bounds_detail_lem b) y.0, every_rest y.1)

      of_item : {s : Style} (i : Item s) {ts : List Tok} → Every P (yield_item i ts) → Under (nodes_item i) ts
      of_item (Tree.alone {s} v) x = let y = of_value_lem v x in (λ p h. y.0 p _ h (alone_told s), y.1)
      of_item (Tree.open_named m k v) x =
          let y = of_plain_name m x in let z = of_value_lem v (every_rest y.1) in (λ p h. from_both _ _ (y.0 p _ h tt) (z.0 p _ h tt), z.1)
      of_item (Tree.named m k v) x =
          let y = of_name m x in let z = of_value_lem v (every_rest y.1) in (λ p h. from_both _ _ (y.0 p _ h tt) (z.0 p _ h tt), z.1)
      of_item (Tree.joined a j k b) x =
          let y = of_value_lem a x in let z = of_value_lem b (every_rest y.1) in
          (λ p h. from_both _ _ (y.0 p _ h (joiner_left_lem j k (every_first y.1))) (z.0 p _ h (joiner_right_lem j)), z.1)
      of_item (Tree.times v k c) x =
          let y = of_value_lem v x in let z = of_count c (every_rest y.1) in (λ p h. from_both _ _ (y.0 p _ h tt) (z.0 p h), z.1)

      of_row : {f s : Style} (o : Row f s) {ts : List Tok} → Every P (yield_row o ts) → Under (nodes_row o) ts
      of_row (Tree.row_first i c) x = let y = of_item i x in (y.0, every_rest y.1)
      of_row (Tree.row_led b i c) x = let y = of_item i (every_rest x) in (y.0, every_rest y.1)
      of_row (Tree.row_next o i c) x =
          let y = of_row o x in let z = of_item i y.1 in (λ p h. from_both _ _ (y.0 p h) (z.0 p h), every_rest z.1)

      of_listing : {s : Style} (l : Listing s) {ts : List Tok} → Every P (yield_listing l ts) → Under (nodes_listing l) ts
      of_listing Tree.no_item x = (λ p h n e. none, x)
      of_listing (Tree.one_comma c) x = (λ p h n e. none, every_rest x)
      of_listing (Tree.two_commas c d) x = (λ p h n e. none, every_rest (every_rest x))
      of_listing (Tree.one_item i) x = of_item i x
      of_listing (Tree.led_item c i) x = of_item i (every_rest x)
      of_listing (Tree.trailing o) x = of_row o x
      of_listing (Tree.last_item o i) x =
          let y = of_row o x in let z = of_item i y.1 in (λ p h. from_both _ _ (y.0 p h) (z.0 p h), z.1)

      of_attributes : (l : Attributes) {ts : List Tok} → Every P (yield_attributes l ts) → Under (nodes_attributes l) ts
      of_attributes Tree.no_attribute x = (λ p h n e. none, x)
      of_attributes (Tree.led_attribute c i) x = of_item i (every_rest x)
      of_attributes (Tree.trailing_comma o) x = of_row o x
      of_attributes (Tree.last_attribute o i) x =
          let y = of_row o x in let z = of_item i y.1 in (λ p h. from_both _ _ (y.0 p h) (z.0 p h), z.1)

      of_bounds : (b : Bounds) {ts : List Tok} → Every P (yield_bounds b ts) → Under (nodes_bounds b) ts
      of_bounds Tree.empty x = (λ p h n e. none, x)
      of_bounds (Tree.single v) x = let y = of_value_lem v x in (λ p h. y.0 p _ h tt, y.1)
      of_bounds (Tree.between v b k w) x =
          let y = of_value_lem v x in let z = of_value_lem w (every_rest y.1) in (λ p h. from_both _ _ (y.0 p _ h tt) (z.0 p _ h tt), z.1)
      of_bounds (Tree.from v a k) x = let y = of_value_lem v x in (λ p h. y.0 p _ h tt, every_rest y.1)
      of_bounds (Tree.up_to a k v) x = let y = of_value_lem v (every_rest x) in (λ p h. y.0 p _ h tt, y.1)
      of_bounds (Tree.all k) x = (λ p h n e. none, every_rest x)

  pub table_made : (v : Value) → Every P (yield_value v []) → Every (Made (length (table v))) (table v)
  table_made v x = (of_value_lem (length (table v)) v x).0 0 root (some_node v 0 root 0) tt 0 (omega arith)

  -- a node that is one token has the token's property
  pub table_leaves : (v : Value) → Every P (yield_value v []) → Every IfLiteral (table v)
  table_leaves v x = every_map (λ n m. m.if_literal) (table_made v x)
