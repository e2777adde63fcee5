-- The nodes of a derivation: 01, 'The node table', with the seventh word of 02's request 7. Parent first, children in
-- source order. Assumes nothing.
use Rattle.std.specs.Prelude.{Bool, true, false, List, [], ◌∷◌, ◌++◌, ℕ, ◌+◌, ◌*◌, length, get_or}
use Rattle.grammar.specs.Tokens
use Rattle.grammar.specs.Tokens.{Span, Atom, Spelling, quoted, word, code_point_of}
use Rattle.grammar.specs.Tree
use Rattle.grammar.specs.Tree.{Names, one_name, more_names, PlainName, text_name, nesting_name, Name, plain_name}
use Rattle.grammar.specs.Tree.{bare_name, Arrow, rightward, leftward, Joiner, Collection, Measure, Count, less}
use Rattle.grammar.specs.Tree.{less_equal, Between, two_dots, star_sign, Style, Value, Plain, Item, Row, Listing}
use Rattle.grammar.specs.Tree.{Attributes, Bounds}

pub data NodeKind : Type 0 where
  an_ignorance a_boolean an_integer a_fraction a_bits a_blob a_text a_nesting : NodeKind
  a_pair a_tuple a_lot an_array a_set a_bag an_interval : NodeKind

pub data Role : Type 0 where
  root this that_after that_before name value count low high single : Role

pub record Node : Type 0 where
  pub kind : NodeKind
  pub at : Span
  pub parent : ℕ
  pub role : Role
  pub detail : ℕ
  -- how many nodes it is with all its descendants, which stand right behind it
  pub stretch : ℕ

-- the numbers of the paper
abbrev pub kind_number_of : NodeKind → ℕ
kind_number_of an_ignorance = 1
kind_number_of a_boolean = 2
kind_number_of an_integer = 3
kind_number_of a_fraction = 4
kind_number_of a_bits = 5
kind_number_of a_blob = 6
kind_number_of a_text = 7
kind_number_of a_nesting = 8
kind_number_of a_pair = 9
kind_number_of a_tuple = 10
kind_number_of a_lot = 11
kind_number_of an_array = 12
kind_number_of a_set = 13
kind_number_of a_bag = 14
kind_number_of an_interval = 15

abbrev pub role_number : Role → ℕ
role_number root = 0
role_number this = 1
role_number that_after = 2
role_number that_before = 3
role_number name = 4
role_number value = 5
role_number count = 6
role_number low = 7
role_number high = 8
role_number single = 9

-- of the node at index i: kind, first byte, byte after the last, parent's index, role, detail, and 'the index just past
-- its last descendant, or past itself if it has none'
abbrev pub words : ℕ → Node → List ℕ
words i n =
    kind_number_of n.kind ∷ n.at.first ∷ n.at.end ∷ n.parent ∷ role_number n.role ∷ n.detail ∷ (i + n.stretch)
    ∷ []

-- how many words a node has
abbrev pub node_words : ℕ
node_words = 7

-- which of them, counted from 0, tells what
abbrev pub kind_word : ℕ
kind_word = 0

abbrev pub first_word : ℕ
first_word = 1

abbrev pub end_word : ℕ
end_word = 2

abbrev pub parent_word : ℕ
parent_word = 3

abbrev pub role_word : ℕ
role_word = 4

abbrev pub detail_word : ℕ
detail_word = 5

abbrev pub skip_word : ℕ
skip_word = 6

-- word k of the node at index i of a table
abbrev pub word_at : List ℕ → ℕ → ℕ → ℕ
word_at t i k = get_or t (i * node_words + k) 0

-- of nodes one behind the other, the first of them at index i
abbrev pub words_from : ℕ → List Node → List ℕ
words_from i [] = []
words_from i (n ∷ ns) = words i n ++ words_from (i + 1) ns

abbrev pub table_words : List Node → List ℕ
table_words ns = words_from 0 ns

-- ---- what a literal's node tells

abbrev pub atom_kind : Atom → NodeKind
atom_kind Tokens.ignorance = an_ignorance
atom_kind (Tokens.boolean b) = a_boolean
atom_kind (Tokens.integer signed) = an_integer
atom_kind Tokens.fraction = a_fraction
atom_kind Tokens.bits = a_bits
atom_kind Tokens.blob = a_blob

-- a Boolean's detail is 0 for FALSE, 1 for TRUE
abbrev pub truth_detail : Bool → ℕ
truth_detail false = 0
truth_detail true = 1

abbrev pub atom_detail : Atom → ℕ
atom_detail Tokens.ignorance = 0
atom_detail (Tokens.boolean b) = truth_detail b
atom_detail (Tokens.integer signed) = 0
atom_detail Tokens.fraction = 0
atom_detail Tokens.bits = 0
atom_detail Tokens.blob = 0

-- a Text's detail is 1 quoted, 2 word, 3 code point
abbrev pub spelling_detail : Spelling → ℕ
spelling_detail quoted = 1
spelling_detail word = 2
spelling_detail code_point_of = 3

-- an Interval's: 0 empty, 1 single, then the signs
abbrev pub between_detail : Between → ℕ
between_detail two_dots = 11
between_detail (star_sign less_equal less_equal) = 2
between_detail (star_sign less_equal less) = 3
between_detail (star_sign less less_equal) = 4
between_detail (star_sign less less) = 5

abbrev pub bounds_detail : Bounds → ℕ
bounds_detail Tree.empty = 0
bounds_detail (Tree.single v) = 1
bounds_detail (Tree.between v b k w) = between_detail b
bounds_detail (Tree.from v less_equal k) = 6
bounds_detail (Tree.from v less k) = 7
bounds_detail (Tree.up_to less_equal k v) = 8
bounds_detail (Tree.up_to less k v) = 9
bounds_detail (Tree.all k) = 10

abbrev pub collection_kind : Collection → NodeKind
collection_kind Tree.array = an_array
collection_kind Tree.set = a_set
collection_kind Tree.bag = a_bag

-- ---- spans

abbrev pub over : Span → Span → Span
over a b = record { first = a.first; end = b.end }

-- a Nesting reaches from its first `::` to the end of its last Text
abbrev pub names_start : Names → Span
names_start (one_name s w t) = s
names_start (more_names n s w t) = names_start n

abbrev pub names_span : Names → Span
names_span (one_name s w t) = over s t
names_span (more_names n s w t) = over (names_start n) t

-- ---- the nodes, the first of them at index n

-- a node without children, and one with
abbrev pub leaf : NodeKind → Span → ℕ → Role → ℕ → List Node
leaf k s p r d = record { kind = k; at = s; parent = p; role = r; detail = d; stretch = 1 } ∷ []

abbrev pub branch : NodeKind → Span → ℕ → Role → ℕ → List Node → List Node
branch k s p r d ns = record { kind = k; at = s; parent = p; role = r; detail = d; stretch = 1 + length ns } ∷ ns

-- one group of nodes and the next, each given the index at which it begins
abbrev pub both : (ℕ → List Node) → (ℕ → List Node) → ℕ → List Node
both f g n = f n ++ g (n + length (f n))

abbrev pub nodes_plain_name : PlainName → ℕ → Role → List Node
nodes_plain_name (text_name w s) p r = leaf a_text s p r (spelling_detail w)
nodes_plain_name (nesting_name m) p r = leaf a_nesting (names_span m) p r 0

abbrev pub nodes_name : Name → ℕ → Role → List Node
nodes_name (plain_name m) p r = nodes_plain_name m p r
nodes_name (bare_name h s) p r = leaf a_text s p r 2

abbrev pub nodes_count : {u : Measure} → Count u → ℕ → List Node
nodes_count (Tree.number s) p = leaf an_integer s p count 0
nodes_count (Tree.truth b s) p = leaf a_boolean s p count (truth_detail b)

-- the role of a value by itself: a member of a Lot is a this, any other a value
abbrev pub alone_role_of : Style → Role
alone_role_of Tree.opening = value
alone_role_of Tree.attribute = value
alone_role_of Tree.member = this
alone_role_of (Tree.copy u) = value

-- `a:b` and `a->b` are this and that, `b<-a` that and this
abbrev pub left_role_of : Arrow → Role
left_role_of rightward = this
left_role_of leftward = that_before

abbrev pub right_role_of : Arrow → Role
right_role_of rightward = that_after
right_role_of leftward = this

abbrev pub joiner_left : Joiner → Role
joiner_left Tree.colon = this
joiner_left (Tree.arrow a) = left_role_of a

abbrev pub joiner_right : Joiner → Role
joiner_right Tree.colon = that_after
joiner_right (Tree.arrow a) = right_role_of a

abbrev mutual
  -- the nodes of a value whose first has index n, parent p and role r
  pub nodes : Value → ℕ → Role → ℕ → List Node
  nodes (Tree.plain v) p r n = nodes_plain v p r n
  nodes (Tree.bare h s) p r n = leaf a_text s p r 2

  pub nodes_plain : Plain → ℕ → Role → ℕ → List Node
  nodes_plain (Tree.literal a s) p r n = leaf (atom_kind a) s p r (atom_detail a)
  nodes_plain (Tree.text w s) p r n = leaf a_text s p r (spelling_detail w)
  nodes_plain (Tree.nesting m) p r n = leaf a_nesting (names_span m) p r 0
  nodes_plain (Tree.group o v c) p r n = nodes v p r n
  nodes_plain (Tree.pair o a k b c) p r n =
      branch a_pair (over o c) p r 0 (both (λ i. nodes_plain a n this i) (λ i. nodes b n that_after i) (n + 1))
  nodes_plain (Tree.arrowed o a j k b c) p r n =
      branch a_pair (over o c) p r 0
      (both (λ i. nodes a n (left_role_of j) i) (λ i. nodes b n (right_role_of j) i) (n + 1))
  nodes_plain (Tree.tuple o i c) p r n = branch a_tuple (over o c) p r 0 (nodes_attributes i n (n + 1))
  nodes_plain (Tree.lot o i c) p r n = branch a_lot (over o c) p r 0 (nodes_listing i n (n + 1))
  nodes_plain (Tree.counted o h s k b i e c) p r n =
      branch (collection_kind h) (over o c) p r 0 (nodes_listing i n (n + 1))
  nodes_plain (Tree.interval o b c) p r n =
      branch an_interval (over o c) p r (bounds_detail b) (nodes_bounds b n (n + 1))

  -- the nodes of what stands between commas, under the parent p
  pub nodes_item : {s : Style} → Item s → ℕ → ℕ → List Node
  nodes_item (Tree.alone {s} v) p n = nodes v p (alone_role_of s) n
  nodes_item (Tree.open_named m k v) p n = both (λ i. nodes_plain_name m p name) (λ i. nodes v p value i) n
  nodes_item (Tree.named m k v) p n = both (λ i. nodes_name m p name) (λ i. nodes v p value i) n
  nodes_item (Tree.joined a j k b) p n = both (λ i. nodes a p (joiner_left j) i) (λ i. nodes b p (joiner_right j) i) n
  nodes_item (Tree.times v k c) p n = both (λ i. nodes v p value i) (λ i. nodes_count c p) n

  pub nodes_row : {f s : Style} → Row f s → ℕ → ℕ → List Node
  nodes_row (Tree.row_first i c) p n = nodes_item i p n
  nodes_row (Tree.row_led b i c) p n = nodes_item i p n
  nodes_row (Tree.row_next o i c) p n = both (λ m. nodes_row o p m) (λ m. nodes_item i p m) n

  pub nodes_listing : {s : Style} → Listing s → ℕ → ℕ → List Node
  nodes_listing Tree.no_item p n = []
  nodes_listing (Tree.one_comma c) p n = []
  nodes_listing (Tree.two_commas c d) p n = []
  nodes_listing (Tree.one_item i) p n = nodes_item i p n
  nodes_listing (Tree.led_item c i) p n = nodes_item i p n
  nodes_listing (Tree.trailing o) p n = nodes_row o p n
  nodes_listing (Tree.last_item o i) p n = both (λ m. nodes_row o p m) (λ m. nodes_item i p m) n

  pub nodes_attributes : Attributes → ℕ → ℕ → List Node
  nodes_attributes Tree.no_attribute p n = []
  nodes_attributes (Tree.led_attribute c i) p n = nodes_item i p n
  nodes_attributes (Tree.trailing_comma o) p n = nodes_row o p n
  nodes_attributes (Tree.last_attribute o i) p n = both (λ m. nodes_row o p m) (λ m. nodes_item i p m) n

  pub nodes_bounds : Bounds → ℕ → ℕ → List Node
  nodes_bounds Tree.empty p n = []
  nodes_bounds (Tree.single v) p n = nodes v p single n
  nodes_bounds (Tree.between v b k w) p n = both (λ i. nodes v p low i) (λ i. nodes w p high i) n
  nodes_bounds (Tree.from v a k) p n = nodes v p low n
  nodes_bounds (Tree.up_to a k v) p n = nodes v p high n
  nodes_bounds (Tree.all k) p n = []

-- the node table of a derivation: the root has index 0, parent 0 and role root
abbrev pub table : Value → List Node
table v = nodes v 0 root 0
