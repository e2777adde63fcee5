-- Laws of the nodes of a derivation: how many words they have, the words of two rows, and those of one node; a kind has a number of its own; the role is the first node's alone, and neither it nor the
-- indices tell how many nodes there are. Assumes nothing.
use mathlib.Core.Path.{◌≡◌, refl, sym, ap, ap₂, ◌∙◌}
use mathlib.Core.Bool.{cond}
use mathlib.Core.List.{List, [], ◌∷◌, ◌++◌, map, append_assoc}
use Prim.Native.Nat.{ℕ, zero, suc, ◌+◌, ◌*◌, ◌≤◌, ◌<◌}
use native.Mathlib.Nat.{not-suc-le-zero}
use native.Mathlib.Omega.{arith}
use lib.Dec.{eqb}
use lib.ListN.{length, get_or, length-append, length-map, get_or-append, get_or-map}
use lib.Seq.{get_or-append-add}
use Rattle.grammar.specs.Tree
use Rattle.grammar.specs.Tree.{Value, Plain}
use Rattle.grammar.specs.Nodes.{NodeKind, an_ignorance, a_boolean, an_integer, a_fraction, a_bits, a_blob, a_text, a_nesting, a_pair, a_tuple, a_lot, an_array, a_set, a_bag, an_interval, kind_number_of}
use Rattle.grammar.specs.Nodes.{Node, root, words, node_words, word_at, words_from, table_words, Role, nodes, nodes_plain}
use Rattle.grammar.proofs.Branches.{Branch, branch, Branches, none, more, flat, flats, grow}
use Rattle.grammar.proofs.Flat.{flat_value}

pub words_length : (i : ℕ) (ns : List Node) → length (words_from i ns) ≡ length ns * node_words
words_length i [] = refl
words_length i (n ∷ ns) = omega (arith, length-append (words i n) (words_from (i + 1) ns), words_length (i + 1) ns)

pub table_words_length : (ns : List Node) → length (table_words ns) ≡ length ns * node_words
table_words_length ns = words_length 0 ns

pub words_append : (i : ℕ) (ns ms : List Node) → words_from i (ns ++ ms) ≡ words_from i ns ++ words_from (i + length ns) ms
words_append i [] ms = ap (λ (j : ℕ). words_from j ms) (omega arith)
words_append i (n ∷ ns) ms =
    ap (λ (l : List ℕ). words i n ++ l) (words_append (i + 1) ns ms ∙ ap (λ (j : ℕ). words_from (i + 1) ns ++ words_from j ms) (omega arith))
    ∙ sym (append_assoc (words i n) (words_from (i + 1) ns) (words_from (i + length (n ∷ ns)) ms))

-- the node at index i; where there is none, some node
abbrev pub no_node : Node
no_node = record { kind = an_ignorance; at = record { first = 0; end = 0 }; parent = 0; role = root; detail = 0; stretch = 1 }

abbrev pub node_at : List Node → ℕ → Node
node_at ns i = get_or ns i no_node

-- nodes that are the same but for what a map drops are as many, and the same at each index
module _ (f : Node → Node) (ns ms : List Node) (e : map f ns ≡ map f ms) where
  pub as_many : length ns ≡ length ms
  as_many = sym (length-map ns f) ∙ ap length e ∙ length-map ms f

  pub same_at : (i : ℕ) → f (node_at ns i) ≡ f (node_at ms i)
  same_at i = sym (get_or-map f ns i no_node) ∙ ap (λ (l : List Node). get_or l i (f no_node)) e ∙ get_or-map f ms i no_node

-- its word k, the first node being at index j
pub word_of : (j : ℕ) (ns : List Node) (rest : List ℕ) (i k : ℕ) → i < length ns → k < node_words →
    word_at (words_from j ns ++ rest) i k ≡ get_or (words (j + i) (node_at ns i)) k 0
word_of j [] rest i k h g = absurd (not-suc-le-zero h)
word_of j (n ∷ ns) rest zero k h g =
    let more = words_from (j + 1) ns ++ rest in
    let here : zero * node_words + k ≡ k = omega arith in
    ap₂ (λ (l : List ℕ) (m : ℕ). get_or l m 0) (append_assoc (words j n) (words_from (j + 1) ns) rest) here
    ∙ get_or-append (words j n) more 0 k (omega (arith, g))
    ∙ ap (λ (m : ℕ). get_or (words m n) k 0) (omega arith)
word_of j (n ∷ ns) rest (suc i) k h g =
    let more = words_from (j + 1) ns ++ rest in
    let behind : suc i * node_words + k ≡ length (words j n) + (i * node_words + k) = omega arith in
    ap₂ (λ (l : List ℕ) (m : ℕ). get_or l m 0) (append_assoc (words j n) (words_from (j + 1) ns) rest) behind
    ∙ get_or-append-add (words j n) more (i * node_words + k) 0
    ∙ word_of (j + 1) ns rest i k (omega (arith, h)) g
    ∙ ap (λ (m : ℕ). get_or (words m (node_at ns i)) k 0) (omega arith)

-- the same of a whole table
pub table_word : (ns : List Node) (rest : List ℕ) (i k : ℕ) → i < length ns → k < node_words →
    word_at (table_words ns ++ rest) i k ≡ get_or (words i (node_at ns i)) k 0
table_word ns rest i k h g = word_of 0 ns rest i k h g ∙ ap (λ (j : ℕ). get_or (words j (node_at ns i)) k 0) (omega arith)

-- a kind by its number
abbrev of_number : ℕ → NodeKind
of_number n =
    cond (eqb n 1) an_ignorance
    (cond (eqb n 2) a_boolean
    (cond (eqb n 3) an_integer
    (cond (eqb n 4) a_fraction
    (cond (eqb n 5) a_bits
    (cond (eqb n 6) a_blob
    (cond (eqb n 7) a_text
    (cond (eqb n 8) a_nesting
    (cond (eqb n 9) a_pair
    (cond (eqb n 10) a_tuple
    (cond (eqb n 11) a_lot (cond (eqb n 12) an_array (cond (eqb n 13) a_set (cond (eqb n 14) a_bag an_interval)))))))))))))

of_number_lem : (k : NodeKind) → of_number (kind_number_of k) ≡ k
of_number_lem an_ignorance = refl
of_number_lem a_boolean = refl
of_number_lem an_integer = refl
of_number_lem a_fraction = refl
of_number_lem a_bits = refl
of_number_lem a_blob = refl
of_number_lem a_text = refl
of_number_lem a_nesting = refl
of_number_lem a_pair = refl
of_number_lem a_tuple = refl
of_number_lem a_lot = refl
of_number_lem an_array = refl
of_number_lem a_set = refl
of_number_lem a_bag = refl
of_number_lem an_interval = refl

pub one_kind : (j k : NodeKind) → kind_number_of j ≡ kind_number_of k → j ≡ k
one_kind j k e = sym (of_number_lem j) ∙ ap of_number e ∙ of_number_lem k

-- the first node with another role
abbrev pub roled : Role → List Node → List Node
roled r [] = []
roled r (n ∷ ns) = record { kind = n.kind; at = n.at; parent = n.parent; role = r; detail = n.detail; stretch = n.stretch } ∷ ns

mutual
  pub relabel : (v : Value) (p : ℕ) (s r : Role) (i : ℕ) → roled r (nodes v p s i) ≡ nodes v p r i
  relabel (Tree.plain v) p s r i = relabel_plain v p s r i
  relabel (Tree.bare h t) p s r i = refl

  pub relabel_plain : (v : Plain) (p : ℕ) (s r : Role) (i : ℕ) → roled r (nodes_plain v p s i) ≡ nodes_plain v p r i
  relabel_plain (Tree.literal a t) p s r i = refl
  relabel_plain (Tree.text w t) p s r i = refl
  relabel_plain (Tree.nesting m) p s r i = refl
  relabel_plain (Tree.group o v c) p s r i = relabel v p s r i
  relabel_plain (Tree.pair o a k b c) p s r i = refl
  relabel_plain (Tree.arrowed o a j k b c) p s r i = refl
  relabel_plain (Tree.tuple o l c) p s r i = refl
  relabel_plain (Tree.lot o l c) p s r i = refl
  relabel_plain (Tree.counted o h t k b l e c) p s r i = refl
  relabel_plain (Tree.interval o b c) p s r i = refl

-- ---- how many nodes

mutual
  size_flat : (b : Branch) (p q i j : ℕ) → length (flat b p i) ≡ length (flat b q j)
  size_flat (branch k s r d bs) p q i j = ap suc (size_flats bs i j (i + 1) (j + 1))

  size_flats : (bs : Branches) (p q i j : ℕ) → length (flats bs p i) ≡ length (flats bs q j)
  size_flats none p q i j = refl
  size_flats (more b bs) p q i j =
      length-append (flat b p i) _ ∙ ap₂ ◌+◌ (size_flat b p q i j) (size_flats bs p q _ _) ∙ sym (length-append (flat b q j) _)

size_roled : (r : Role) (ns : List Node) → length (roled r ns) ≡ length ns
size_roled r [] = refl
size_roled r (n ∷ ns) = refl

pub same_size : (v : Value) (p q : ℕ) (r s : Role) (i j : ℕ) → length (nodes v p r i) ≡ length (nodes v q s j)
same_size v p q r s i j =
    sym (size_roled s (nodes v p r i)) ∙ ap length (relabel v p r s i ∙ sym (flat_value v p s i)) ∙ size_flat (grow v s) p q i j ∙ ap length (flat_value v q s j)

pub some_node : (v : Value) (p : ℕ) (r : Role) (i : ℕ) → 1 ≤ length (nodes v p r i)
some_node v p r i = omega (arith, some_flat (grow v r), ap length (flat_value v p r i))
  where
    some_flat : (b : Branch) → 1 ≤ length (flat b p i)
    some_flat (branch k s q d bs) = omega arith
