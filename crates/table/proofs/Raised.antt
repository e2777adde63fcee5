-- Nodes moved up by one, and the slot that this leaves. Assumes nothing.
use mathlib.Core.Path.{◌≡◌, refl, ap, ap₂, subst, ◌∙◌}
use mathlib.Core.List.{List, [], ◌∷◌, ◌++◌, map}
use Prim.Native.Nat.{ℕ, ◌+◌, ◌*◌, ◌≤◌, ◌<◌}
use native.Mathlib.Decide.{dec_le}
use native.Mathlib.Omega.{arith}
use lib.ListN.{length, length-map, length-append, get_or}
use Rattle.rules.specs.Over.{over}
use Rattle.rules.proofs.Over.{over_length, over_append, over_again, over_at}
use Rattle.grammar.specs.Tree.{Value}
use Rattle.grammar.specs.Nodes as Nodes
use Rattle.grammar.specs.Nodes.{Node, words, node_words, parent_word, role_word, skip_word, word_at, words_from, nodes}
use Rattle.grammar.proofs.NodeLaws.{words_length, some_node}
use Rattle.grammar.proofs.Stretches.{Siblings, next, siblings}
use Rattle.table.specs.Over.{largest_word, capped, under, lifted, raised, Raised, Reserved, Written}
use Rattle.table.proofs.Shifted.{placed, shifted, parented, reparent, shift}

-- ---- lengths

pub reserved_length : {t t' : List ℕ} {i : ℕ} → Reserved t t' i → length t' ≡ length t
reserved_length {t} {t'} {i} r = ap length r.is ∙ over_length t (i * node_words) r.slot

pub raised_length : {t t' : List ℕ} {i n : ℕ} → Raised t t' i n → length t' ≡ length t
raised_length {t} {t'} {i} {n} r = go (dec_le ((i + n + 1) * node_words) (length t))
  where
    go : Dec ((i + n + 1) * node_words ≤ length t) → length t' ≡ length t
    go (yes h) = ap length (r.fits h) ∙ over_length t _ _
    go (no h) = ap length (r.else (omega arith))

-- ---- the slot

-- nodes that take in the reserved slot
pub reserved_written : {lent spare left : List ℕ} {index : ℕ} {ns : List Node} →
    Reserved lent spare index → 1 ≤ length ns → Written spare left index ns → Written lent left index ns
reserved_written {lent} {spare} {left} {index} {ns} r h w =
    record {
      words_are = λ f.
          w.words_are (omega (arith, reserved_length r))
          ∙ ap (λ (x : List ℕ). over x (index * node_words) (words_from index ns)) r.is
          ∙ over_again lent (index * node_words) r.slot (words_from index ns) (omega (arith, r.few, words_length index ns));
    }

-- ---- the words of nodes that stand in the table

module _ (t : List ℕ) (i : ℕ) (n : Node) (ws : List ℕ) (h : (i + 1) * node_words ≤ length t) where
  first_word : (m : ℕ) → m < node_words → word_at (over t (i * node_words) (words i n ++ ws)) i m ≡ get_or (words i n ++ ws) m 0
  first_word m g = over_at t (i * node_words) (i * node_words + m) m (words i n ++ ws) refl (omega arith) (omega arith)

  first_under : (p : ℕ) → i + n.stretch < largest_word → under (over t (i * node_words) (words i n ++ ws)) i p ≡ words (i + 1) (placed p n)
  first_under p b =
      let e : capped (word_at (over t (i * node_words) (words i n ++ ws)) i skip_word + 1) ≡ i + 1 + n.stretch =
      ap (λ (x : ℕ). capped (x + 1)) (first_word skip_word (omega arith)) ∙ omega arith in
      λ j. first_word 0 (omega arith) j ∷ first_word 1 (omega arith) j ∷ first_word 2 (omega arith) j ∷ p
      ∷ first_word role_word (omega arith) j ∷ first_word 5 (omega arith) j ∷ e j ∷ []

-- behind the first they are written over it
rest_over : (t : List ℕ) (i : ℕ) (n : Node) (ns : List Node) →
    over t (i * node_words) (words_from i (n ∷ ns)) ≡ over (over t (i * node_words) (words i n)) ((i + 1) * node_words) (words_from (i + 1) ns)
rest_over t i n ns = over_append t (i * node_words) ((i + 1) * node_words) (words i n) (words_from (i + 1) ns) (omega arith)

-- no stretch reaches past the last node: the index past it is then no larger than theirs
data Inside : List Node → Type 0 where
  nothing : Inside []
  more : {n : Node} {ns : List Node} → n.stretch ≤ 1 + length ns → Inside ns → Inside (n ∷ ns)

inside_both : {xs ys : List Node} → Inside xs → Inside ys → Inside (xs ++ ys)
inside_both nothing b = b
inside_both {ys = ys} (more {n = n} {ns = ns} h a) b = more {n = n} {ns = ns ++ ys} (omega (arith, h, length-append ns ys)) (inside_both a b)

inside : {p i : ℕ} {ns : List Node} → Siblings p i ns → Inside ns
inside Siblings.nothing = nothing
inside (next n {below = xs} {rest = ys} e s d a) =
    more {n = n} {ns = xs ++ ys} (omega (arith, s, length-append xs ys)) (inside_both (inside d) (inside a))

lifted_words : (t : List ℕ) (i : ℕ) (ns : List Node) → (i + length ns) * node_words ≤ length t → Inside ns → i + length ns < largest_word →
    lifted (over t (i * node_words) (words_from i ns)) i (length ns) ≡ words_from (i + 1) (map shifted ns)
lifted_words t i [] h q b = refl
lifted_words t i (n ∷ ns) h (more g q) b =
    let ws = words_from (i + 1) ns in
    let T = over t (i * node_words) (words i n ++ ws) in
    let p : capped (word_at T i parent_word + 1) ≡ capped (n.parent + 1) =
    ap (λ (q : ℕ). capped (q + 1)) (first_word t i n ws (omega arith) parent_word (omega arith)) in
    ap₂ (λ (x y : List ℕ). x ++ y)
    (ap (under T i) p ∙ first_under t i n ws (omega arith) (capped (n.parent + 1)) (omega (arith, g, b)))
    (ap (λ (x : List ℕ). lifted x (i + 1) (length ns)) (rest_over t i n ns)
    ∙ lifted_words (over t (i * node_words) (words i n)) (i + 1) ns (omega (arith, over_length t (i * node_words) (words i n))) q (omega (arith, b)))

raised_words : (t : List ℕ) (i : ℕ) (ns : List Node) → (i + length ns) * node_words ≤ length t → Inside ns → i + length ns < largest_word →
    raised (over t (i * node_words) (words_from i ns)) i (length ns) ≡ words_from (i + 1) (parented i (map shifted ns))
raised_words t i [] h q b = refl
raised_words t i (n ∷ ns) h (more g q) b =
    let ws = words_from (i + 1) ns in
    let T = over t (i * node_words) (words i n ++ ws) in
    ap₂ (λ (x y : List ℕ). x ++ y)
    (ap (under T i) (omega (arith, b)) ∙ first_under t i n ws (omega arith) i (omega (arith, g, b)))
    (ap (λ (x : List ℕ). lifted x (i + 1) (length ns)) (rest_over t i n ns)
    ∙ lifted_words (over t (i * node_words) (words i n)) (i + 1) ns (omega (arith, over_length t (i * node_words) (words i n))) q (omega (arith, b)))

raised_nodes : {lent mid left : List ℕ} {index : ℕ} (ns : List Node) → 1 ≤ length ns →
    Written lent mid index ns → length mid ≡ length lent → Raised mid left index (length ns) → Inside ns → index + length ns < largest_word →
    (spare : List ℕ) × Reserved lent spare index × Written spare left (index + 1) (parented index (map shifted ns))
raised_nodes [] s w l r q b = absurd (omega arith)
raised_nodes {lent} {mid} {left} {index} (n ∷ ns) s w l r q b =
    let k = (index + 1) * node_words in
    let spare = over lent (index * node_words) (words index n) in
    let ms = parented index (map shifted (n ∷ ns)) in (
      spare,
      record { slot = words index n; few = omega arith; is = refl },
      record {
        words_are = λ h.
            let f : (index + length (n ∷ ns) + 1) * node_words ≤ length lent =
            omega (arith, h, over_length lent (index * node_words) (words index n), length-map ns shifted) in
            r.fits (omega arith)
            ∙ ap (λ (x : List ℕ). over x k (raised x index (length (n ∷ ns)))) (w.words_are (omega arith))
            ∙ ap₂ (λ (x y : List ℕ). over x k y) (rest_over lent index n ns) (raised_words lent index (n ∷ ns) (omega arith) q b)
            ∙ over_again spare k (words_from (index + 1) ns) (words_from (index + 1) ms)
            (omega (arith, words_length (index + 1) ns, words_length (index + 1) ms, length-map ns shifted));
      },
    )

-- the value's nodes, raised: they are those of the value as a child of the node at index
pub raised_value : {lent mid left : List ℕ} {index parent : ℕ} (v : Value) →
    Written lent mid index (nodes v parent Nodes.root index) → length mid ≡ length lent →
    Raised mid left index (length (nodes v parent Nodes.root index)) →
    parent ≤ index → index + length (nodes v parent Nodes.root index) < largest_word →
    (spare : List ℕ) × Reserved lent spare index × Written spare left (index + 1) (nodes v index Nodes.root (index + 1))
raised_value {lent} {mid} {left} {index} {parent} v w l r p b =
    let ns = nodes v parent Nodes.root index in
    let s : 1 ≤ length ns = some_node v parent Nodes.root index in
    let e : parented index (map shifted ns) ≡ nodes v index Nodes.root (index + 1) =
    ap (parented index) (shift v Nodes.root parent index (omega (arith, b)) (omega (arith, b))) ∙ reparent v (parent + 1) index Nodes.root (index + 1) in
    subst (λ (ms : List Node). (spare : List ℕ) × Reserved lent spare index × Written spare left (index + 1) ms) e
    (raised_nodes ns s w l r (inside (siblings v parent Nodes.root index)) b)
