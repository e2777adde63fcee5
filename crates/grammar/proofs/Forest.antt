-- The stretches of a table, from how its nodes stand: each with its descendants right behind it, and then its sibling. Assumes nothing.
use mathlib.Core.Path.{◌≡◌, refl, sym, ap, subst, ◌∙◌}
use mathlib.Core.Logic.{◌⊎◌, inl, inr}
use mathlib.Core.List.{List, ◌∷◌, ◌++◌}
use Prim.Native.Nat.{ℕ, zero, suc, ◌+◌, ◌≤◌, ◌<◌}
use native.Mathlib.Decide.{dec_lt}
use native.Mathlib.Omega.{arith}
use lib.ListN.{length, length-append, get_or-append}
use lib.Seq.{get_or-append-add}
use Rattle.grammar.specs.Tree.{Value}
use Rattle.grammar.specs.Nodes.{Node, root, parent_word, skip_word, word_at, table_words, table}
use Rattle.grammar.specs.Stretches.{Child, Descendant, child, further, past, Met, first, next, Stretches}
use Rattle.grammar.proofs.NodeLaws.{node_at, table_word}
use Rattle.grammar.proofs.Stretches as Nodes
use Rattle.grammar.proofs.Stretches.{Siblings, nothing, Headed, headed, one_branch}

module _ (t : List ℕ) where
  abbrev pub parent : ℕ → ℕ
  parent i = word_at t i parent_word

  abbrev pub end : ℕ → ℕ
  end i = past t i

  -- ---- the nodes from index a up to b are siblings under p, with their descendants

  pub data Forest : ℕ → ℕ → ℕ → Type 0 where
    done : {p a : ℕ} → Forest p a a
    tree : {p a b : ℕ} → parent a ≡ p → a < end a → Forest a (a + 1) (end a) → Forest p (end a) b → Forest p a b

  ordered : {p a b : ℕ} → Forest p a b → a ≤ b
  ordered done = omega arith
  ordered (tree e h f g) = omega (arith, h, ordered g)

  -- a node that is not before index a is the one there, or one of its descendants, or one behind
  data Where (a j : ℕ) : Type 0 where
    here : j ≡ a → Where a j
    below : a + 1 ≤ j → j < end a → Where a j
    behind : end a ≤ j → Where a j

  whereabouts : (a j : ℕ) → a ≤ j → Where a j
  whereabouts a j l = from (dec_lt a j) (dec_lt j (end a))
    where
      from : Dec (a < j) → Dec (j < end a) → Where a j
      from (no x) y = here (omega (arith, l, x))
      from (yes x) (yes y) = below (omega (arith, x)) y
      from (yes x) (no y) = behind (omega (arith, y))

  -- what is known of each node
  record Stands (p a b j : ℕ) : Type 0 where
    pub some : j < end j
    pub within : end j ≤ b
    pub forest : Forest j (j + 1) (end j)
    pub under : (parent j ≡ p) ⊎ ((a ≤ parent j) × (parent j < j) × (end j ≤ end (parent j)))

  stands : {p a b : ℕ} → Forest p a b → (j : ℕ) → a ≤ j → j < b → Stands p a b j
  stands done j l u = absurd (omega (arith, l, u))
  stands {p} {a} {b} (tree e h f g) j l u = by (whereabouts a j l) (λ x y. stands f j x y) (λ x. stands g j x u)
    where
      deeper : (parent j ≡ a) ⊎ ((a + 1 ≤ parent j) × (parent j < j) × (end j ≤ end (parent j))) → a + 1 ≤ j → end j ≤ end a →
          (parent j ≡ p) ⊎ ((a ≤ parent j) × (parent j < j) × (end j ≤ end (parent j)))
      deeper (inl x) y z = inr (omega (arith, x), omega (arith, x, y), subst (λ (q : ℕ). end j ≤ end q) (sym x) z)
      deeper (inr (x, y, z)) v w = inr (omega (arith, x), y, z)

      later : (parent j ≡ p) ⊎ ((end a ≤ parent j) × (parent j < j) × (end j ≤ end (parent j))) →
          (parent j ≡ p) ⊎ ((a ≤ parent j) × (parent j < j) × (end j ≤ end (parent j)))
      later (inl x) = inl x
      later (inr (x, y, z)) = inr (omega (arith, h, x), y, z)

      by : Where a j → (a + 1 ≤ j → j < end a → Stands a (a + 1) (end a) j) → (end a ≤ j → Stands p (end a) b j) → Stands p a b j
      by (here x) r s = subst (Stands p a b) (sym x) (record { some = h; within = ordered g; forest = f; under = inl e })
      by (below x y) r s =
          let z = r x y in
          record { some = z.some; within = omega (arith, z.within, ordered g); forest = z.forest; under = deeper z.under x z.within }
      by (behind x) r s = let z = s x in record { some = z.some; within = z.within; forest = z.forest; under = later z.under }

  -- a forest's first node is a child
  first_child : {p a b : ℕ} → Forest p a b → a < b → parent a ≡ p
  first_child done h = absurd (omega (arith, h))
  first_child (tree e h f g) l = e

  -- what is below a node is no child of another before it
  no_child : {p a : ℕ} → Forest a (a + 1) (end a) → p < a → {j : ℕ} → a + 1 ≤ j → j < end a → parent j ≡ p → ⊥
  no_child {p} {a} f o {j} x y is = by (stands f j x y).under
    where
      by : (parent j ≡ a) ⊎ ((a + 1 ≤ parent j) × (parent j < j) × (end j ≤ end (parent j))) → ⊥
      by (inl v) = omega (arith, v, is, o)
      by (inr (v, w, z)) = omega (arith, v, is, o)

  -- behind a child's stretch the next child's begins
  after : {p a b : ℕ} → Forest p a b → p < a → (j : ℕ) → a ≤ j → j < b → parent j ≡ p → end j < b → parent (end j) ≡ p
  after done o j l u e v = absurd (omega (arith, l, u))
  after {p} {a} {b} (tree e h f g) o j l u is v = by (whereabouts a j l) (λ x. after g (omega (arith, h, o)) j x u is v)
    where
      by : Where a j → (end a ≤ j → parent (end j) ≡ p) → parent (end j) ≡ p
      by (here x) r = ap (λ (i : ℕ). parent (end i)) x ∙ first_child g (subst (λ (i : ℕ). end i < b) x v)
      by (below x y) r = absurd (no_child f o x y is)
      by (behind x) r = r x

  -- a walk that meets the forest's first node meets all its children
  met : {p a b : ℕ} → Forest p a b → p < a → b ≡ end p → (a < b → Met t p a) → (j : ℕ) → a ≤ j → j < b → parent j ≡ p → Met t p j
  met done o e m j l u is = absurd (omega (arith, l, u))
  met {p} {a} {b} (tree e h f g) o z m j l u is =
      by (whereabouts a j l) (λ x. met g (omega (arith, h, o)) z (λ v. next (m (omega (arith, h, v))) (omega (arith, z, v))) j x u is)
    where
      by : Where a j → (end a ≤ j → Met t p j) → Met t p j
      by (here x) r = subst (Met t p) (sym x) (m (omega (arith, x, u)))
      by (below x y) r = absurd (no_child f o x y is)
      by (behind x) r = r x

  -- ---- descendants

  join : {i j k : ℕ} → Descendant t i j → Descendant t j k → Descendant t i k
  join d (child c) = further d c
  join d (further e c) = further (join d e) c

  down : {p a b : ℕ} → Forest p a b → 0 < a → (j : ℕ) → a ≤ j → j < b → Descendant t p j
  down done o j l u = absurd (omega (arith, l, u))
  down {p} {a} {b} (tree e h f g) o j l u =
      by (whereabouts a j l) (λ x y. down f (omega arith) j x y) (λ x. down g (omega (arith, h)) j x u)
    where
      by : Where a j → (a + 1 ≤ j → j < end a → Descendant t a j) → (end a ≤ j → Descendant t p j) → Descendant t p j
      by (here x) r s = subst (Descendant t p) (sym x) (child (o, e))
      by (below x y) r s = join (child (o, e)) (r x y)
      by (behind x) r s = s x

  -- ---- the root and the forest behind it are a table

  module _ (count : ℕ) (whole : end 0 ≡ count) (some : 0 < count) (rest : Forest 0 1 count) where
    stands_so : (j : ℕ) → 0 < j → j < count → Stands 0 1 count j
    stands_so j l u = stands rest j (omega (arith, l)) u

    part : (i : ℕ) → i < count → (i < end i) × (end i ≤ count)
    part zero h = (omega (arith, whole, some), omega (arith, whole))
    part (suc i) h = let s = stands_so (suc i) (omega arith) h in (s.some, s.within)

    forest_of : (i : ℕ) → i < count → Forest i (i + 1) (end i)
    forest_of zero h = subst (Forest 0 1) (sym whole) rest
    forest_of (suc i) h = (stands_so (suc i) (omega arith) h).forest

    inside : (i j : ℕ) → j < count → Child t i j → (i < j) × (end j ≤ end i)
    inside i j h (o, e) = let s = stands_so j o h in by s.under s.within
      where
        by : (parent j ≡ 0) ⊎ ((1 ≤ parent j) × (parent j < j) × (end j ≤ end (parent j))) → end j ≤ count → (i < j) × (end j ≤ end i)
        by (inl x) w =
            let z : i ≡ 0 = sym e ∙ x in
            let root : end i ≡ count = ap end z ∙ whole in
            (omega (arith, z, o), omega (arith, root, w))
        by (inr (x, y, z)) w = (omega (arith, y, e), subst (λ (q : ℕ). end j ≤ end q) e z)

    between : {i j : ℕ} → j < count → Descendant t i j → (i < j) × (end j ≤ end i)
    between {i} {j} h (child c) = inside i j h c
    between {i} {j = k} h (further {j = j} d c) =
        let x = inside j k h c in
        let y = between (omega (arith, x.0, h)) d in
        (omega (arith, x.0, y.0), omega (arith, x.1, y.1))

    pub stretches : Stretches t count
    stretches =
        record {
          whole = whole;
          part = part;
          descendants = λ i j h. (
            λ x. let y = between x.0 x.1 in (y.0, omega (arith, y.1, (part j x.0).0)),
            λ x. (omega (arith, x.1, (part i h).1), down (forest_of i h) (omega arith) j (omega (arith, x.0)) x.1),
          );
          inside = inside;
          first_child = λ i h l. (omega arith, first_child (forest_of i h) l);
          next_sibling = sibling;
          apart = λ i j k h c d l. apart i j k h c d l (dec_lt k (end j));
          walk = λ i j h. (
            only i j h,
            λ x.
                let y = inside i j x.0 x.1 in
                met (forest_of i h) (omega arith) refl first j (omega (arith, y.0)) (omega (arith, y.1, (part j x.0).0)) x.1.1,
          );
        }
      where
        sibling : (i j : ℕ) → j < count → Child t i j → end j < end i → Child t i (end j)
        sibling i j h c l =
            let x = inside i j h c in
            let y = part j h in
            let i_in : i < count = omega (arith, x.0, h) in
            (omega (arith, y.0), after (forest_of i i_in) (omega arith) j (omega (arith, x.0)) (omega (arith, x.1, y.0)) c.1 l)

        -- what the walk meets
        only : (i j : ℕ) → i < count → Met t i j → (j < count) × Child t i j
        only i j h (first l) = (omega (arith, l, (part i h).1), (omega arith, first_child (forest_of i h) l))
        only i k h (next {j = j} m l) = let x = only i j h m in (omega (arith, l, (part i h).1), sibling i j x.0 x.1 l)

        apart : (i j k : ℕ) → k < count → Child t i j → Child t i k → j < k → Dec (k < end j) → end j ≤ k
        apart i j k h c d l (no x) = omega (arith, x)
        apart i j k h c d l (yes x) =
            let j_in : j < count = omega (arith, l, h) in
            absurd (no_child (forest_of j j_in) (inside i j j_in c).0 (omega (arith, l)) x d.1)

-- ---- a derivation's table

-- what the words say of the nodes from index n on
abbrev Said : List ℕ → ℕ → List Node → Type 0
Said t n ns =
    (k i : ℕ) → i ≡ n + k → k < length ns →
    (word_at t i parent_word ≡ (node_at ns k).parent) × (word_at t i skip_word ≡ i + (node_at ns k).stretch)

forest : (t : List ℕ) {p n : ℕ} {ns : List Node} → Siblings p n ns → Said t n ns → Forest t p n (n + length ns)
forest t {p} {n} nothing s = subst (Forest t p n) (omega arith) done
forest t {p} {n} (Nodes.next m {below = xs} {rest = ys} e l x y) s =
    let it = s 0 n (omega arith) (omega arith) in
    let ends : word_at t n skip_word ≡ n + (1 + length xs) = it.1 ∙ ap (λ (k : ℕ). n + k) l in
    let all : n + (1 + length xs) + length ys ≡ n + length (m ∷ (xs ++ ys)) = omega (arith, length-append xs ys) in
    tree (it.0 ∙ e) (omega (arith, ends))
    (subst (Forest t n (n + 1)) (omega (arith, ends)) (forest t x under))
    (subst (λ (a : ℕ). Forest t p a (n + length (m ∷ (xs ++ ys)))) (sym ends)
    (subst (Forest t p (n + (1 + length xs))) all (forest t y later)))
  where
    under : Said t (n + 1) xs
    under k i q h =
        let z = s (suc k) i (omega (arith, q)) (omega (arith, h, length-append xs ys)) in
        let g = get_or-append xs ys _ k h in
        (z.0 ∙ ap (λ (o : Node). o.parent) g, z.1 ∙ ap (λ (o : Node). i + o.stretch) g)

    later : Said t (n + (1 + length xs)) ys
    later k i q h =
        let z = s (suc (length xs + k)) i (omega (arith, q)) (omega (arith, h, length-append xs ys)) in
        let g = get_or-append-add xs ys k _ in
        (z.0 ∙ ap (λ (o : Node). o.parent) g, z.1 ∙ ap (λ (o : Node). i + o.stretch) g)

said : (ns : List Node) (rest : List ℕ) → Said (table_words ns ++ rest) 0 ns
said ns rest k i q h =
    let j : i < length ns = omega (arith, q, h) in
    let same : node_at ns i ≡ node_at ns k = ap (node_at ns) (omega (arith, q)) in (
      table_word ns rest i parent_word j (omega arith) ∙ ap (λ (o : Node). o.parent) same,
      table_word ns rest i skip_word j (omega arith) ∙ ap (λ (o : Node). i + o.stretch) same,
    )

-- the table of a derivation, whatever stands behind it
pub table_stretches : (v : Value) (rest : List ℕ) → Stretches (table_words (table v) ++ rest) (length (table v))
table_stretches v rest = of (one_branch v 0 root 0) (said (table v) rest)
  where
    of : {t : List ℕ} {ns : List Node} → Headed 0 ns → Said t 0 ns → Stretches t (length ns)
    of {t} (headed m {below = xs} l x) s =
        let all : word_at t 0 skip_word ≡ length (m ∷ xs) = (s 0 0 (omega arith) (omega arith)).1 ∙ omega (arith, l) in
        let others : Said t 1 xs = λ k i q h. s (suc k) i (omega (arith, q)) (omega (arith, h)) in
        stretches t (length (m ∷ xs)) all (omega arith) (subst (Forest t 0 1) (omega arith) (forest t x others))
