-- The nodes of a value whose indices are all one more, as words hold them, and of the same value under another parent. Assumes nothing.
use mathlib.Core.Path.{◌≡◌, refl, sym, ap, ap₂, ◌∙◌}
use mathlib.Core.List.{List, [], ◌∷◌, ◌++◌, map, map-append}
use Prim.Native.Nat.{ℕ, ◌+◌, ◌≤◌, ◌<◌}
use native.Mathlib.Omega.{arith}
use lib.ListN.{length, length-append, length-map}
use Rattle.grammar.specs.Tree.{Value}
use Rattle.grammar.specs.Nodes
use Rattle.grammar.specs.Nodes.{Node, Role, nodes}
use Rattle.grammar.proofs.Branches.{Branch, branch, Branches, none, more, flat, flats, grow}
use Rattle.grammar.proofs.Flat.{flat_value}
use Rattle.table.specs.Over.{largest_word, capped}

-- a node with another parent
abbrev pub placed : ℕ → Node → Node
placed p n = record { kind = n.kind; at = n.at; parent = p; role = n.role; detail = n.detail; stretch = n.stretch }

-- a node whose parent's index is one more
abbrev pub shifted : Node → Node
shifted n = placed (capped (n.parent + 1)) n

-- the first node with another parent
abbrev pub parented : ℕ → List Node → List Node
parented p [] = []
parented p (n ∷ ns) = placed p n ∷ ns

reparent_flat : (b : Branch) (p q i : ℕ) → parented q (flat b p i) ≡ flat b q i
reparent_flat (branch k s r d bs) p q i = refl

pub reparent : (v : Value) (p q : ℕ) (r : Role) (i : ℕ) → parented q (nodes v p r i) ≡ nodes v q r i
reparent v p q r i = ap (parented q) (sym (flat_value v p r i)) ∙ reparent_flat (grow v r) p q i ∙ flat_value v q r i

-- ---- all indices one more

-- of nodes given by their parent and the first's index, while the indices are below the largest word
abbrev Shifts : (ℕ → ℕ → List Node) → Type 0
Shifts f = (p i : ℕ) → p < largest_word → i + length (f p i) ≤ largest_word → map shifted (f p i) ≡ f (p + 1) (i + 1)

mutual
  shift_flat : (b : Branch) → Shifts (flat b)
  shift_flat (branch k s r d bs) p i h g =
      let l = flats bs i (i + 1) in
      let e : map shifted l ≡ flats bs (i + 1) (i + 1 + 1) = shift_flats bs i (i + 1) (omega arith) (omega arith) in
      ap (λ (n : ℕ). record { kind = k; at = s; parent = capped (p + 1); role = r; detail = d; stretch = 1 + n } ∷ map shifted l) (sym (length-map l shifted))
      ∙ ap₂ (λ (q : ℕ) (ns : List Node). Nodes.branch k s q r d ns) (omega arith) e

  shift_flats : (bs : Branches) → Shifts (flats bs)
  shift_flats none p i h g = refl
  shift_flats (more b bs) p i h g =
      let x = flat b p i in
      let m = length x in
      let s : length (x ++ flats bs p (i + m)) ≡ m + length (flats bs p (i + m)) = length-append x (flats bs p (i + m)) in
      let e : map shifted x ≡ flat b (p + 1) (i + 1) = shift_flat b p i h (omega arith) in
      let z : i + m + 1 ≡ i + 1 + length (flat b (p + 1) (i + 1)) = omega (arith, length-map x shifted, ap length e) in
      map-append shifted x (flats bs p (i + m))
      ∙ ap₂ (λ (ns ms : List Node). ns ++ ms) e (shift_flats bs p (i + m) h (omega arith) ∙ ap (flats bs (p + 1)) z)

pub shift : (v : Value) (r : Role) → Shifts (λ p i. nodes v p r i)
shift v r p i h g =
    let e : flat (grow v r) p i ≡ nodes v p r i = flat_value v p r i in
    ap (map shifted) (sym e) ∙ shift_flat (grow v r) p i h (omega (arith, g, ap length e)) ∙ flat_value v (p + 1) r (i + 1)
