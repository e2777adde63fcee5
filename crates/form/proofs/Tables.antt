-- Trees that grow the same branches have the same node table, but for places and a Text's detail. Assumes nothing.
use mathlib.Core.Path.{◌≡◌, refl, sym, ap, ◌∙◌}
use mathlib.Core.List.{List, ◌++◌, map, map-append}
use Prim.Native.Nat.{ℕ, ◌+◌}
use lib.ListN.{length}
use Rattle.grammar.specs.Tree
use Rattle.grammar.specs.Tree.{Value}
use Rattle.grammar.specs.Nodes
use Rattle.grammar.specs.Nodes.{Node, NodeKind, Role, nodes}
use Rattle.form.specs.Turn.{other_detail, unspelled, turn}
use Rattle.grammar.proofs.Branches.{Branch, Branches, branch, none, more, flat, flats, grow}
use Rattle.grammar.proofs.NodeLaws.{as_many}
use Rattle.grammar.proofs.Flat.{flat_value}
use Rattle.form.proofs.Normal.{norm}
use Rattle.form.proofs.Grown.{bleach, bleaches, value_grown}

twice : (k : NodeKind) (d : ℕ) → other_detail k (other_detail k d) ≡ other_detail k d
twice Nodes.an_ignorance d = refl
twice Nodes.a_boolean d = refl
twice Nodes.an_integer d = refl
twice Nodes.a_fraction d = refl
twice Nodes.a_bits d = refl
twice Nodes.a_blob d = refl
twice Nodes.a_text d = refl
twice Nodes.a_nesting d = refl
twice Nodes.a_pair d = refl
twice Nodes.a_tuple d = refl
twice Nodes.a_lot d = refl
twice Nodes.an_array d = refl
twice Nodes.a_set d = refl
twice Nodes.a_bag d = refl
twice Nodes.an_interval d = refl

mutual
  pub flat_same : (b : Branch) (p n : ℕ) → map unspelled (flat b p n) ≡ map unspelled (flat (bleach b) p n)
  flat_same (branch k s r d bs) p n =
      let e = flats_same bs n (n + 1) in
      cc (sym (twice k d), as_many unspelled (flats bs n (n + 1)) (flats (bleaches bs) n (n + 1)) e, e)

  flats_same : (bs : Branches) (p n : ℕ) → map unspelled (flats bs p n) ≡ map unspelled (flats (bleaches bs) p n)
  flats_same none p n = refl
  flats_same (more b bs) p n =
      let e = flat_same b p n in
      map-append unspelled (flat b p n) (flats bs p (n + length (flat b p n))) ∙ ap (λ (l : List Node). l ++ map unspelled (flats bs p (n + length (flat b p n)))) e
      ∙ ap (λ (l : List Node). map unspelled (flat (bleach b) p n) ++ l)
      (flats_same bs p (n + length (flat b p n))
      ∙ ap (λ (x : ℕ). map unspelled (flats (bleaches bs) p (n + x))) (as_many unspelled (flat b p n) (flat (bleach b) p n) e))
      ∙ sym (map-append unspelled (flat (bleach b) p n) (flats (bleaches bs) p (n + length (flat (bleach b) p n))))

-- the normal tree has the nodes of the turned one
pub nodes_same : (v : Value) (p : ℕ) (r : Role) (n : ℕ) → map unspelled (nodes (Tree.plain (norm v)) p r n) ≡ map unspelled (nodes (turn v) p r n)
nodes_same v p r n =
    ap (λ (l : List Node). map unspelled l) (sym (flat_value (Tree.plain (norm v)) p r n)) ∙ flat_same (grow (Tree.plain (norm v)) r) p n
    ∙ ap (λ (b : Branch). map unspelled (flat b p n)) (value_grown v r) ∙ sym (flat_same (grow (turn v) r) p n)
    ∙ ap (λ (l : List Node). map unspelled l) (flat_value (turn v) p r n)
