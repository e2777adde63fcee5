-- The nodes of a value stand as siblings do: each with its descendants right behind it, and then the next. Assumes nothing.
use mathlib.Core.Path.{◌≡◌, refl, subst, ◌∙◌}
use mathlib.Core.List.{List, [], ◌∷◌, ◌++◌, append-nil}
use Prim.Native.Nat.{ℕ, ◌+◌}
use native.Mathlib.Omega.{arith}
use lib.ListN.{length}
use Rattle.grammar.specs.Tree.{Value}
use Rattle.grammar.specs.Nodes.{Node, Role, nodes}
use Rattle.grammar.proofs.Branches.{Branch, branch, Branches, none, more, flat, flats, grow}
use Rattle.grammar.proofs.Flat.{flat_value}

-- nodes under the parent p, the first of them at index n
pub data Siblings : ℕ → ℕ → List Node → Type 0 where
  nothing : {p n : ℕ} → Siblings p n []
  next : {p n : ℕ} (m : Node) {below rest : List Node} → m.parent ≡ p → m.stretch ≡ 1 + length below →
      Siblings n (n + 1) below → Siblings p (n + (1 + length below)) rest → Siblings p n (m ∷ (below ++ rest))

mutual
  siblings_branch : (b : Branch) (p n : ℕ) {rest : List Node} → Siblings p (n + length (flat b p n)) rest → Siblings p n (flat b p n ++ rest)
  siblings_branch (branch k s r d bs) p n {rest} x =
      next _ refl refl (siblings_branches bs n (n + 1)) (subst (λ (i : ℕ). Siblings p i rest) (omega arith) x)

  siblings_branches : (bs : Branches) (p n : ℕ) → Siblings p n (flats bs p n)
  siblings_branches none p n = nothing
  siblings_branches (more b bs) p n = siblings_branch b p n (siblings_branches bs p (n + length (flat b p n)))

-- a value's nodes are one branch
pub siblings : (v : Value) (p : ℕ) (r : Role) (n : ℕ) → Siblings p n (nodes v p r n)
siblings v p r n = subst (Siblings p n) (append-nil (flat (grow v r) p n) ∙ flat_value v p r n) (siblings_branch (grow v r) p n nothing)

-- the first node, and the others below it
pub data Headed (n : ℕ) : List Node → Type 0 where
  headed : (m : Node) {below : List Node} → m.stretch ≡ 1 + length below → Siblings n (n + 1) below → Headed n (m ∷ below)

pub one_branch : (v : Value) (p : ℕ) (r : Role) (n : ℕ) → Headed n (nodes v p r n)
one_branch v p r n = subst (Headed n) (flat_value v p r n) (of_branch (grow v r))
  where
    of_branch : (b : Branch) → Headed n (flat b p n)
    of_branch (branch k s q d bs) = headed _ refl (siblings_branches bs n (n + 1))
