-- Nodes in a table of words, and their plain form by index. No rule. Assumes nothing.
use Rattle.std.specs.Prelude.{◌≡◌, List, ◌++◌, ℕ, ◌+◌, ◌*◌, ◌≤◌, ◌<◌, length}
use Rattle.rules.specs.Class.{codes}
use Rattle.grammar.specs.Nodes
use Rattle.grammar.specs.Nodes.{Node, node_words, word_at, words_from, role_number}
use Rattle.grammar.proofs.Branches.{Branch, Branches, flat, flats}
use Rattle.form.proofs.Walk.{Walked}
use Rattle.leaf.specs.declared.Node.{Node as Told}

-- ---- words

-- a node is at the index
abbrev pub Inside : List ℕ → ℕ → Type 0
Inside words index = (index + 1) * node_words ≤ length words

pub record Tells (words : List ℕ) (index : ℕ) (r : Told) : Type 0 where
  pub kind_is : r.kind ≡ word_at words index 0
  pub first_is : r.first ≡ word_at words index 1
  pub end_is : r.end ≡ word_at words index 2
  pub detail_is : r.detail ≡ word_at words index 5

-- ---- branches in the table

-- nodes stand in the table from the index on
pub record Has (words : List ℕ) (index : ℕ) (ns : List Node) : Type 0 where
  pub before : List ℕ
  pub behind : List ℕ
  pub words_are : words ≡ before ++ (words_from index ns ++ behind)
  pub index_is : length before ≡ index * node_words

-- one branch, and branches one behind the other
abbrev pub Stands : (words : List ℕ) (b : Branch) (parent index : ℕ) → Type 0
Stands words b parent index = Has words index (flat b parent index)

abbrev pub From : (words : List ℕ) (bs : Branches) (parent index : ℕ) → Type 0
From words bs parent index = Has words index (flats bs parent index)

-- children stand from the index first up to stop
pub record Children (words : List ℕ) (first stop : ℕ) (cs : Branches) : Type 0 where
  pub parent : ℕ
  pub from : From words cs parent first
  pub stop_is : stop ≡ first + length (flats cs parent first)

-- the index just past a branch; in any table it is not before the index, and behind it where a node is
pub record Past (words : List ℕ) (index r : ℕ) : Type 0 where
  pub is : (b : Branch) (p : ℕ) → Stands words b p index → r ≡ index + length (flat b p index)
  pub not_before : index ≤ r
  pub beyond : Inside words index → index < r
  pub within : index * node_words ≤ length words → r * node_words ≤ length words

-- ---- the plain form by index

module _ (text words : List ℕ) where
  -- of the branch at the index
  pub record NodeBytes (index : ℕ) (bs : List ℕ) : Type 0 where
    pub b : Branch
    pub parent : ℕ
    pub stands : Stands words b parent index
    pub walked : Walked text b bs

  -- of a child by the number of its role: a that before its this, which stands just behind it, is written behind it
  pub data ChildBytes (role index : ℕ) : List ℕ → Type 0 where
    alone : {bs : List ℕ} → (role ≡ role_number Nodes.that_before → ⊥) → NodeBytes index bs → ChildBytes role index bs
    turned : {m n : List ℕ} → role ≡ role_number Nodes.that_before → (that : NodeBytes index m) →
        NodeBytes (index + length (flat that.b that.parent index)) n → ChildBytes role index (n ++ codes ":" ++ m)

-- the index behind a child that ends at then: where it is a that before its this, behind the this too
pub record Behind (words : List ℕ) (role then r : ℕ) : Type 0 where
  pub alone : (role ≡ role_number Nodes.that_before → ⊥) → r ≡ then
  pub turned : role ≡ role_number Nodes.that_before → Past words then r
  pub not_before : then ≤ r
