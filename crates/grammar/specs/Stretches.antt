-- What the seventh word tells, said on the words of a table: 02, request 7. Assumes nothing.
use Rattle.std.specs.Prelude.{◌≡◌, ◌↔◌, List, ℕ, ◌+◌, ◌≤◌, ◌<◌}
use Rattle.grammar.specs.Nodes.{word_at, parent_word, skip_word}

module _ (t : List ℕ) where
  -- the node at index j has the one at index i as its parent; the root, at 0, is no one's child
  abbrev pub Child : ℕ → ℕ → Type 0
  Child i j = (0 < j) × (word_at t j parent_word ≡ i)

  -- a child, or a child of a descendant
  pub data Descendant (i : ℕ) : ℕ → Type 0 where
    child : {j : ℕ} → Child i j → Descendant i j
    further : {j k : ℕ} → Descendant i j → Child j k → Descendant i k

  -- a node's stretch is itself and the nodes behind it up to this index, where it ends
  abbrev pub past : ℕ → ℕ
  past i = word_at t i skip_word

  -- what a walk over the children of the node at index i meets: the index behind it, and from each that it meets the
  -- one where that stretch ends, as long as they are before the end of the node's own
  pub data Met (i : ℕ) : ℕ → Type 0 where
    first : i + 1 < past i → Met i (i + 1)
    next : {j : ℕ} → Met i j → past j < past i → Met i (past j)

  -- of a table of so many nodes
  pub record Stretches (count : ℕ) : Type 0 where
    -- the root's stretch is the whole table, and every stretch a part of it
    pub whole : past 0 ≡ count
    pub part : (i : ℕ) → i < count → (i < past i) × (past i ≤ count)
    -- it ends 'just past its last descendant, or past itself if it has none': behind the node itself there are its
    -- descendants and nothing else
    pub descendants : (i j : ℕ) → i < count → ((j < count) × Descendant i j) ↔ ((i < j) × (j < past i))
    -- 'children lie inside their parent's stretch'
    pub inside : (i j : ℕ) → j < count → Child i j → (i < j) × (past j ≤ past i)
    -- 'and siblings' stretches follow on without gaps': the first child's begins right behind the parent; behind a
    -- child's that ends before the parent's begins the next one's; and of two siblings the one's ends before the
    -- other's begins
    pub first_child : (i : ℕ) → i < count → i + 1 < past i → Child i (i + 1)
    pub next_sibling : (i j : ℕ) → j < count → Child i j → past j < past i → Child i (past j)
    pub apart : (i j k : ℕ) → k < count → Child i j → Child i k → j < k → past j ≤ k
    -- so the walk meets the children, all of them and nothing else; each index that it meets is beyond the one before
    pub walk : (i j : ℕ) → i < count → Met i j ↔ ((j < count) × Child i j)
