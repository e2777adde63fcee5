-- Nodes written over the words of the lent table. Assumes nothing.
use Rattle.std.specs.Prelude.{◌≡◌, List, [], ◌∷◌, ◌++◌, ℕ, zero, suc, ◌+◌, ◌*◌, ◌≤◌, ◌<◌, min, length, set}
use Rattle.rules.specs.Over.{over}
use Rattle.grammar.specs.Nodes.{Node, kind_number_of, role_number, words, node_words, parent_word, role_word, skip_word}
use Rattle.grammar.specs.Nodes.{word_at, words_from}
use Rattle.moves.specs.declared.Role.{Role}
use Rattle.moves.specs.Means.{role_of}
use Rattle.table.specs.declared.Entry.{Entry}

-- a node's words, as the code has them
abbrev pub entry_words : Entry → List ℕ
entry_words e = e.kind ∷ e.first ∷ e.end ∷ e.parent ∷ role_number (role_of e.role) ∷ e.detail ∷ e.skip ∷ []

-- the code's node is this one, at index i
pub record Tells (e : Entry) (i : ℕ) (n : Node) : Type 0 where
  pub kind : kind_number_of n.kind ≡ e.kind
  pub first : n.at.first ≡ e.first
  pub end : n.at.end ≡ e.end
  pub parent : n.parent ≡ e.parent
  pub role : n.role ≡ role_of e.role
  pub detail : n.detail ≡ e.detail
  pub skip : i + n.stretch ≡ e.skip

-- ---- nodes moved up by one

abbrev pub largest_word : ℕ
largest_word = 4294967295

-- a number as a word holds it
abbrev pub capped : ℕ → ℕ
capped n = min n largest_word

-- the words of the node at index i, but with parent p, and one more for the index past its descendants
abbrev pub under : List ℕ → ℕ → ℕ → List ℕ
under t i p =
    word_at t i 0 ∷ word_at t i 1 ∷ word_at t i 2 ∷ p ∷ word_at t i role_word ∷ word_at t i 5
    ∷ capped (word_at t i skip_word + 1) ∷ []

-- the words of n nodes from index i on, but with each index in them one more
abbrev pub lifted : List ℕ → ℕ → ℕ → List ℕ
lifted t i zero = []
lifted t i (suc n) = under t i (capped (word_at t i parent_word + 1)) ++ lifted t (i + 1) n

-- the same, but the first's parent is what stands at index i from now on
abbrev pub raised : List ℕ → ℕ → ℕ → List ℕ
raised t i zero = []
raised t i (suc n) = under t i (capped i) ++ lifted t (i + 1) n

module _ (t t' : List ℕ) (i : ℕ) where
  -- t' is t with the words ws at index i, or t where no node fits there
  pub record Stored (ws : List ℕ) : Type 0 where
    pub fits : (i + 1) * node_words ≤ length t → t' ≡ over t (i * node_words) ws
    pub else : length t < (i + 1) * node_words → t' ≡ t

  abbrev pub Put : Node → Type 0
  Put n = Stored (words i n)

  -- the same of the role's word alone; Root stands for no change
  pub record Assigned (r : Role) : Type 0 where
    pub kept : r ≡ Role.Root → t' ≡ t
    pub fits : (r ≡ Role.Root → ⊥) → (i + 1) * node_words ≤ length t →
        t' ≡ set t (i * node_words + role_word) (role_number (role_of r))
    pub else : length t < (i + 1) * node_words → t' ≡ t

  -- t' is t with the nodes from index i on, if they fit
  pub record Written (ns : List Node) : Type 0 where
    pub words_are : (i + length ns) * node_words ≤ length t → t' ≡ over t (i * node_words) (words_from i ns)

  -- t' is t with the n nodes from index i on moved up by one, or t where they do not fit there; the slot at index i
  -- is left as it was
  pub record Raised (n : ℕ) : Type 0 where
    pub fits : (i + n + 1) * node_words ≤ length t → t' ≡ over t ((i + 1) * node_words) (raised t i n)
    pub else : length t < (i + n + 1) * node_words → t' ≡ t

  -- t' is t but for the words of one node at index i
  pub record Reserved : Type 0 where
    pub slot : List ℕ
    pub few : length slot ≤ node_words
    pub is : t' ≡ over t (i * node_words) slot
