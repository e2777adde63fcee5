-- What judging a text with its table answers is one, and 14 says that a reading into the table would change it. Assumes nothing.
use mathlib.Core.Path.{◌≡◌, refl, sym, ap, subst, ◌∙◌}
use mathlib.Core.List.{List, ◌++◌}
use mathlib.Core.Option.{Option, none, some, none-ne-some, some-injective}
use Prim.Native.Nat.{ℕ, ◌*◌, ◌<◌}
use native.Mathlib.Omega.{arith}
use lib.ListN.{length, get_or, take, drop, take-append-drop}
use lib.Seq.{take_at}
use Rattle.grammar.specs.Tree.{Value}
use Rattle.grammar.specs.Nodes as Nodes
use Rattle.grammar.specs.Nodes.{table, table_words, node_words, word_at}
use Rattle.grammar.specs.Stretches.{Stretches}
use Rattle.grammar.proofs.NodeLaws.{table_words_length, node_at, table_word}
use Rattle.grammar.proofs.Forest.{table_stretches}
use Rattle.reading.specs.declared.Answer.{Answer}
use Rattle.reading.specs.declared.Rules.{Rules}
use Rattle.reading.specs.Tabled.{Holds, Judged, Tabled, refused, other_table, shown}
use Rattle.reading.proofs.Unique.{one_reading}

module _ (rules : Rules) (text words : List ℕ) {number : ℕ} where
  no_tree : {a b : Answer} {v : Value} → Judged rules text words number a none → Judged rules text words number b (some v) → ⊥
  no_tree {v = v} x y = none-ne-some v (one_reading rules text x y).1

  one_tree_lem : {a b : Answer} {v w : Value} → Judged rules text words number a (some v) → Judged rules text words number b (some w) → v ≡ w
  one_tree_lem {v = v} {w = w} x y = some-injective v w (one_reading rules text x y).1

  pub one_tabled : {a b : Answer} {t u : Option Value} → Tabled rules text words number a t → Tabled rules text words number b u → (a ≡ b) × (t ≡ u)
  one_tabled (refused x) (refused y) = one_reading rules text x y
  one_tabled (refused x) (other_table y n) = absurd (no_tree x y)
  one_tabled (refused x) (shown y h) = absurd (no_tree x y)
  one_tabled (other_table x n) (refused y) = absurd (no_tree y x)
  one_tabled (other_table x n) (other_table y m) = (refl, refl)
  one_tabled (other_table x n) (shown y h) = absurd (n (subst (Holds words) (sym (one_tree_lem x y)) h))
  one_tabled (shown x h) (refused y) = absurd (no_tree y x)
  one_tabled (shown x h) (other_table y m) = absurd (m (subst (Holds words) (one_tree_lem x y) h))
  one_tabled (shown x h) (shown y g) = one_reading rules text x y

-- a table holds the nodes just when writing them there changes nothing
module _ (words : List ℕ) (v : Value) where
  pub holds_unchanged : Holds words v → table_words (table v) ++ drop (node_words * length (table v)) words ≡ words
  holds_unchanged h = ap (λ (l : List ℕ). l ++ drop (node_words * length (table v)) words) (sym h) ∙ take-append-drop (node_words * length (table v)) words

  pub unchanged_holds : table_words (table v) ++ drop (node_words * length (table v)) words ≡ words → Holds words v
  unchanged_holds e =
      let n : length (table_words (table v)) ≡ node_words * length (table v) = omega (arith, table_words_length (table v)) in
      ap (take (node_words * length (table v))) (sym e) ∙ take_at (table_words (table v)) (drop (node_words * length (table v)) words) (node_words * length (table v)) n

  module _ (h : Holds words v) where
    -- word k of the node at index i
    pub held_word : (i k : ℕ) → i < length (table v) → k < node_words → word_at words i k ≡ get_or (Nodes.words i (node_at (table v) i)) k 0
    held_word i k l g =
        ap (λ (t : List ℕ). word_at t i k) (sym (holds_unchanged h)) ∙ table_word (table v) (drop (node_words * length (table v)) words) i k l g

    pub held_stretches : Stretches words (length (table v))
    held_stretches =
        subst (λ (t : List ℕ). Stretches t (length (table v))) (holds_unchanged h) (table_stretches v (drop (node_words * length (table v)) words))
