-- A file holds the words that a reading of the text at level 2 leaves in its table. Assumes nothing.
use mathlib.Core.Path.{◌≡◌, refl, sym, ap, subst, ◌∙◌}
use mathlib.Core.List.{List, ◌++◌}
use mathlib.Core.Option.{Option, none, some}
use Prim.Native.Nat.{ℕ, suc, ◌+◌, ◌*◌, ◌/◌, ◌%◌, ◌<◌}
use native.Mathlib.Omega.{arith}
use lib.ListN.{length, get_or, take, drop, get_or-append}
use Rattle.grammar.specs.Tree.{Value}
use Rattle.grammar.specs.Nodes.{Node, table, node_words, word_at, table_words}
use Rattle.grammar.proofs.NodeLaws.{table_words_length}
use Rattle.reading.specs.declared.Answer.{Answer}
use Rattle.reading.specs.declared.Rules.{Rules}
use Rattle.reading.specs.Sizes.{room}
use Rattle.reading.specs.Answers.{Reading, accepted, nodes_of, Answers}
use Rattle.reading.proofs.Numbers.{refused_number}
use Rattle.reading.proofs.Unique.{one_level, one_tree_lem}
use Rattle.files.specs.File.{number, six_words, file}
use Rattle.files.specs.Checks.{Stored}
use Rattle.files.proofs.Bytes.{six_length, file_length, pair_at, six_at}

-- word k of node i, in the nodes' words and whatever stands behind them
word_at_lem : (ns : List Node) (rest : List ℕ) (i k : ℕ) → i < length ns → k < 6 → get_or (six_words ns) (6 * i + k) 0 ≡ word_at (table_words ns ++ rest) i k
word_at_lem ns rest i k h g =
    let e : (6 * i + k) / 6 * node_words + (6 * i + k) % 6 ≡ i * node_words + k = omega (arith, g) in
    six_at ns (6 * i + k) (omega (arith, h, g))
    ∙ ap (λ (j : ℕ). get_or (table_words ns) j 0) e
    ∙ sym (get_or-append (table_words ns) rest 0 (i * node_words + k) (omega (arith, table_words_length ns, h, g)))

file_at : (text : List ℕ) (v : Value) (rest : List ℕ) (i k : ℕ) → i < length (table v) → k < 6 →
    take 2 (drop (9 + 12 * i + 2 * k) (file text v)) ≡ number 2 (word_at (table_words (table v) ++ rest) i k)
file_at text v rest i k h g =
    let e : 9 + 12 * i + 2 * k ≡ suc (suc (suc (suc (suc (suc (suc (suc (suc (2 * (6 * i + k)))))))))) = omega arith in
    ap (λ (m : ℕ). take 2 (drop m (file text v))) e
    ∙ pair_at (six_words (table v)) (6 * i + k) (omega (arith, six_length (table v), h, g))
    ∙ ap (number 2) (word_at_lem (table v) rest i k h g)

module _ (rules : Rules) (text : List ℕ) where
  -- the tree does not depend on the room
  same_tree_lem : {room other level : ℕ} {a b : Answer} {v w : Value} → Reading rules text room level a (some v) → Reading rules text other level b (some w) → v ≡ w
  same_tree_lem (accepted l h w a m) (accepted k g x b n) = one_tree_lem rules.limits text (one_level l k) a b

  -- so many bytes, the nodes and the text's length in their places, and the words of every node
  abbrev Kept : (left : List ℕ) (nodes : ℕ) (bytes : List ℕ) → Type 0
  Kept left nodes bytes =
      (length bytes ≡ 9 + 12 * nodes) × (take 2 (drop 5 bytes) ≡ number 2 nodes) × (take 2 (drop 7 bytes) ≡ number 2 (length text)) ×
      ((i k : ℕ) → i < nodes → k < 6 → take 2 (drop (9 + 12 * i + 2 * k) bytes) ≡ number 2 (word_at left i k))

  pub stored_as_read : {bytes lent left : List ℕ} {s : Answer} → Stored rules text bytes → Answers rules text lent 2 s left → s.number ≡ 0 → Kept left s.count bytes
  stored_as_read {bytes} {lent} x a z = go a.tree a.reading a.left_is z
    where
      kept : (w : Value) → bytes ≡ file text w → Kept (table_words (table w) ++ drop (node_words * length (table w)) lent) (length (table w)) bytes
      kept w e =
          subst (Kept (table_words (table w) ++ drop (node_words * length (table w)) lent) (length (table w))) (sym e)
          (file_length text w, refl, refl, file_at text w (drop (node_words * length (table w)) lent))

      go : {left : List ℕ} {b : Answer} (t : Option Value) → Reading rules text (room rules (length lent)) 2 b t →
          left ≡ table_words (nodes_of t) ++ drop (node_words * length (nodes_of t)) lent → b.number ≡ 0 → Kept left b.count bytes
      go none r e n = absurd (refused_number rules text r n)
      go (some w) (accepted l h g y m) e n =
          subst (λ (t : List ℕ). Kept t (length (table w)) bytes) (sym e) (kept w (x.bytes_are ∙ ap (file text) (same_tree_lem x.read (accepted l h g y m))))
