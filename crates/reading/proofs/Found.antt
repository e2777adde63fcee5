-- What an answer tells: refused, or accepted with a derivation whose nodes the table holds. Assumes nothing.
use mathlib.Core.Path.{◌≡◌, refl, ap, subst, ◌∙◌}
use mathlib.Core.List.{List, ◌++◌}
use mathlib.Core.Option.{Option, none, some}
use Prim.Native.Nat.{ℕ, ◌*◌, ◌≤◌}
use native.Mathlib.Omega.{arith}
use lib.ListN.{length, take, drop, length-append}
use lib.Seq.{take_at}
use Rattle.grammar.specs.Tree.{Value}
use Rattle.grammar.specs.Nodes.{table, table_words, node_words}
use Rattle.grammar.proofs.NodeLaws.{table_words_length}
use Rattle.reading.specs.declared.Answer.{Answer}
use Rattle.reading.specs.declared.Rules.{Rules}
use Rattle.reading.specs.Sizes.{room}
use Rattle.reading.specs.Answers.{Reading, Answers, nodes_of, accepted}
use Rattle.reading.specs.Tabled.{Holds}
use Rattle.reading.proofs.Numbers.{refused_number}

module _ (rules : Rules) (text : List ℕ) where
  -- ---- any room

  module _ {space number : ℕ} where
    pub refused : {a : Answer} (t : Option Value) → Reading rules text space number a t → (a.number ≡ 0 → ⊥) → Reading rules text space number a none
    refused none x n = x
    refused (some v) (accepted l g w x k) n = absurd (n refl)

  -- of a table with room for as many nodes as the rules let one have
  pub with_room : (lent : List ℕ) → room rules (length lent) ≡ rules.nodes → {number : ℕ} {a : Answer} {t : Option Value} →
      Reading rules text (room rules (length lent)) number a t → Reading rules text rules.nodes number a t
  with_room lent longest {number} {a} {t} x = subst (λ (n : ℕ). Reading rules text n number a t) longest x

  -- ---- a table

  module _ (lent left : List ℕ) (number : ℕ) where
    pub record Found (a : Answer) : Type 0 where
      pub tree : Value
      pub read : Reading rules text (room rules (length lent)) number a (some tree)
      pub count_is : a.count ≡ length (table tree)
      pub left_is : left ≡ table_words (table tree) ++ drop (node_words * length (table tree)) lent
      pub holds : Holds left tree
      pub few : a.count ≤ room rules (length lent)
      pub within : node_words * a.count ≤ length left

    pub found : {a : Answer} → Answers rules text lent number a left → a.number ≡ 0 → Found a
    found {a} x e = go x.tree x.reading x.left_is e
      where
        go : {b : Answer} (t : Option Value) → Reading rules text (room rules (length lent)) number b t →
            left ≡ table_words (nodes_of t) ++ drop (node_words * length (nodes_of t)) lent → b.number ≡ 0 → Found b
        go none y is z = absurd (refused_number rules text y z)
        go (some v) (accepted l g w y k) is z =
            let n : length (table_words (table v)) ≡ node_words * length (table v) = omega (arith, table_words_length (table v)) in
            let rest = drop (node_words * length (table v)) lent in
            record {
              tree = v;
              read = accepted l g w y k;
              count_is = refl;
              left_is = is;
              holds = ap (take (node_words * length (table v))) is ∙ take_at (table_words (table v)) rest (node_words * length (table v)) n;
              few = k;
              within = omega (arith, n, ap length is, length-append (table_words (table v)) rest);
            }
