-- What a reading into the longest table answers, and the nodes that it leaves there. Assumes nothing.
use mathlib.Core.Path.{◌≡◌, refl, sym, subst}
use mathlib.Core.List.{List}
use mathlib.Core.Option.{none, some}
use Prim.Native.Nat.{ℕ, ◌*◌, ◌≤◌}
use native.Mathlib.Omega.{arith}
use lib.ListN.{length, take}
use Rattle.grammar.specs.Tree.{Value}
use Rattle.grammar.specs.Nodes.{table, table_words, node_words}
use Rattle.reading.specs.declared.Answer.{Answer}
use Rattle.reading.specs.declared.Rules.{Rules}
use Rattle.reading.specs.Sizes.{room}
use Rattle.reading.specs.Answers.{Answers}
use Rattle.reading.proofs.Found.{refused, with_room, found}
use Rattle.files.specs.Writes.{Read}
use Rattle.stored.specs.Holds.{Holds}

module _ (rules : Rules) (text left : List ℕ) where
  -- an accepted text: its derivation, and the table that holds it
  pub record Found (a : Answer) : Type 0 where
    pub tree : Value
    pub read : Read rules text a (some tree)
    pub held : Holds left a.count (length text) text tree
    pub few : a.count ≤ rules.nodes
    pub within : node_words * a.count ≤ length left

  module _ {lent : List ℕ} (longest : room rules (length lent) ≡ rules.nodes) where
    pub read_refused : {a : Answer} → Answers rules text lent 2 a left → (a.number ≡ 0 → ⊥) → Read rules text a none
    read_refused x n = with_room rules text lent longest (refused rules text x.tree x.reading n)

    pub read_accepted : {a : Answer} → Answers rules text lent 2 a left → a.number ≡ 0 → Found a
    read_accepted {a} x e =
        let f = found rules text lent left 2 x e in
        record {
          tree = f.tree;
          read = with_room rules text lent longest f.read;
          held =
              record {
                nodes_are = f.count_is;
                size_is = refl;
                words_are = subst (λ (n : ℕ). take (node_words * n) left ≡ table_words (table f.tree)) (sym f.count_is) f.holds;
              };
          few = omega (arith, f.few, longest);
          within = f.within;
        }
