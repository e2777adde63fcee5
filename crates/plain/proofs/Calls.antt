-- The writer's answers, by how the text with its table was judged. Assumes nothing.
use mathlib.Core.Path.{◌≡◌, refl, ap, ◌∙◌}
use mathlib.Core.List.{List}
use mathlib.Core.Option.{Option, none, some}
use Prim.Native.Nat.{ℕ, ◌*◌, ◌≤◌}
use native.Mathlib.Omega.{arith}
use lib.ListN.{length, take}
use Rattle.grammar.specs.Tree.{Value}
use Rattle.grammar.specs.Level.{Level}
use Rattle.grammar.specs.Nodes.{table, table_words, node_words}
use Rattle.reading.specs.declared.Answer.{Answer}
use Rattle.reading.specs.Sizes.{base, room}
use Rattle.reading.specs.Answers.{Accepted, accepted}
use Rattle.reading.specs.Tabled.{Tabled, Judges, refused, other_table, shown}
use Rattle.reading.proofs.Numbers.{refused_number}
use Rattle.form.specs.Writes as Writes
use Rattle.form.specs.Writes.{Writes, told}
use Rattle.plain.specs.Calls.{Fitted}

module _ (text words : List ℕ) (level : ℕ) where
  -- an accepted text whose nodes the table holds
  record Found (a : Answer) : Type 0 where
    tree : Value
    of : Level
    tabled : Tabled base text words level a (some tree)
    derived : Accepted base.limits text of tree
    few : a.count ≤ room base (length words)
    words_are : take (a.count * node_words) words ≡ table_words (table tree)

  find : {a : Answer} (t : Option Value) → Tabled base text words level a t → a.number ≡ 0 → Found a
  find none (refused x) e = absurd (refused_number base text x e)
  find none (other_table x n) e = absurd (omega (arith, e))
  find (some v) (shown (accepted {l} o g w y k) h) e =
      let c : length (table v) * node_words ≡ node_words * length (table v) = omega arith in
      record {
        tree = v;
        of = l;
        tabled = shown (accepted o g w y k) h;
        derived = y;
        few = k;
        words_are = ap (λ (n : ℕ). take n words) c ∙ h;
      }

  not_accepted : {a : Answer} (t : Option Value) → Tabled base text words level a t → (a.number ≡ 0 → ⊥) → Tabled base text words level a none
  not_accepted none x n = x
  not_accepted (some v) (shown (accepted o g w y k) h) n = absurd (n refl)

  module _ {a : Answer} (judged : Judges base text words level a) where
    pub is_refused : (a.number ≡ 0 → ⊥) → (lent : List ℕ) → Writes base text words lent level a lent
    is_refused n lent = Writes.refused (not_accepted judged.tree judged.tabled n)

    module _ (e : a.number ≡ 0) where
      found : Found a
      found = find judged.tree judged.tabled e

      pub few : a.count ≤ base.nodes
      few = omega (arith, found.few)

      pub within : a.count * node_words ≤ length words
      within = omega (arith, found.few)

      pub is_told : {lent left : List ℕ} {r : Answer} → Fitted text (take (a.count * node_words) words) lent r left → Writes base text words lent level r left
      is_told f = told found.tabled (f base.limits found.of found.tree found.derived found.words_are)
