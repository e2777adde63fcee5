-- The converter's answers, by what the reading into the longest table left there. Assumes nothing.
use mathlib.Core.Path.{◌≡◌, ap, ◌∙◌}
use mathlib.Core.List.{List}
use mathlib.Core.Option.{some}
use Prim.Native.Nat.{ℕ, ◌*◌, ◌≤◌}
use native.Mathlib.Omega.{arith}
use lib.ListN.{length, take}
use Rattle.grammar.specs.Tree.{Value}
use Rattle.grammar.specs.Level.{Level}
use Rattle.grammar.specs.Nodes.{table, table_words, node_words}
use Rattle.reading.specs.declared.Answer.{Answer}
use Rattle.reading.specs.Sizes.{old_rules, room}
use Rattle.reading.specs.Answers.{Accepted, Reading, Answers, accepted}
use Rattle.reading.proofs.Found as Found
use Rattle.reading.proofs.Found.{Found, with_room}
use Rattle.form.specs.Writes.{Converts, refused, told}
use Rattle.plain.specs.Calls.{Fitted}

-- at the level of the number
derived : {text : List ℕ} {space level : ℕ} {a : Answer} {v : Value} → Reading old_rules text space level a (some v) → (l : Level) × Accepted old_rules.limits text l v
derived (accepted {l} o g w y k) = (l, y)

module _ (text : List ℕ) (level : ℕ) {lent left : List ℕ} (longest : length lent ≡ old_rules.nodes * node_words) {a : Answer} (answers : Answers old_rules text lent level a left) where
  -- its room is as many nodes as a table may have
  roomy : room old_rules (length lent) ≡ old_rules.nodes
  roomy = ap (room old_rules) longest

  pub is_refused : (a.number ≡ 0 → ⊥) → (buffer : List ℕ) → Converts old_rules text buffer level a buffer
  is_refused n buffer = refused (with_room old_rules text lent roomy (Found.refused old_rules text answers.tree answers.reading n))

  module _ (e : a.number ≡ 0) where
    found : Found old_rules text lent left level a
    found = Found.found old_rules text lent left level answers e

    pub few : a.count ≤ old_rules.nodes
    few = omega (arith, found.few)

    pub within : a.count * node_words ≤ length left
    within = omega (arith, found.within)

    words_are : take (a.count * node_words) left ≡ table_words (table found.tree)
    words_are =
        let c : a.count * node_words ≡ node_words * length (table found.tree) = omega (arith, found.count_is) in
        ap (λ (n : ℕ). take n left) c ∙ found.holds

    pub is_converted : {buffer after : List ℕ} {r : Answer} → Fitted text (take (a.count * node_words) left) buffer r after → Converts old_rules text buffer level r after
    is_converted f =
        let d = derived found.read in
        told (with_room old_rules text lent roomy found.read) (f old_rules.limits d.0 found.tree d.1 words_are)
