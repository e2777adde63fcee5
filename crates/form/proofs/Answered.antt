-- What was written is read again: where the plain form keeps the text size, every table with room for the text's nodes takes it. Assumes nothing.
use mathlib.Core.Path.{◌≡◌, sym, subst}
use mathlib.Core.List.{List}
use mathlib.Core.Option.{some}
use Prim.Native.Nat.{ℕ, ◌≤◌}
use native.Mathlib.Omega.{arith}
use lib.ListN.{length}
use Rattle.grammar.specs.Tree.{Value}
use Rattle.grammar.specs.Level.{Level}
use Rattle.grammar.specs.Nodes.{table}
use Rattle.grammar.proofs.Retired.{arrowless_within}
use Rattle.reading.specs.declared.Limits.{Limits}
use Rattle.reading.specs.declared.Rules.{Rules}
use Rattle.reading.specs.Answers.{Reading, Accepted, LevelOf, answer, accepted}
use Rattle.form.specs.Spell.{plain_form}
use Rattle.form.specs.Reread.{Reread}
use Rattle.form.proofs.Counted.{same_count}
use Rattle.form.proofs.Rereads.{reread_at}

-- by rules of at least the depth of those that accepted the text, the backward arrow aside
module _ (limits : Limits) (rules : Rules) (depth : limits.depth ≤ rules.limits.depth) (l : Level) (text : List ℕ) (v : Value) (a : Accepted limits text l v) where
  abbrev pub again_by : Reread rules.limits text l v
  again_by = reread_at limits l text v a rules.limits depth l (arrowless_within l)

  -- as many nodes as the text has
  pub same_many : length (table again_by.tree) ≡ length (table v)
  same_many = same_count v again_by.tree again_by.same_nodes

  pub answered_by : (number : ℕ) → LevelOf number l → length (plain_form text v) ≤ rules.text → (room : ℕ) → length (table v) ≤ room →
      Reading rules (plain_form text v) room number (answer 0 (length (plain_form text v)) (length (table v))) (some again_by.tree)
  answered_by number o h room m =
      subst (λ (n : ℕ). Reading rules (plain_form text v) room number (answer 0 (length (plain_form text v)) n) (some again_by.tree)) same_many
      (accepted o h again_by.formed again_by.accepted (subst (λ (n : ℕ). n ≤ room) (sym same_many) m))

-- by the same rules
module _ (rules : Rules) (l : Level) (text : List ℕ) (v : Value) (a : Accepted rules.limits text l v) where
  abbrev pub again : Reread rules.limits text l v
  again = again_by rules.limits rules (omega arith) l text v a

  pub again_count : length (table again.tree) ≡ length (table v)
  again_count = same_many rules.limits rules (omega arith) l text v a

  pub answered : (number : ℕ) → LevelOf number l → length (plain_form text v) ≤ rules.text → (room : ℕ) → length (table v) ≤ room →
      Reading rules (plain_form text v) room number (answer 0 (length (plain_form text v)) (length (table v))) (some again.tree)
  answered number o h room m = answered_by rules.limits rules (omega arith) l text v a number o h room m
