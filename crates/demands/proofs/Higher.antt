-- A text that a level accepts is read alike at level 2, by demand 3. Assumes nothing.
use mathlib.Core.Path.{◌≡◌, sym, subst}
use mathlib.Core.List.{List, ◌++◌}
use mathlib.Core.Option.{Option, none, some}
use Prim.Native.Nat.{ℕ, ◌*◌}
use native.Mathlib.Omega.{arith}
use lib.ListN.{length, drop}
use Rattle.grammar.specs.Tree.{Value}
use Rattle.grammar.specs.Nodes.{table_words, node_words}
use Rattle.reading.specs.declared.Answer.{Answer}
use Rattle.reading.specs.declared.Rules.{Rules}
use Rattle.reading.specs.Sizes.{room}
use Rattle.reading.specs.Answers.{Reading, Answers, nodes_of, first, second, accepted}
use Rattle.reading.proofs.Numbers.{refused_number}
use Rattle.demands.proofs.Exists.{some_answer}
use Rattle.demands.proofs.Demands.{old_and_new}

module _ (rules : Rules) (text lent : List ℕ) {left : List ℕ} where
  from_1 : {s : Answer} → Answers rules text lent 1 s left → s.number ≡ 0 → Answers rules text lent 2 s left
  from_1 {s} a z =
      let b = some_answer rules text lent 2 in
      let same = (old_and_new rules text lent s b.0 left b.1 a b.2).alike (λ e. omega (arith, e, z)) in
      subst (λ (r : Answer). Answers rules text lent 2 r left) (sym same.0)
      (subst (λ (t : List ℕ). Answers rules text lent 2 b.0 t) (sym same.1) b.2)

  pub at_level_2 : {level : ℕ} {s : Answer} → Answers rules text lent level s left → s.number ≡ 0 → Answers rules text lent 2 s left
  at_level_2 a z = go a.tree a.reading a.left_is z
    where
      go : {n : ℕ} {s : Answer} (t : Option Value) → Reading rules text (room rules (length lent)) n s t →
          left ≡ table_words (nodes_of t) ++ drop (node_words * length (nodes_of t)) lent → s.number ≡ 0 → Answers rules text lent 2 s left
      go none x is z = absurd (refused_number rules text x z)
      go (some v) (accepted first h w x k) is z = from_1 (record { tree = some v; reading = accepted first h w x k; left_is = is }) z
      go (some v) (accepted second h w x k) is z = record { tree = some v; reading = accepted second h w x k; left_is = is }
