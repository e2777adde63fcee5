-- The index just past a branch, as its first node tells it. Assumes nothing.
use mathlib.Core.Path.{◌≡◌, ◌∙◌}
use mathlib.Core.List.{List}
use Prim.Native.Nat.{ℕ, ◌+◌, ◌*◌, ◌/◌, ◌≤◌, ◌<◌}
use native.Mathlib.Omega.{arith}
use lib.ListN.{length}
use Rattle.grammar.specs.Nodes.{node_words, skip_word, word_at}
use Rattle.grammar.proofs.Branches.{Branch, flat}
use Rattle.plain.specs.Nodes.{Inside, Stands, Past}
use Rattle.plain.proofs.Tables.{some_node, skip_word_lem, has_fits}

-- behind the node and not behind the table, and there it is what the word tells
pub past_told : {words : List ℕ} {index told r : ℕ} → told ≡ word_at words index skip_word → index < r → r * node_words ≤ length words →
    (index < told → told * node_words ≤ length words → r ≡ told) → Past words index r
past_told {words} {index} {told} {r} e h l same =
    record { is = is; not_before = omega (arith, h); beyond = λ k. h; within = λ k. l }
  where
    is : (b : Branch) (p : ℕ) → Stands words b p index → r ≡ index + length (flat b p index)
    is b p x =
        let f : told ≡ index + length (flat b p index) = e ∙ skip_word_lem b p x in
        same (omega (arith, f, some_node b p index)) (omega (arith, f, has_fits x)) ∙ f

pub past_none : (words : List ℕ) (index n : ℕ) → n ≡ length words / node_words → n ≤ index → Past words index index
past_none words index n e h =
    record {
      is = λ b p x. absurd (omega (arith, e, h, some_node b p index, has_fits x));
      not_before = omega arith;
      beyond = λ k. absurd (omega (arith, e, h, k));
      within = λ k. k;
    }

-- what stands before the end of a node's branch is in the table
pub before_end : {words : List ℕ} {index n stop i : ℕ} → n ≡ length words / node_words → index < n → Past words index stop → i < stop → Inside words i
before_end e h p l = omega (arith, e, h, l, p.within (omega (arith, e, h)))
