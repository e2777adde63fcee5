-- The table as it is once nodes were written, one by one or in pieces. Assumes nothing.
use mathlib.Core.Path.{◌≡◌, refl, sym, ap, subst, ◌∙◌}
use mathlib.Core.Logic.{◌⊎◌, inl, inr, ⊎_elim}
use mathlib.Core.List.{List, [], ◌∷◌, ◌++◌}
use Prim.Native.Nat.{ℕ, zero, suc, ◌+◌, ◌*◌, ◌≤◌}
use native.Mathlib.Omega.{arith}
use lib.ListN.{length, set, drop, length-append}
use Rattle.rules.specs.Over.{over}
use Rattle.rules.proofs.Over.{over_nothing, over_append, over_swap, over_set, over_start}
use Rattle.grammar.specs.Nodes.{Node, words, node_words, role_word, words_from, table_words, role_number}
use Rattle.grammar.proofs.NodeLaws.{words_length, table_words_length, words_append}
use Rattle.moves.specs.declared.Role.{Role}
use Rattle.moves.specs.Means.{role_of, roled}
use Rattle.table.specs.declared.Entry.{Entry}
use Rattle.table.specs.Over.{entry_words, Tells, Stored, Put, Assigned, Written}
use Rattle.table.proofs.Words.{roled_length, roled_words}
use Rattle.table.proofs.Stores.{root_number, number_root}

-- the words that the code has are the node's
pub told_words : {i : ℕ} {e : Entry} {n : Node} → Tells e i n → words i n ≡ entry_words e
told_words d = λ j. d.kind j ∷ d.first j ∷ d.end j ∷ d.parent j ∷ role_number (d.role j) ∷ d.detail j ∷ d.skip j ∷ []

pub told_put : {t t' : List ℕ} {i : ℕ} {e : Entry} {n : Node} → Tells e i n → Stored t t' i (entry_words e) → Put t t' i n
told_put {t} {t'} {i} d s = subst (λ (ws : List ℕ). Stored t t' i ws) (sym (told_words d)) s

pub written_nothing : {t : List ℕ} {i : ℕ} → Written t t i []
written_nothing {t} {i} = record { words_are = λ h. sym (over_nothing t (i * node_words)) }

-- nodes behind nodes
pub written_more : {t t' t'' : List ℕ} {i : ℕ} {ns ms : List Node} →
    Written t t' i ns → length t' ≡ length t → Written t' t'' (i + length ns) ms → Written t t'' i (ns ++ ms)
written_more {t} {t'} {t''} {i} {ns} {ms} w l v =
    let k = i * node_words in
    let j = (i + length ns) * node_words in
    record {
      words_are = λ h.
          let s : length (ns ++ ms) ≡ length ns + length ms = length-append ns ms in
          v.words_are (omega arith)
          ∙ ap (λ (x : List ℕ). over x j (words_from (i + length ns) ms)) (w.words_are (omega arith))
          ∙ sym (over_append t k j (words_from i ns) (words_from (i + length ns) ms) (omega (arith, words_length i ns)))
          ∙ ap (λ (ws : List ℕ). over t k ws) (sym (words_append i ns ms));
    }

pub written_node : {t t' : List ℕ} {i : ℕ} (n : Node) → Put t t' i n → Written t t' i (n ∷ [])
written_node n p = record { words_are = λ h. p.fits h }

-- a node before nodes that were written first
pub written_front : {t t' t'' : List ℕ} {i : ℕ} {ns : List Node} (n : Node) →
    Written t t' (i + 1) ns → length t' ≡ length t → Put t' t'' i n → Written t t'' i (n ∷ ns)
written_front {t} {t'} {t''} {i} {ns} n w l p =
    record {
      words_are = λ h.
          p.fits (omega arith)
          ∙ ap (λ (x : List ℕ). over x (i * node_words) (words i n)) (w.words_are (omega arith))
          ∙ over_swap t (i * node_words) ((i + 1) * node_words) (words i n) (words_from (i + 1) ns) (omega arith)
          ∙ sym (over_append t (i * node_words) ((i + 1) * node_words) (words i n) (words_from (i + 1) ns) (omega arith));
    }

zero? : (n : ℕ) → (n ≡ 0) ⊎ (n ≡ 0 → ⊥)
zero? zero = inl refl
zero? (suc n) = inr (λ e. omega arith)

root? : (r : Role) → (r ≡ Role.Root) ⊎ (r ≡ Role.Root → ⊥)
root? r = ⊎_elim (λ e. inl (root_number r e)) (λ other. inr (λ e. other (number_root r e))) (zero? (role_number (role_of r)))

-- the role of a node told later, when nodes ns stand before it; where none is told there may be no node
pub written_role : {t t' t'' : List ℕ} {i : ℕ} {r : Role} (ns ms : List Node) →
    Written t t' i (ns ++ ms) → length t' ≡ length t → Assigned t' t'' (i + length ns) r →
    (r ≡ Role.Root → roled (role_of r) ms ≡ ms) → ((r ≡ Role.Root → ⊥) → 1 ≤ length ms) → Written t t'' i (ns ++ roled (role_of r) ms)
written_role {t} {t'} {t''} {i} {r} ns ms w l a same some = ⊎_elim (λ e. kept e) (λ other. changed other) (root? r)
  where
    kept : r ≡ Role.Root → Written t t'' i (ns ++ roled (role_of r) ms)
    kept e = rw (same e, a.kept e) w

    changed : (r ≡ Role.Root → ⊥) → Written t t'' i (ns ++ roled (role_of r) ms)
    changed other =
        let k = i * node_words in
        let m = length ns * node_words + role_word in
        let j = (i + length ns) * node_words + role_word in
        let v = role_number (role_of r) in
        let n : 1 ≤ length ms = some other in
        record {
          words_are = λ h.
              let h' : (i + (length ns + length ms)) * node_words ≤ length t = omega (arith, h, length-append ns (roled (role_of r) ms), roled_length (role_of r) ms) in
              let s : length (ns ++ ms) ≡ length ns + length ms = length-append ns ms in
              a.fits other (omega arith)
              ∙ ap (λ (x : List ℕ). set x j v) (w.words_are (omega arith))
              ∙ over_set t k j m v (words_from i (ns ++ ms)) (omega arith) (omega (arith, words_length i (ns ++ ms)))
              ∙ ap (λ (ws : List ℕ). over t k ws) (roled_words i (role_of r) ns ms m n refl);
        }

-- the same of the first node, when nodes ms stand behind
pub written_first : {t t' t'' : List ℕ} {i : ℕ} {r : Role} (ns ms : List Node) →
    Written t t' i (ns ++ ms) → length t' ≡ length t → Assigned t' t'' i r →
    (r ≡ Role.Root → ⊥) → 1 ≤ length ns → Written t t'' i (roled (role_of r) ns ++ ms)
written_first {t} {t'} {t''} {i} {r} [] ms w l a other h = absurd (omega arith)
written_first {t} {t'} {t''} {i} {r} (n ∷ ns) ms w l a other h =
    written_role [] (n ∷ ns ++ ms) w l (subst (λ (j : ℕ). Assigned t' t'' j r) (omega arith) a) (λ e. absurd (other e)) (λ other. omega arith)

-- from the table's start on, as `Answers` has it
pub written_whole : {t t' : List ℕ} {ns : List Node} → Written t t' 0 ns → length ns * node_words ≤ length t →
    t' ≡ table_words ns ++ drop (node_words * length ns) t
written_whole {t} {t'} {ns} w h =
    w.words_are (omega arith) ∙ over_start t (table_words ns) (node_words * length ns) (omega (arith, table_words_length ns)) (omega arith)
