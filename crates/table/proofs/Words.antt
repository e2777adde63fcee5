-- The words of nodes. Assumes nothing.
use mathlib.Core.Path.{◌≡◌, refl, ap, ◌∙◌}
use mathlib.Core.List.{List, [], ◌∷◌, ◌++◌}
use Prim.Native.Nat.{ℕ, ◌+◌, ◌*◌, ◌≤◌}
use native.Mathlib.Omega.{arith}
use lib.ListN.{length, set}
use Rattle.rules.proofs.Over.{set_behind}
use Rattle.grammar.specs.Nodes.{Node, Role, words, node_words, role_word, words_from, role_number}
use Rattle.moves.specs.Means.{roled}

pub roled_length : (r : Role) (ns : List Node) → length (roled r ns) ≡ length ns
roled_length r [] = refl
roled_length r (n ∷ ns) = refl

pub roled_words : (i : ℕ) (r : Role) (ns ms : List Node) (j : ℕ) → 1 ≤ length ms → j ≡ length ns * node_words + role_word →
    set (words_from i (ns ++ ms)) j (role_number r) ≡ words_from i (ns ++ roled r ms)
roled_words i r [] [] j h e = absurd (omega arith)
roled_words i r [] (n ∷ ms) j h e = ap (λ (m : ℕ). set (words_from i (n ∷ ms)) m (role_number r)) e
roled_words i r (n ∷ ns) ms j h e =
    set_behind (words i n) (words_from (i + 1) (ns ++ ms)) j (length ns * node_words + role_word) (role_number r) (omega arith)
    ∙ ap (λ (l : List ℕ). words i n ++ l) (roled_words (i + 1) r ns ms (length ns * node_words + role_word) h refl)
