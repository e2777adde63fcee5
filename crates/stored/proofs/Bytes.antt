-- The byte at a place of a file, by the table that a reading left. Assumes nothing.
use mathlib.Core.Path.{◌≡◌, refl, sym, ap, ◌∙◌}
use mathlib.Core.List.{List, [], ◌∷◌}
use Prim.Native.Nat.{ℕ, zero, suc, ◌+◌, ◌-◌, ◌*◌, ◌/◌, ◌%◌, ◌≤◌, ◌<◌}
use native.Mathlib.Omega.{arith}
use lib.ListN.{get_or}
use lib.Seq.{get_or-take}
use Rattle.grammar.specs.Tree.{Value}
use Rattle.grammar.specs.Nodes.{table, node_words, word_at}
use Rattle.files.specs.File.{number, mark, version, row, file}
use Rattle.files.proofs.Bytes.{six_length, byte_at, six_at}
use Rattle.stored.specs.Holds.{Holds}

module _ {t : List ℕ} {nodes size : ℕ} {text : List ℕ} {v : Value} (held : Holds t nodes size text v) where
  -- the number at an index, one of the first three or a word
  pub front_at : (k : ℕ) → k < 3 → get_or (version ∷ nodes ∷ size ∷ []) k 0 ≡ get_or (row text v) k 0
  front_at zero h = refl
  front_at (suc zero) h = held.nodes_are
  front_at (suc (suc zero)) h = held.size_is
  front_at (suc (suc (suc k))) h = absurd (omega arith)

  pub word_at_lem : (k : ℕ) → 3 ≤ k → k < 3 + 6 * nodes → word_at t ((k - 3) / 6) ((k - 3) % 6) ≡ get_or (row text v) k 0
  word_at_lem k l h =
      let j = (k - 3) / 6 * node_words + (k - 3) % 6 in
      let e : suc (suc (suc (k - 3))) ≡ k = omega arith in
      sym (get_or-take (node_words * nodes) t j 0 (omega arith))
      ∙ ap (λ (l : List ℕ). get_or l j 0) held.words_are
      ∙ sym (six_at (table v) (k - 3) (omega (arith, held.nodes_are)))
      ∙ ap (λ (i : ℕ). get_or (row text v) i 0) e

  -- the byte at a place in the mark, and behind it
  pub mark_at : (at : ℕ) → at < 3 → get_or mark at 0 ≡ get_or (file text v) at 0
  mark_at zero h = refl
  mark_at (suc zero) h = refl
  mark_at (suc (suc zero)) h = refl
  mark_at (suc (suc (suc at))) h = absurd (omega arith)

  pub number_at : (at : ℕ) → 3 ≤ at → at < 9 + 12 * nodes →
      get_or (number 2 (get_or (row text v) ((at - 3) / 2) 0)) ((at - 3) % 2) 0 ≡ get_or (file text v) at 0
  number_at at l h =
      let e : suc (suc (suc (at - 3))) ≡ at = omega arith in
      sym (byte_at (row text v) (at - 3) (omega (arith, held.nodes_are, six_length (table v))))
      ∙ ap (λ (i : ℕ). get_or (file text v) i 0) e
