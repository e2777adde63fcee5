-- The answers of both calls, by what the reading found. Assumes nothing.
use mathlib.Core.Path.{◌≡◌, refl, sym, subst, ◌∙◌}
use mathlib.Core.Bool.{Bool}
use mathlib.Core.Logic.{inl, inr}
use mathlib.Core.List.{List, ◌++◌}
use mathlib.Core.Option.{Option, none}
use Prim.Native.Nat.{ℕ, ◌+◌, ◌*◌, ◌≤◌, ◌<◌}
use native.Mathlib.Omega.{arith}
use lib.ListN.{length, replicate, drop}
use Rattle.rules.specs.Test.{Says}
use Rattle.decisions.proofs.Tests.{by}
use Rattle.buffer.specs.Puts.{Puts}
use Rattle.buffer.proofs.Puts.{puts_start}
use Rattle.reading.specs.declared.Answer.{Answer}
use Rattle.reading.specs.declared.Rules.{Rules}
use Rattle.reading.specs.Answers.{Answers, Reading, answer, nodes_of}
use Rattle.grammar.specs.Tree.{Value}
use Rattle.grammar.specs.Nodes.{table_words, node_words}
use Rattle.reading.specs.Sizes.{base}
use Rattle.files.specs.File.{file}
use Rattle.files.specs.Writes.{Read, Writes, no_room, written}
use Rattle.files.specs.Checks.{Unmarked, OtherVersion, Stored, Checks, refused, accepted}
use Rattle.files.proofs.Determined.{no_tree, one_file}
use Rattle.stored.proofs.Loops.{told_length}
use Rattle.stored.proofs.Tables.{Found, read_accepted}

module _ {rules : Rules} {text left : List ℕ} {a : Answer} (found : Found rules text left a) where
  -- ---- the writer

  too_short : {lent : List ℕ} (n : ℕ) → n ≡ 9 + 12 * a.count → length lent < n → Writes rules text lent (answer 8 (length text) n) lent
  too_short {lent} n e h =
      let m : length (file text found.tree) ≡ n = told_length found.held ∙ sym e in
      subst (λ (k : ℕ). Writes rules text lent (answer 8 (length text) k) lent) m (no_room found.read (omega (arith, h, m)))

  pub all_written : {lent kept : List ℕ} {b : Answer} {k : ℕ} (n : ℕ) → b ≡ answer 0 (length text) n → n ≡ 9 + 12 * a.count → n ≤ length lent →
      Puts lent 0 (file text found.tree) kept k → Writes rules text lent b kept
  all_written {lent} {kept} n is e h p =
      let m : length (file text found.tree) ≡ n = told_length found.held ∙ sym e in
      let fits : length (file text found.tree) ≤ length lent = omega (arith, h, m) in
      subst (λ (b : Answer). Writes rules text lent b kept) (sym is)
      (subst (λ (k : ℕ). Writes rules text lent (answer 0 (length text) k) kept) m
      (subst (λ (l : List ℕ). Writes rules text lent (answer 0 (length text) (length (file text found.tree))) l) (sym (puts_start p fits))
      (written found.read fits)))

  -- ---- the checker

  pub says_stored : {bytes : List ℕ} {b : Bool} → Says b (bytes ≡ file text found.tree) → Says b (Stored rules text bytes)
  says_stored s =
      by (λ e. record { read_as = a; tree = found.tree; read = found.read; bytes_are = e }) (λ x. x.bytes_are ∙ one_file rules text x.read found.read) s

-- the same by what the reader promises of the longest table: a search finds it, whatever test shows that the file does not fit
pub too_short_read : {text lent : List ℕ} {a b : Answer} {tree : Option Value} → Reading base text base.nodes 2 a tree → a.number ≡ 0 →
    length lent < 9 + 12 * a.count → b ≡ answer 8 (length text) (9 + 12 * a.count) → Writes base text lent b lent
too_short_read {text} {lent} {a} {b} {tree} r e h is =
    let x : Answers base text (replicate 7168 0) 2 a (table_words (nodes_of tree) ++ drop (node_words * length (nodes_of tree)) (replicate 7168 0)) =
    record { tree = tree; reading = r; left_is = refl } in
    subst (λ (b : Answer). Writes base text lent b lent) (sym is) (too_short (read_accepted base text _ refl x e) _ refl h)

-- a text that the reader refuses has no file
pub no_file : {rules : Rules} {text bytes : List ℕ} {a : Answer} → Read rules text a none → Stored rules text bytes → ⊥
no_file {rules} {text} r s = no_tree rules text r s.read

module _ {rules : Rules} {text bytes : List ℕ} {a : Answer} where
  -- the refusals in their order
  pub twelve : a ≡ answer 12 0 0 → Unmarked bytes → Checks rules text bytes a
  twelve e u = subst (Checks rules text bytes) (sym e) (refused (inl (refl, u)))

  pub thirteen : a ≡ answer 13 0 0 → (Unmarked bytes → ⊥) → OtherVersion bytes → Checks rules text bytes a
  thirteen e m v = subst (Checks rules text bytes) (sym e) (refused (inr (m, inl (refl, v))))

  pub fourteen : a ≡ answer 14 0 0 → (Unmarked bytes → ⊥) → (OtherVersion bytes → ⊥) → (Stored rules text bytes → ⊥) → Checks rules text bytes a
  fourteen e m v n = subst (Checks rules text bytes) (sym e) (refused (inr (m, inr (v, inl (refl, n)))))

  pub checked : a ≡ answer 0 (length text) (length bytes) → Stored rules text bytes → Checks rules text bytes a
  checked e s = subst (Checks rules text bytes) (sym e) (accepted s)
