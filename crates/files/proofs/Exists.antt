-- Where a text has a reading, the writer has an answer for every buffer and the checker for every file. Assumes nothing.
use mathlib.Core.Path.{◌≡◌, ◌∙◌}
use mathlib.Core.Logic.{◌⊎◌, inl, inr}
use mathlib.Core.List.{List}
use mathlib.Core.Option.{Option, none, some}
use Prim.Native.Nat.{ℕ, ◌≤◌}
use native.Mathlib.Omega.{arith}
use lib.ListN.{length}
use Rattle.grammar.specs.Tree.{Value}
use Rattle.decisions.proofs.Tests.{denied, either, settled, at_most, below, same_as_lem}
use Rattle.reading.specs.declared.Answer.{Answer}
use Rattle.reading.specs.declared.Rules.{Rules}
use Rattle.reading.specs.Tests.{First}
use Rattle.reading.proofs.Tests.{None, first_or_none}
use Rattle.files.specs.File.{file}
use Rattle.files.specs.Writes.{Read, Writes, no_room, written}
use Rattle.files.specs.Checks.{Stored, tests, Checks, refused, accepted}
use Rattle.files.proofs.Determined.{no_tree, one_file}

module _ (rules : Rules) (text : List ℕ) {a : Answer} where
  pub some_writing : {t : Option Value} → Read rules text a t → (lent : List ℕ) → (r : Answer) × (left : List ℕ) × Writes rules text lent r left
  some_writing {t = none} x lent = (_, _, Writes.refused x)
  some_writing {t = some v} x lent = by (settled (at_most (length (file text v)) (length lent)))
    where
      by : (length (file text v) ≤ length lent) ⊎ (length (file text v) ≤ length lent → ⊥) → (r : Answer) × (left : List ℕ) × Writes rules text lent r left
      by (inl h) = (_, _, written x h)
      by (inr n) = (_, _, no_room x (omega (arith, n)))

  stored_or_not : {t : Option Value} → Read rules text a t → (bytes : List ℕ) → Stored rules text bytes ⊎ (Stored rules text bytes → ⊥)
  stored_or_not {t = none} x bytes = inr λ s. no_tree rules text x s.read
  stored_or_not {t = some v} x bytes = by (settled (same_as_lem (file text v) bytes))
    where
      by : (bytes ≡ file text v) ⊎ (bytes ≡ file text v → ⊥) → Stored rules text bytes ⊎ (Stored rules text bytes → ⊥)
      by (inl e) = inl record { read_as = a; tree = v; read = x; bytes_are = e }
      by (inr n) = inr λ s. n (s.bytes_are ∙ one_file rules text s.read x)

  pub some_checking : {t : Option Value} → Read rules text a t → (bytes : List ℕ) → (r : Answer) × Checks rules text bytes r
  some_checking x bytes = by (stored_or_not x bytes)
    where
      first : (Stored rules text bytes → ⊥) → ((n : ℕ) × First (tests rules text bytes) n) ⊎ None (tests rules text bytes) → (r : Answer) × Checks rules text bytes r
      first n (inl f) = (_, refused f.1)
      first n (inr f) = absurd (f.1.1.0 n)

      by : Stored rules text bytes ⊎ (Stored rules text bytes → ⊥) → (r : Answer) × Checks rules text bytes r
      by (inl s) = (_, accepted s)
      by (inr n) =
          first n (first_or_none (tests rules text bytes) (settled (either (denied (same_as_lem _ _)) (below _ _)), (settled (denied (same_as_lem _ _)), (inl n, tt))))
