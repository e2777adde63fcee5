-- The checker accepts exactly what the writer produces. Assumes nothing.
use mathlib.Core.Path.{◌≡◌, refl, sym, ap, subst}
use mathlib.Core.List.{List, ◌++◌}
use Prim.Native.Nat.{ℕ, ◌≤◌}
use native.Mathlib.Omega.{arith}
use lib.ListN.{length, take, drop}
use lib.Seq.{take-append_seam}
use Rattle.reading.specs.declared.Answer.{Answer}
use Rattle.reading.specs.declared.Rules.{Rules}
use Rattle.reading.specs.Answers.{answer}
use Rattle.reading.specs.Tests.{First}
use Rattle.reading.proofs.Tests.{no_number}
use Rattle.reading.proofs.Numbers.{refused_number}
use Rattle.files.specs.File.{file}
use Rattle.files.specs.Writes.{Writes, no_room, written}
use Rattle.files.specs.Checks.{Stored, tests, Checks, refused, accepted}
use Rattle.files.proofs.Determined.{one_checking}

module _ (rules : Rules) (text : List ℕ) where
  -- the writer's answer where it writes these bytes over the first of the buffer
  abbrev Produced : (bytes lent : List ℕ) → Type 0
  Produced bytes lent = Writes rules text lent (answer 0 (length text) (length bytes)) (bytes ++ drop (length bytes) lent)

  pub accepted_stored : {bytes : List ℕ} {r : Answer} → Checks rules text bytes r → r.number ≡ 0 → Stored rules text bytes
  accepted_stored {bytes} (refused f) e = absurd (no_number (tests rules text bytes) 0 refl (subst (First (tests rules text bytes)) e f))
  accepted_stored (accepted s) e = s

  pub stored_produced : {bytes : List ℕ} → Stored rules text bytes → (lent : List ℕ) → length bytes ≤ length lent → Produced bytes lent
  stored_produced s lent h =
      subst (λ (b : List ℕ). Produced b lent) (sym s.bytes_are) (written s.read (subst (λ (b : List ℕ). length b ≤ length lent) s.bytes_are h))

  pub written_accepted : {lent left : List ℕ} {r : Answer} → Writes rules text lent r left → r.number ≡ 0 → Checks rules text (take r.count left) r
  written_accepted (Writes.refused x) e = absurd (refused_number rules text x e)
  written_accepted (no_room x h) e = absurd (omega (arith, e))
  written_accepted {lent} (written {v = v} x h) e =
      let f = file text v in
      subst (λ (b : List ℕ). Checks rules text b (answer 0 (length text) (length f))) (sym (take-append_seam f (drop (length f) lent)))
      (accepted (record { read_as = _; tree = v; read = x; bytes_are = refl }))

  -- a buffer just as long is enough to see it
  pub produced_accepted : {bytes : List ℕ} {r : Answer} → Produced bytes bytes → Checks rules text bytes r → r.number ≡ 0
  produced_accepted {bytes} w c =
      let seam = take-append_seam bytes (drop (length bytes) bytes) in
      ap (λ (a : Answer). a.number) (one_checking rules text c (subst (λ (b : List ℕ). Checks rules text b (answer 0 (length text) (length bytes))) seam (written_accepted w refl)))
