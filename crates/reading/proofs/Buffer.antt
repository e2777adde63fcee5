-- What is handed back in a lent buffer is one, and every buffer has an answer. Assumes nothing.
use mathlib.Core.Path.{◌≡◌, refl}
use mathlib.Core.List.{List}
use Prim.Native.Nat.{ℕ, ◌≤◌}
use native.Mathlib.Decide.{dec_le}
use native.Mathlib.Omega.{arith}
use lib.ListN.{length}
use Rattle.reading.specs.declared.Answer.{Answer}
use Rattle.reading.specs.Buffer.{Fills, no_room, written}

module _ (lent : List ℕ) (size : ℕ) (bytes : List ℕ) where
  pub one_filling : {r s : Answer} {t u : List ℕ} → Fills lent size bytes r t → Fills lent size bytes s u → (r ≡ s) × (t ≡ u)
  one_filling (no_room h) (no_room g) = (refl, refl)
  one_filling (no_room h) (written g) = absurd (omega (arith, h, g))
  one_filling (written h) (no_room g) = absurd (omega (arith, h, g))
  one_filling (written h) (written g) = (refl, refl)

  pub some_filling : (r : Answer) × (left : List ℕ) × Fills lent size bytes r left
  some_filling = by (dec_le (length bytes) (length lent))
    where
      by : Dec (length bytes ≤ length lent) → (r : Answer) × (left : List ℕ) × Fills lent size bytes r left
      by (yes h) = (_, _, written h)
      by (no n) = (_, _, no_room (omega (arith, n)))
