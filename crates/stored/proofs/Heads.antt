-- Mark and version by their bytes. Assumes nothing.
use mathlib.Core.Logic.{inr}
use mathlib.Core.List.{List}
use Prim.Native.Nat.{ℕ, ◌≤◌, ◌<◌}
use native.Mathlib.Omega.{arith}
use lib.ListN.{length}
use Rattle.files.specs.Checks.{Unmarked}

-- what is not refused for its mark has five bytes
pub long_enough : (bytes : List ℕ) → (Unmarked bytes → ⊥) → 5 ≤ length bytes
long_enough bytes m =
    let n : length bytes < 5 → ⊥ = λ h. m (inr h) in
    omega (arith, n)
