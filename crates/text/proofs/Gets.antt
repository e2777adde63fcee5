-- What `get` lends at a place: the byte that stands there, or nothing behind the last. Assumes nothing.
use mathlib.Core.Path.{◌≡◌}
use mathlib.Core.List.{List}
use Prim.Native.Nat.{ℕ, ◌≤◌, ◌<◌}
use native.Mathlib.Omega.{arith}
use lib.ListN.{length, get_or}
use Rattle.std.proofs.Common.{Some, None, Bor}
use Rattle.std.specs.Slice.{IsItemAt}

module _ (text : List ℕ) (i : ℕ) where
  pub got : (x : Bor ℕ) → IsItemAt text i (Some x) → (i < length text) × (x.now ≡ get_or text i 0)
  got x g = (g.3.0, g.4 (omega arith) 0)

  pub not_got : IsItemAt text i None → length text ≤ i
  not_got g = omega (arith, g.3)
