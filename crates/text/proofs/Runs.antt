-- A run of bytes of a class ends at the first byte that is of another, or at the end of the text. Assumes nothing.
use mathlib.Core.Path.{◌≡◌, sym}
use mathlib.Core.Bool.{true, false}
use mathlib.Core.List.{List}
use Prim.Native.Nat.{ℕ, ◌+◌, ◌≤◌, ◌<◌}
use native.Mathlib.Omega.{arith}
use lib.ListN.{length, get_or}
use Rattle.rules.specs.Class.{Class, has}
use Rattle.rules.specs.Rule.{one, many, Takes, Longest}
use Rattle.rules.proofs.Bools.{clash}
use Rattle.rules.proofs.Chains.{longest, snoc}
use Rattle.rules.proofs.Matches.{one_at, byte_at}
use Rattle.lexicon.proofs.Spaces.{byte_single}

-- how a run of bytes of the class goes on, and where it ends
module _ (c : Class) {text : List ℕ} {at i : ℕ} where
  pub passes : i < length text → Takes text (many (one c)) at i → true ≡ has c (get_or text i 0) → Takes text (many (one c)) at (i + 1)
  passes h u a = snoc u (one_at (h, sym a))

  pub ends : Takes text (many (one c)) at i → false ≡ has c (get_or text i 0) → Longest text (many (one c)) at i
  ends u a = longest (byte_single c) u record { none = λ x. clash (byte_at x).1 (sym a) }

  pub ends_beyond : length text ≤ i → Takes text (many (one c)) at i → Longest text (many (one c)) at i
  ends_beyond h u = longest (byte_single c) u record { none = λ x. omega (arith, (byte_at x).0) }
