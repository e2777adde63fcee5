-- How a run of eights of a class goes on, and where it ends. Assumes nothing.
use mathlib.Core.Path.{refl}
use mathlib.Core.Bool.{true, false}
use mathlib.Core.List.{List}
use Prim.Native.Nat.{ℕ, ◌+◌, ◌≤◌}
use native.Mathlib.Omega.{arith}
use lib.ListN.{length}
use Rattle.rules.specs.Test.{Says}
use Rattle.rules.specs.Class.{Class}
use Rattle.rules.specs.Rule.{many, Takes, Longest}
use Rattle.rules.proofs.Chains.{snoc, longest}
use Rattle.rules.proofs.Tests.{refuted}
use Rattle.lexicon.specs.Literals.{unit}
use Rattle.lexicon.proofs.Groups.{unit_single, unit_missed, unit_inside}

module _ {text : List ℕ} (c : Class) {i : ℕ} where
  pub goes_on : {at : ℕ} → Takes text (many (unit 8 c)) at i → Says true (Takes text (unit 8 c) i (i + 8)) → Takes text (many (unit 8 c)) at (i + 8)
  goes_on u s = snoc u (s.true_holds refl)

  pub ends : {at : ℕ} → Takes text (many (unit 8 c)) at i → Says false (Takes text (unit 8 c) i (i + 8)) → Longest text (many (unit 8 c)) at i
  ends u s = longest (unit_single 8 c) u (unit_missed 8 c (refuted s refl))

  pub ends_beyond : {at : ℕ} → length text ≤ i → Takes text (many (unit 8 c)) at i → Longest text (many (unit 8 c)) at i
  ends_beyond h u = longest (unit_single 8 c) u (unit_missed 8 c (λ t. let w = unit_inside 7 c t in omega (arith, h, w)))
