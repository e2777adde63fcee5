-- A test that has answered. Assumes nothing.
use mathlib.Core.Path.{◌≡◌, refl}
use mathlib.Core.Bool.{Bool, true, false, not, false≢true}
use mathlib.Core.List.{List}
use Prim.Native.Nat.{ℕ, ◌+◌}
use borrow.Author.Tests.{not-false}
use Rattle.rules.specs.Test.{Says}
use Rattle.rules.specs.Class.{Class}
use Rattle.rules.specs.Rule.{one, Takes, At}
use Rattle.rules.proofs.Bools.{clash}
use Rattle.rules.proofs.Matches.{one_at, byte_at}

pub says_no : {P : Type 0} → (P → ⊥) → Says false P
says_no n = record { true_holds = λ e. absurd (false≢true e); holds_true = λ p. absurd (n p) }

pub says_yes : {P : Type 0} → P → Says true P
says_yes p = record { true_holds = λ e. p; holds_true = λ q. refl }

pub refuted : {o : Bool} {P : Type 0} → Says o P → o ≡ false → P → ⊥
refuted s e p = clash (s.holds_true p) e

-- a negated test that failed
pub shown : {o : Bool} {P : Type 0} → Says o P → not o ≡ false → P
shown {o} s e = s.true_holds (not-false o e)

-- whether a byte of a class stands at a place
module _ {text : List ℕ} {c : Class} {i : ℕ} {o : Bool} where
  pub there : Says o (Takes text (one c) i (i + 1)) → o ≡ true → At text c i
  there s e = byte_at (s.true_holds e)

  pub not_there : Says o (Takes text (one c) i (i + 1)) → o ≡ false → At text c i → ⊥
  not_there s e a = refuted s e (one_at a)
