-- `leaf::bare::dropped` meets its contract. Assumes nothing.
use mathlib.Core.Path.{◌≡◌, refl}
use mathlib.Core.Logic.{⊎_elim}
use mathlib.Core.Bool.{true}
use Prim.Native.Nat.{ℕ}
use native.Mathlib.Omega.{arith}
use Rattle.rules.specs.Class.{has}
use Rattle.rules.proofs.Choices.{as_this, as_two}
use Rattle.form.specs.Bare.{dropped}
use Rattle.leaf.proofs.Literals.{not_dropped}
use Rattle.leaf.proofs.bare.dropped.Goals as goal

-- below Tab
pub returns-in_default : goal.returns-in_default
returns-in_default c = not_dropped _ (λ e. omega (arith, e)) (λ e. omega (arith, e)) (λ e. omega (arith, e)) (λ e. omega (arith, e)) (λ e. omega (arith, e)) (λ e. omega (arith, e))

-- between Newline and `_`
pub returns-in_default-2 : goal.returns-in_default-2
returns-in_default-2 c =
    not_dropped _ (λ e. omega (arith, e)) (λ e. omega (arith, e)) (λ e. grind (arith, e)) (λ e. grind (arith, e)) (λ e. omega (arith, e)) (λ e. omega (arith, e))

-- above the mark of a comment
pub returns-in_default-3 : goal.returns-in_default-3
returns-in_default-3 c = not_dropped _ (λ e. omega (arith, e)) (λ e. omega (arith, e)) (λ e. omega (arith, e)) (λ e. omega (arith, e)) (λ e. omega (arith, e)) (λ e. omega (arith, e))

pub returns-in-9 : goal.returns-in-9
unfolding has
returns-in-9 c = let P : ℕ → Type 0 = λ b. true ≡ has dropped b in
    ⊎_elim (λ e. as_this P _ 0x0D refl e) (λ e. as_this P _ 0x20 refl e) c.in-9.is

pub returns-in-9-2 : goal.returns-in-9-2
unfolding has
returns-in-9-2 c = as_two (λ (b : ℕ). true ≡ has dropped b) c.args.b 0x09 refl refl (omega arith) (omega arith)

pub returns-in-9-3 : goal.returns-in-9-3
unfolding has
returns-in-9-3 c = as_two (λ (b : ℕ). true ≡ has dropped b) c.args.b 0x5F refl refl (omega arith) (omega arith)
