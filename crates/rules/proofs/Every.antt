-- Laws of properties that every element has. Assumes nothing.
use mathlib.Core.List.{List, ◌∷◌, ◌++◌}
use Prim.Native.Nat.{ℕ, zero, suc, ◌<◌}
use native.Mathlib.Nat.{not-suc-le-zero}
use native.Mathlib.Omega.{arith}
use lib.ListN.{length, get_or}
use Rattle.rules.specs.Every.{Every, none, also}

module _ {A : Type 0} {P : A → Type 0} where
  pub every_first : {x : A} {xs : List A} → Every P (x ∷ xs) → P x
  every_first (also p e) = p

  pub every_rest : {x : A} {xs : List A} → Every P (x ∷ xs) → Every P xs
  every_rest (also p e) = e

  pub every_append : {xs ys : List A} → Every P xs → Every P ys → Every P (xs ++ ys)
  every_append none f = f
  every_append (also p e) f = also p (every_append e f)

  -- the one at a place
  pub every_at : {xs : List A} → Every P xs → (d : A) (i : ℕ) → i < length xs → P (get_or xs i d)
  every_at none d i h = absurd (not-suc-le-zero h)
  every_at (also p e) d zero h = p
  every_at (also p e) d (suc i) h = every_at e d i (omega (arith, h))

pub every_map : {A : Type 0} {P Q : A → Type 0} → ((x : A) → P x → Q x) → {xs : List A} → Every P xs → Every Q xs
every_map f none = none
every_map f (also {x = x} p e) = also (f x p) (every_map f e)
