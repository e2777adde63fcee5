-- Every element of a list has the property. Assumes nothing.
use Rattle.std.specs.Prelude.{List, [], ◌∷◌}

pub data Every {A : Type 0} (P : A → Type 0) : List A → Type 0 where
  none : Every P []
  also : {x : A} {xs : List A} → P x → Every P xs → Every P (x ∷ xs)
