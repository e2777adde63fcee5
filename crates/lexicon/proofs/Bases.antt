-- A choice between the four bases, and the number of their digits. Assumes nothing.
use mathlib.Core.Path.{◌≡◌, refl}
use mathlib.Core.List.{List}
use Prim.Native.Nat.{ℕ}
use Rattle.rules.specs.Rule.{Rule, ◌or◌, Takes, left, right}
use Rattle.lexicon.specs.declared.Base.{Base}
use Rattle.lexicon.specs.declared.Base.TheVariants.{Two, Eight, Ten, Sixteen}
use Rattle.lexicon.specs.Bytes.{digit_set_of, radix}
use Rattle.lexicon.specs.Parts.{size}

-- the digits of a base are as many as its radix
pub size_radix : (b : Base) → size (digit_set_of b) ≡ radix b
size_radix Two = refl
size_radix Eight = refl
size_radix Ten = refl
size_radix Sixteen = refl

abbrev any_base : (Base → Rule) → Rule
any_base r = r Two or r Eight or r Ten or r Sixteen

module _ {text : List ℕ} (r : Base → Rule) where
  -- a match is one of some base
  pub some_base : {i j : ℕ} → Takes text (any_base r) i j → (b : Base) × Takes text (r b) i j
  some_base (left t) = (Two, t)
  some_base (right (left t)) = (Eight, t)
  some_base (right (right (left t))) = (Ten, t)
  some_base (right (right (right t))) = (Sixteen, t)

  pub any_base_lem : (b : Base) {i j : ℕ} → Takes text (r b) i j → Takes text (any_base r) i j
  any_base_lem Two t = left t
  any_base_lem Eight t = right (left t)
  any_base_lem Ten t = right (right (left t))
  any_base_lem Sixteen t = right (right (right t))
