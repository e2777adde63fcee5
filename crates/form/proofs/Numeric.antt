-- Bytes of numbers: they stay when a literal is made bare. Assumes nothing.
use mathlib.Core.Path.{◌≡◌, refl}
use mathlib.Core.Bool.{true}
use mathlib.Core.List.{List}
use Prim.Native.Nat.{ℕ}
use Rattle.rules.specs.Class.{In, has}
use Rattle.rules.specs.Every.{Every, also}
use Rattle.rules.proofs.Every.{every_map}
use Rattle.rules.proofs.Classes.{apart, apart_span, includes, in_some, includes_in}
use Rattle.rules.proofs.Bools.{and_both}
use Rattle.form.specs.Bare.{dropped}
use Rattle.form.proofs.Fits.{all_in, numbers}
use Rattle.form.proofs.Strip.{Inked, no_byte_lem, not_has}
use Rattle.form.proofs.Bounded.{inner}

-- ---- bytes of numbers stay

pub numbers_stay : (b : ℕ) → In numbers b → Inked b
unfolding apart apart_span
numbers_stay b i = record { stays = not_has numbers dropped b refl i; no_quote = no_byte_lem numbers 0x22 b refl i; no_grave = no_byte_lem numbers 0x60 b refl i }

numbers_inner : (b : ℕ) → In numbers b → In inner b
unfolding includes in_some
numbers_inner b i = includes_in numbers inner b refl i

-- bytes all of which are of numbers
abbrev pub Numeric : List ℕ → Type 0
Numeric a = Every (In numbers) a

pub inked : {a : List ℕ} → Numeric a → Every Inked a
inked p = every_map numbers_stay p

pub numeric_inner : {a : List ℕ} → Numeric a → all_in inner a ≡ true
unfolding all_in
numeric_inner Every.none = refl
numeric_inner (also {x = b} i p) = and_both (has inner b) _ (numbers_inner b i) (numeric_inner p)
