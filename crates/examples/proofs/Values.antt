-- The texts with bad values read as the table says, by one computed test. Assumes nothing.
use mathlib.Core.Path.{◌≡◌, refl}
use mathlib.Core.Bool.{true}
use native.Mathlib.Omega.{arith}
use Rattle.rules.specs.Class.{has}
use Rattle.reading.specs.Sizes.{base}
use Rattle.examples.specs.Starred.{AllHold}
use Rattle.examples.specs.Values.{values}
use Rattle.examples.proofs.Starred.{all_agree, all_hold}

tested : all_agree base values ≡ true
unfolding has
tested = refl

pub values_hold : AllHold base values
values_hold = all_hold base (omega arith) values tested
