-- The base-64 Blobs read as the table says, by one computed test. Assumes nothing.
use mathlib.Core.Path.{◌≡◌, refl}
use mathlib.Core.Bool.{true}
use native.Mathlib.Omega.{arith}
use Rattle.rules.specs.Class.{has}
use Rattle.lexicon.specs.Parts.{sextet}
use Rattle.lexicon.proofs.Paddings.{next_state_of, pad, opened}
use Rattle.reading.specs.Sizes.{base}
use Rattle.examples.specs.Starred.{AllHold}
use Rattle.examples.specs.Padding.{padding}
use Rattle.examples.proofs.Starred.{all_agree, all_hold}

tested : all_agree base padding ≡ true
unfolding has next_state_of pad opened sextet
tested = refl

pub padding_hold : AllHold base padding
padding_hold = all_hold base (omega arith) padding tested
