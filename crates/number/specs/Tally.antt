-- A number with a digit more. Assumes nothing.
use Rattle.std.specs.Prelude.{ℕ}
use Rattle.lexicon.specs.Bytes.{radix}
use Rattle.lexicon.specs.Limited.{limited}
use Rattle.number.specs.declared.tally.Value.{Value}

-- its value counted on up to the limit
abbrev pub value_more : Value → ℕ → Value
value_more v b = record { base = v.base; value = limited (radix v.base) v.value b }
