-- The invariant of the loop of `text::digit::counted`: the number is that of the digits so far.
use mathlib.Core.Path.{◌≡◌}
use mathlib.Core.List.{foldl}
use Rattle.std.proofs.Common.{take}
use Rattle.lexicon.specs.Bytes.{radix}
use Rattle.lexicon.specs.Limited.{limited}
use Rattle.text.proofs.digit.counted.Given as goal

abbrev pub invariant-loop-b : goal.invariant-loop-b
invariant-loop-b l = l.number ≡ foldl (limited (radix l.fn.base)) l.sum (take l.b-index l.digits)
