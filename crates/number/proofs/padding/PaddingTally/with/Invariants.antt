-- The invariant of the loop of `number::padding::Padding::with`: the state is that behind the characters so far.
use mathlib.Core.Path.{◌≡◌}
use mathlib.Core.List.{foldl}
use Rattle.std.proofs.Common.{take}
use Rattle.number.specs.Padding.{next_of}
use Rattle.number.proofs.padding.PaddingTally.with.Given as goal

abbrev pub invariant-loop-b : goal.invariant-loop-b
invariant-loop-b l = l.state ≡ foldl next_of l.fn.self (take l.b-index l.rest)
