-- The invariant of the loop of `blob_value::spread::spread`: the parts are put but for the last.
use Rattle.blob_value.specs.Marks.{size_of}
use Rattle.blob_value.proofs.Spreads.{Spreading}
use Rattle.blob_value.proofs.spread.spread.Given as goal

abbrev pub invariant-loop-behind : goal.invariant-loop-behind
invariant-loop-behind l = Spreading (size_of l.kind) l.count l.number l.initial.out l.behind l.out
