-- `leaf::bare::bare` meets its contract: what is written and what is left of the literal are the whole. Assumes nothing.
use lib.ListN.{drop}
use Rattle.form.specs.Bare as Bare
use Rattle.leaf.specs.Bare.{where_of}
use Rattle.leaf.proofs.Rows.{Going}
use Rattle.leaf.proofs.bare.bare.Given as goal

abbrev pub invariant-loop-b : goal.invariant-loop-b
invariant-loop-b l = Going l.initial.out (Bare.bare l.literal) l.out (Bare.bare_from (where_of l.place) (drop l.b-index l.literal))
