-- `blob_value::value::write` meets its contract. Assumes nothing.
use native.Mathlib.Omega.{arith}
use borrow.Author.Rules.{rules}
use Rattle.blob_value.proofs.Pieces.{write_alone, units_there, write_behind}
use Rattle.blob_value.proofs.value.write.Goals as goal

pub returns-then-piece-eq3 : goal.returns-then-piece-eq3
returns-then-piece-eq3 c = write_alone _ c.args.mark c.requires c.if-piece-eq3.true (omega arith)

pub units-requires : goal.units-requires
units-requires c = units_there _ c.args.mark c.requires c.space-start.ensures c.if-piece-eq3.false

pub returns : goal.returns
returns c = write_behind _ c.args.mark c.requires c.space-start.ensures c.new-out.ensures c.units.ensures (search rules)
