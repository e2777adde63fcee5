-- `number::integer::number_at` meets its contract. Assumes nothing.
use Rattle.std.proofs.Common.{rules}
use Rattle.number.proofs.Marks.{number_answer}
use Rattle.number.proofs.integer.number_at.Goals as goal

pub returns : goal.returns
returns c = number_answer _ c.args.at c.marked.result c.or_else.result c.marked.ensures (search rules)
