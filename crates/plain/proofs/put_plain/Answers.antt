-- `plain::put_plain` meets its contract. Assumes nothing.
use borrow.Author.Rules.{rules}
use Rattle.buffer.proofs.Writing.{part_in}
use Rattle.plain.proofs.put_plain.Goals as goal

pub returns : goal.returns
returns c = part_in c.new-out.ensures c.write_node.ensures (search rules)
