-- `both::read_both_old` meets its contract: the demands, from the contracts of the two readings by the old rules. Assumes nothing.
use borrow.Author.Rules.{rules}
use Rattle.demands.proofs.Demands.{all_demands}
use Rattle.both.proofs.read_both_old.Goals as goal

pub returns : goal.returns
returns c = search (all_demands, rules)
