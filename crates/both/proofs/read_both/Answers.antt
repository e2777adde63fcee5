-- `both::read_both` meets its contract: the demands, from the contracts of the two readings. Assumes nothing.
use borrow.Author.Rules.{rules}
use Rattle.demands.proofs.Demands.{all_demands}
use Rattle.both.proofs.read_both.Goals as goal

pub returns : goal.returns
returns c = search (all_demands, rules)
