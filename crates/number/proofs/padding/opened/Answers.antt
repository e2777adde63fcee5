-- `number::padding::opened` meets its contract. Assumes nothing.
use Rattle.std.proofs.Common.{rules}
use Rattle.lexicon.proofs.Paddings.{opened_one, opened_two, opened_unfit}
use Rattle.number.proofs.padding.opened.Goals as goal

pub returns-then-value-eq0 : goal.returns-then-value-eq0
returns-then-value-eq0 c = search (opened_one, rules)

pub returns-then-value-eq0-2 : goal.returns-then-value-eq0-2
returns-then-value-eq0-2 c = search (opened_two, rules)

pub returns : goal.returns
returns c = search (opened_unfit, rules)
