-- `look::end::ended` meets its contract: what comes behind the value tells the answer. Assumes nothing.
use Rattle.look.proofs.Looking.{not_ended}
use Rattle.look.specs.Ends.{at_end}
use Rattle.look.proofs.end.ended.Goals as goal

pub returns-in_default : goal.returns-in_default
returns-in_default c = not_ended _ c.next-then.ensures c.in_default.not-End c.beyond.ensures

pub returns : goal.returns
returns c = at_end c.in-End.ensures
