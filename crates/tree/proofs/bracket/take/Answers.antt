-- `tree::bracket::take` meets its contract: one law for each move; the numbers are found. Assumes nothing.
use Rattle.tree.proofs.Turns.{take_leading, take_tuple, take_count, take_deeper, take_shut, take_close, take_none}
use Rattle.tree.proofs.bracket.take.Goals as goal

pub returns-in-To-clause-turns : goal.returns-in-To-clause-turns
returns-in-To-clause-turns c = take_leading c.in-To.is c.lead.auto.table c.lead.ensures

pub returns-in-Tuple-clause-turns : goal.returns-in-Tuple-clause-turns
returns-in-Tuple-clause-turns c = take_tuple c.in-Tuple.is c.tuple.auto.table c.tuple.ensures

pub returns-in-Count-clause-turns : goal.returns-in-Count-clause-turns
returns-in-Count-clause-turns c = take_count c.in-Count.is c.count.auto.table c.count.ensures

pub returns-in-Deeper-clause-turns : goal.returns-in-Deeper-clause-turns
returns-in-Deeper-clause-turns c = take_deeper c.in-Deeper.is c.deeper.ensures

pub returns-in-Shut-clause-turns : goal.returns-in-Shut-clause-turns
returns-in-Shut-clause-turns c = take_shut c.in-Shut.is c.shut.auto.table c.shut.ensures

pub returns-in-Close-clause-turns : goal.returns-in-Close-clause-turns
returns-in-Close-clause-turns c = take_close c.in-Close.is c.close.ensures

pub returns-in-Value-clause-turns : goal.returns-in-Value-clause-turns
returns-in-Value-clause-turns c = take_none c.in-Value.is c.wrong.ensures
