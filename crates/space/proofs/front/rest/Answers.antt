-- `space::front::rest` meets its contract: the bytes up to the newline, and then it if it stands there. Assumes nothing.
use Rattle.space.proofs.Lines.{line_ended, line_unended}
use Rattle.space.proofs.front.rest.Goals as goal

pub returns-then-stands : goal.returns-then-stands
returns-then-stands c = line_ended c.run-end.ensures (c.stands.ensures.true_holds c.if-stands.true)

pub returns-else-stands : goal.returns-else-stands
returns-else-stands c = line_unended c.run-end.ensures c.stands.ensures c.if-stands.false
