-- `tree::read::tokens` meets its contract: the text is judged, then written if it fits. Assumes nothing.
use Rattle.tree.proofs.Wholes.{told_refused, told_full, told_written}
use Rattle.tree.proofs.read.tokens.Goals as goal

pub returns-in_default : goal.returns-in_default
returns-in_default c = told_refused _ _ _ _ c.requires.1 c.whole-judged.ensures c.unwrap_err.ensures

pub returns-then-nodes-room : goal.returns-then-nodes-room
returns-then-nodes-room c = told_full _ _ _ _ c.requires.1 c.whole-judged.ensures c.in-Ok.is c.room.ensures c.if-nodes-room.true c.no_room.ensures

pub returns : goal.returns
returns c = told_written _ _ _ _ c.requires.1 c.whole-judged.ensures c.in-Ok.is c.room.ensures c.if-nodes-room.false c.whole-written.ensures c.accepted.ensures
