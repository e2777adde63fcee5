-- `begin::Reader::head_open` meets its contract. Assumes nothing.
use Rattle.begin.specs.Begins.{headed, head_newer}
use Rattle.begin.proofs.Reader.head_open.Goals as goal

pub returns-in_default : goal.returns-in_default
returns-in_default c = λ e w. rw c.refused.ensures (head_newer _ _ e w c.in_default.ensures)

pub returns : goal.returns
returns c = λ e w. headed _ _ _ e w c.in-Some.ensures c.deeper.ensures
