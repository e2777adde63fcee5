-- `begin::Reader::round_open` meets its contract. Assumes nothing.
use Rattle.begin.specs.Begins.{round}
use Rattle.begin.proofs.Reader.round_open.Goals as goal

pub returns-in-Other : goal.returns-in-Other
returns-in-Other c = λ e. round _ e c.in-Other.ensures.0 c.in-Other.ensures.1 c.deeper.ensures
