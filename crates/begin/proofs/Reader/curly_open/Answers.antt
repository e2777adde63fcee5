-- `begin::Reader::curly_open` meets its contract. Assumes nothing.
use Rattle.begin.specs.Begins.{curly}
use Rattle.begin.proofs.Reader.curly_open.Goals as goal

pub returns : goal.returns
returns c = λ e. curly e c.deeper.ensures
