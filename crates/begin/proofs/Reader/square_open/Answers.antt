-- `begin::Reader::square_open` meets its contract. Assumes nothing.
use borrow.Author.Rules.{rules}
use Rattle.begin.specs.Begins.{square, square_newer}
use Rattle.begin.proofs.Reader.square_open.Goals as goal

pub returns-then-not-self : goal.returns-then-not-self
returns-then-not-self c = λ e. rw c.refused.ensures (square_newer e (search rules))

pub returns : goal.returns
returns c = λ e. square e (search rules) c.deeper.ensures
