-- `stored::file::File::number` meets its contract. Assumes nothing.
use native.Mathlib.Omega.{arith}
use Rattle.stored.proofs.Bytes.{front_at, word_at_lem}
use Rattle.stored.proofs.file.File.number.Goals as goal

pub returns-then-k-lt3 : goal.returns-then-k-lt3
returns-then-k-lt3 c text v h = front_at h c.args.k (omega arith)

pub returns : goal.returns
returns c text v h = word_at_lem h c.args.k (omega arith) (omega arith)
