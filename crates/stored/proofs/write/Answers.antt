-- `stored::write` meets its contract. Assumes nothing.
use mathlib.Core.Path.{refl}
use native.Mathlib.Omega.{arith}
use borrow.Author.Rules.{rules}
use Rattle.reading.specs.Sizes.{base}
use Rattle.buffer.proofs.Appending.{put_in}
use Rattle.files.specs.Writes.{refused}
use Rattle.stored.proofs.Tables.{read_refused, read_accepted}
use Rattle.stored.proofs.Calls.{all_written}
use Rattle.stored.proofs.write.Goals as goal

pub returns-then-answer-ne0 : goal.returns-then-answer-ne0
returns-then-answer-ne0 c = refused (read_refused base _ _ refl c.read-answer.ensures c.if-answer-ne0.true)

pub invariant_of-file : goal.invariant_of-file
invariant_of-file c =
    let found = read_accepted base _ _ refl c.read-answer.ensures c.if-answer-ne0.false in
    record { few = found.few; held = found.within }

pub returns : goal.returns
returns c =
    let found = read_accepted base _ _ refl c.read-answer.ensures c.if-answer-ne0.false in
    all_written found _ c.accepted.ensures c.len-needed.ensures (omega arith)
    (put_in c.new-out.ensures (c.write.ensures.wrote _ found.tree found.held) (search rules))
