-- `stored::stored` meets its contract. Assumes nothing.
use mathlib.Core.Path.{refl}
use Rattle.rules.proofs.Tests.{says_no}
use Rattle.reading.specs.Sizes.{old_rules}
use Rattle.stored.proofs.Tables.{read_refused, read_accepted}
use Rattle.stored.proofs.Calls.{says_stored, no_file}
use Rattle.stored.proofs.stored.Goals as goal

pub returns-then-answer-ne0 : goal.returns-then-answer-ne0
returns-then-answer-ne0 c = says_no (no_file (read_refused old_rules _ _ refl c.reading-answer.ensures c.if-answer-ne0.true))

pub invariant_of-written : goal.invariant_of-written
invariant_of-written c =
    let found = read_accepted old_rules _ _ refl c.reading-answer.ensures c.if-answer-ne0.false in
    record { few = found.few; held = found.within }

pub returns : goal.returns
returns c =
    let found = read_accepted old_rules _ _ refl c.reading-answer.ensures c.if-answer-ne0.false in
    says_stored found (c.is.ensures _ found.tree found.held)
