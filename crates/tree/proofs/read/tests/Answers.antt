-- `tree::read::tests` meets its contract: the tests over the whole text, then the tokens. Assumes nothing.
use native.Mathlib.Omega.{arith}
use borrow.Author.Rules.{rules}
use Rattle.tree.proofs.Wholes.{read_no_level, read_long, read_bad, unformed_at}
use Rattle.tree.proofs.read.tests.Goals as goal

pub returns-in_default : goal.returns-in_default
returns-in_default c = read_no_level _ _ _ _ (rw c.unwrap_err.ensures at c.level_of-named.ensures)

pub returns-then-text-rules : goal.returns-then-text-rules
returns-then-text-rules c = read_long _ _ _ _ c.in-Ok.ensures c.if-text-rules.true

pub returns-in_default-formed : goal.returns-in_default-formed
returns-in_default-formed c =
    let x = unformed_at c.utf8-2.result c.unformed-formed.ensures c.unwrap_err-in_default-formed.ensures c.utf8-2.ensures in
    rw x.1 (read_bad _ _ _ _ c.in-Ok.ensures (omega arith) x.2)
