-- `plain::write` meets its contract. Assumes nothing.
use mathlib.Core.Path.{sym}
use borrow.Author.Rules.{rules}
use lib.Seq.{length-take-le}
use Rattle.plain.proofs.Calls.{is_refused, few, within, is_told}
use Rattle.plain.proofs.write.Goals as goal

pub returns-then-judged-ne0 : goal.returns-then-judged-ne0
returns-then-judged-ne0 c = let a = c.args in
    is_refused a.text.now a.table.now a.level c.judge-judged.ensures c.if-judged-ne0.true a.buffer.now

pub overflow_mul-words : goal.overflow_mul-words
overflow_mul-words c = let a = c.args in
    let n = few a.text.now a.table.now a.level c.judge-judged.ensures c.if-judged-ne0.false in
    search (rules, n)

pub slice_bounds-fit-end : goal.slice_bounds-fit-end
slice_bounds-fit-end c = let a = c.args in
    sym (length-take-le _ a.table.now (within a.text.now a.table.now a.level c.judge-judged.ensures c.if-judged-ne0.false))

pub returns : goal.returns
returns c = let a = c.args in
    is_told a.text.now a.table.now a.level c.judge-judged.ensures c.if-judged-ne0.false c.fit.ensures
