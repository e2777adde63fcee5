-- `plain::convert` meets its contract. Assumes nothing.
use mathlib.Core.Path.{refl, sym}
use native.Mathlib.Omega.{arith}
use borrow.Author.Rules.{rules}
use lib.Seq.{length-take-le}
use Rattle.plain.proofs.Converts.{is_refused, few, within, is_converted}
use Rattle.plain.proofs.convert.Goals as goal

pub returns-then-answer-ne0 : goal.returns-then-answer-ne0
returns-then-answer-ne0 c = let a = c.args in is_refused a.text.now a.level refl c.read_old-answer.ensures c.if-answer-ne0.true a.buffer.now

pub overflow_mul-words : goal.overflow_mul-words
overflow_mul-words c = let n = few _ _ refl c.read_old-answer.ensures c.if-answer-ne0.false in search (rules, n)

pub slice_bounds-table-end : goal.slice_bounds-table-end
slice_bounds-table-end c = omega (arith, few _ _ refl c.read_old-answer.ensures c.if-answer-ne0.false)

pub slice_bounds-fit-end : goal.slice_bounds-fit-end
slice_bounds-fit-end c = sym (length-take-le _ _ (within _ _ refl c.read_old-answer.ensures c.if-answer-ne0.false))

pub returns : goal.returns
returns c = let a = c.args in
    is_converted a.text.now a.level refl c.read_old-answer.ensures c.if-answer-ne0.false c.fit.ensures
