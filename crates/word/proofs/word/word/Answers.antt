-- `word::word::word` meets its contract: the first byte, and the run of those that go on with the word. Assumes nothing.
use Rattle.word.proofs.Words.{word_other, word_on}
use Rattle.word.proofs.word.word.Goals as goal

pub returns-then-not-holds : goal.returns-then-not-holds
returns-then-not-holds c = word_other c.args.text.now c.classes-classes.result c.args.at c.classes-classes.ensures c.in_ok-first.field-0 c.in_ok-first.ensures.lookup (λ k. (c.type_inv.text k).fits) c.holds.ensures c.if-not-holds.true

pub returns : goal.returns
returns c =
    let rest = c.run.ensures in
    word_on c.args.text.now c.classes-classes.result c.args.at c.classes-classes.ensures c.in_ok-first.field-0 c.in_ok-first.ensures.lookup (λ k. (c.type_inv.text k).fits) c.holds.ensures c.if-not-holds.false rest
