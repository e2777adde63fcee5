-- `word::spelling::spells` meets its contract: the bytes before `k` are equal, and the answer is that of the first that differs or of them all.
-- Assumes nothing.
use borrow.Author.Rules.{rules}
use Rattle.word.proofs.Spells.{spells_back, spells_longer, spells_all, spells_other, spells_more, spells_none}
use Rattle.word.proofs.spelling.spells.Goals as goal

pub returns-then-end-at : goal.returns-then-end-at
returns-then-end-at c = let a = c.args in search (spells_back a.text.now a.bytes.now a.at a.end, rules)

pub returns-then-end-at-2 : goal.returns-then-end-at-2
returns-then-end-at-2 c = let a = c.args in search (spells_longer a.text.now a.bytes.now a.at a.end, rules)

pub loop-k-init : goal.loop-k-init
loop-k-init c = spells_none _ _ _ c.args.end

pub returns-then-not-stands : goal.returns-then-not-stands
returns-then-not-stands c = let a = c.args in search (spells_other a.text.now a.bytes.now a.at a.end, rules)

pub loop-k-preserved : goal.loop-k-preserved
loop-k-preserved c = let a = c.args in search (spells_more a.text.now a.bytes.now a.at a.end, rules)

pub returns : goal.returns
returns c = let a = c.args in search (spells_all a.text.now a.bytes.now a.at a.end, rules)
