-- `word::word::form` meets its contract. Invariant: the entries are the head words, and none before the next is the word.
-- Assumes nothing.
use Rattle.word.proofs.Words.{IsHeads, Passed}
use Rattle.word.proofs.word.form.Given as goal

abbrev pub invariant-loop-spelling : goal.invariant-loop-spelling
invariant-loop-spelling l = IsHeads l.spelling-items × Passed l.text l.at l.end l.spelling-items l.spelling-index
