-- Each turn writes one word more. Assumes nothing.
use Rattle.grammar.specs.Nodes.{word_at}
use Rattle.buffer.specs.Appends.{Appends}
use Rattle.listing.proofs.Lines.{cells}
use Rattle.listing.proofs.node.Given as goal

-- what was written since the first word
abbrev pub invariant-loop-word : goal.invariant-loop-word
invariant-loop-word l = Appends l.initial.out (cells (λ k. word_at l.fn.table l.fn.index k) l.word-index) l.out
