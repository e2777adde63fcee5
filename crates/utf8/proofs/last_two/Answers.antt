-- `utf8::last_two` meets its contract: after its first byte the rule is what `last` looks for. Assumes nothing.
use Rattle.lexicon.specs.Utf8.{tail}
use Rattle.lexicon.proofs.Answers.{found_at}
use Rattle.utf8.proofs.Sequences.{then_finds}
use Rattle.utf8.proofs.last_two.Goals as goal

pub returns : goal.returns
returns c = then_finds tail c.last.result (found_at c.in_ok-byte.was c.byte.ensures) c.last.ensures
