-- `utf8::last_three` meets its contract: after its first byte the rule is what `last_two` looks for. Assumes nothing.
use Rattle.rules.specs.Rule.{◌then◌}
use Rattle.lexicon.specs.Utf8.{tail}
use Rattle.lexicon.proofs.Answers.{found_at}
use Rattle.utf8.proofs.Sequences.{then_finds}
use Rattle.utf8.proofs.last_three.Goals as goal

pub returns : goal.returns
returns c = then_finds (tail then tail) c.last_two.result (found_at c.in_ok-byte.was c.byte.ensures) c.last_two.ensures
