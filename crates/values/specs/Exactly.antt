-- What every value call asks of its piece: 01, refusal 9, 'The piece is not exactly one literal of the asked kind'.
-- Assumes nothing.
use Rattle.std.specs.Prelude.{List, length, ℕ}
use Rattle.rules.specs.Rule.{Rule, Takes}

-- from byte 0 to its end
abbrev pub Exactly : Rule → List ℕ → Type 0
Exactly literal piece = Takes piece literal 0 (length piece)
