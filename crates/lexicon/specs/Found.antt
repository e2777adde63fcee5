-- What the answer of a search for a rule's match says. Assumes nothing.
use Rattle.std.specs.Prelude.{List, ℕ, Option, Some, None}
use Rattle.rules.specs.Test.{Says}
use Rattle.rules.specs.Rule.{Rule, Longest, Fails}
use Rattle.lexicon.specs.declared.Literal.{Literal}

-- the rule's longest match from i, or that it has none
abbrev pub Finds : List ℕ → Rule → ℕ → Option ℕ → Type 0
Finds text r i (Some j) = Longest text r i j
Finds text r i None = Fails text r i

-- and whether the match is bad
abbrev pub Judges : List ℕ → Rule → (ℕ → ℕ → Type 0) → ℕ → Option Literal → Type 0
Judges text r Bad i (Some l) = Longest text r i l.end × Says l.bad (Bad i l.end)
Judges text r Bad i None = Fails text r i
