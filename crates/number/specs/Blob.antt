-- What the search for the digits behind a mark answers. Assumes nothing.
use Rattle.std.specs.Prelude.{List, [], ◌∷◌, ℕ, ◌+◌, Option, Some, None}
use Rattle.rules.specs.Rule.{row, Takes, Fails}
use Rattle.lexicon.specs.declared.Set.{Set}
use Rattle.lexicon.specs.Bytes.{members}
use Rattle.lexicon.specs.Space.{Skips}
use Rattle.lexicon.specs.Literals.{unit}
use Rattle.number.specs.Groups.{Row}

-- `0`, a letter and one more byte stand at i
abbrev pub Marked : List ℕ → ℕ → ℕ → Option ℕ → Type 0
Marked text i b (Some c) = Takes text (row (0x30 ∷ b ∷ c ∷ [])) i (i + 3)
Marked text i b None = (c : ℕ) → Takes text (row (0x30 ∷ b ∷ c ∷ [])) i (i + 3) → ⊥

-- the digits behind the dividing space at i end at j and have the sum s; or there are none
pub data TailOf {S : Type 0} (more : S → ℕ → S) (start : S) (text : List ℕ) (set : Set) (n i : ℕ) : ℕ → S → Type 0 where
  digits_stand : {g j : ℕ} {s : S} → Skips text i g → Row more start text set n g j s →
      TailOf more start text set n i j s
  none_stand : {g : ℕ} → Skips text i g → Fails text (unit n (members set)) g → TailOf more start text set n i i start
