-- What the letter of a base's mark says: the base that it is the letter of, or that it is of none. Assumes nothing.
use Rattle.std.specs.Prelude.{◌≡◌, ℕ, Option, Some, None}
use Rattle.lexicon.specs.declared.Base.{Base}
use Rattle.lexicon.specs.Parts.{letter}

abbrev pub Letters : ℕ → Option Base → Type 0
Letters b (Some base) = b ≡ letter base
Letters b None = (base : Base) → b ≡ letter base → ⊥
