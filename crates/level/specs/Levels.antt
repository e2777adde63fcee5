-- The forms of a level, by its number, and the collections that it has. Assumes nothing.
use Rattle.std.specs.Prelude.{◌≡◌, true, false, ℕ, Option, Some, None, Result, Ok, Err}
use Rattle.lexicon.specs.declared.Head.{Head}
use Rattle.grammar.specs.Tree
use Rattle.grammar.specs.Yield.{collection_head}
use Rattle.grammar.specs.Level.{Level, has_head, has_collection}
use Rattle.reading.specs.declared.Refusal.{Refusal}
use Rattle.reading.specs.declared.Refused.{Refused}
use Rattle.reading.specs.Answers.{LevelOf}
use Rattle.moves.specs.declared.Forms.{Forms}
use Rattle.moves.specs.declared.Style.{Style}
use Rattle.moves.specs.Means.{level_of, collection_style}

-- 01's refusal of a number that is no level's: 1 at 0
abbrev pub no_level : Refused
no_level = record { refusal = Refusal.Level; place = 0 }

abbrev pub LevelFound : ℕ → Result Forms Refused → Type 0
LevelFound n (Ok forms) = LevelOf n (level_of forms)
LevelFound n (Err e) = (e ≡ no_level) × ((l : Level) → LevelOf n l → ⊥)

-- the collection of a head, if the level has it
abbrev pub Collects : Forms → Head → Option Style → Type 0
Collects forms h (Some style) =
    (k : Tree.Collection) × (h ≡ collection_head k) × (style ≡ collection_style k) ×
    (has_collection (level_of forms) k ≡ true)
Collects forms h None = has_head (level_of forms) h ≡ false
