-- The table of classes, and a set's bit of a class. Assumes nothing.
use Rattle.std.specs.Prelude.{◌≡◌, Bool, List, ℕ, ◌<◌, ◌/◌, ◌%◌, eqb, get_or}
use Rattle.lexicon.specs.declared.Set.{Set}
use Rattle.lexicon.specs.Bytes.{class_of, weight}

-- the table has for each byte its class
pub record IsTable (table : List ℕ) : Type 0 where
  pub entry : (b : ℕ) → b < 256 → get_or table b 0 ≡ class_of b

-- what the set adds is in the sum: the set's bit
unfoldable pub in_sum : Set → ℕ → Bool
in_sum s x = eqb (x / weight s % 2) 1
