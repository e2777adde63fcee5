-- The answer of the UTF-8 test as a call of its own, number, place and steps for every text: 02, request 2. Number and
-- place are those of refusal 3 in 01's table; of an accepted text the place is its length. A text of any length is
-- taken: that it may be too long is the business of the reader and of the value calls. Assumes nothing.
use Rattle.std.specs.Prelude.{List, ℕ, length}
use Rattle.lexicon.specs.Utf8.{WellFormed, BadAt}
use Rattle.lexicon.specs.Steps.{Steps}

module _ (text : List ℕ) where
  pub data Utf8Answers : (number place steps : ℕ) → Type 0 where
    well_formed : {n : ℕ} → WellFormed text → Steps text (length text) n → Utf8Answers 0 (length text) n
    not_utf8 : {p n : ℕ} → BadAt text p → Steps text p n → Utf8Answers 3 p n
