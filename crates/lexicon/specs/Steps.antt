-- The steps of the UTF-8 test: 02, request 2, 'takes eight plain ASCII bytes in one step wherever eight come next, else
-- one sequence, and also hands back the steps taken up to its place'. Assumes nothing.
use Rattle.std.specs.Prelude.{List, ℕ, suc, length, Result, Ok, Err}
use Rattle.rules.specs.Rule.{Rule, times, Takes, Fails}
use Rattle.lexicon.specs.declared.NotUtf8.{NotUtf8}
use Rattle.lexicon.specs.declared.Tested.{Tested}
use Rattle.lexicon.specs.Utf8.{range, sequence, Encoded}

-- eight plain ASCII bytes
abbrev pub eight : Rule
eight = times 8 (range 0x00 0x7F)

module _ (text : List ℕ) where
  -- from the front to a place in so many steps
  pub data Steps : (place count : ℕ) → Type 0 where
    start : Steps 0 0
    eight_bytes : {i j n : ℕ} → Steps i n → Takes text eight i j → Steps j (suc n)
    one_sequence : {i j n : ℕ} → Steps i n → Fails text eight i → Takes text sequence i j → Steps j (suc n)

  -- the place of the test's answer: behind the last byte, where all is well formed
  abbrev pub place_of : Result (Unit {0}) NotUtf8 → ℕ
  place_of (Ok _) = length text
  place_of (Err bad) = bad.at

  -- the answer as it was without steps, and those up to its place; the look that finds no sequence there is no step
  pub record TestedAs (r : Tested) : Type 0 where
    pub encoded : Encoded text r.encoding
    pub steps_are : Steps (place_of r.encoding) r.steps
