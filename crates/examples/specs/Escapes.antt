-- Bad escapes: 02, request 8, 'For a code point out of range inside quotes, 5 now gives the backslash of that escape,
-- the first such one, and no longer the literal's first byte. Bare code points are as before. In the Text call, too,
-- the place is counted within the piece. Both levels change alike.' Assumes nothing.
use Rattle.std.specs.Prelude.{List, [], ◌∷◌, ◌++◌, ℕ}
use Rattle.rules.specs.Class.{codes}
use Rattle.reading.specs.Sizes.{base, old_rules}
use Rattle.reading.specs.Answers.{answer}
use Rattle.values.specs.Text.{text_call}
use Rattle.files.specs.Writes as Files
use Rattle.files.specs.Checks.{Checks}
use Rattle.form.specs.Writes.{Writes, Converts}
use Rattle.examples.specs.Starred.{Example, node, refused, accepted, at_level, at_both, AllHold}
use Rattle.examples.specs.Contents.{RefusesAt}

abbrev pub out_of_range : List Example
out_of_range =
    at_both "\"\\\\<0cxD800>\"" (refused 5 2)
    -- the first of two, in one segment and in two
    ++ at_both "\"a\" \"\\b\\<0c65>\\<0cxD800>\\<0cxDFFF>\"" (refused 5 14)
    ++ at_both "\"\\\\<0cxD800>\" \"\\\\<0cxDFFF>\"" (refused 5 2)
    -- no escapes: behind another first character, and the backslash that makes the segment an escaped one
    ++ at_both "\"a\\<0cxD800>\" \"\\\\<0cxDFFF>\"" (refused 5 16)
    ++ at_both "\"\\<0cxD800>\"" (accepted 12 (node 7 0 12 0 0 1 1 ∷ []))
    -- a broken segment behind a bad one is no part of the literal; with a bad escape in it nothing is
    ++ at_both "\"\\\\<0cxD800>\" \"\\\\h\"" (refused 5 2)
    ++ at_both "\"\\\\<0cxD800>\\h\"" (refused 4 0)
    -- in a Nesting, in a bracket, in a name
    ++ at_both "::a::\"\\\\<0cxD800>\"" (refused 5 7)
    ++ at_both "(x:\"\\\\<0cx110000>\")" (refused 5 5)
    ++ at_both "(\"\\\\<0cxD800>\":x)" (refused 5 3)
    ++ at_both "{x, \"\\\\<0cxD800>\"}" (refused 5 6)
    -- bare code points
    ++ at_both " 0cxD800" (refused 5 1)
    ++ at_both "::a::0cxD800" (refused 5 5)
    -- 6 and 7 come before it, at the first byte of the literal and of the form
    ++ at_both "x \"\\\\<0cxD800>\"" (refused 6 2)
    ++ at_level 1 "[\"\\\\<0cxD800>\"]" (refused 7 0)
    ++ at_level 2 "[\"\\\\<0cxD800>\"]" (refused 5 3)

-- one of them
abbrev pub in_member : List ℕ
in_member = codes "(x:\"\\\\<0cx110000>\")"

pub record Escapes : Type 0 where
  pub listed : AllHold base out_of_range
  -- the Text call
  pub alone : RefusesAt text_call "\"\\\\<0cxD800>\"" 5 2
  pub further : RefusesAt text_call "\"a\" \"\\x\\<0cxD800>\"" 5 7
  pub first_of_two : RefusesAt text_call "\"a\" \"\\b\\<0c65>\\<0cxD800>\\<0cxDFFF>\"" 5 14
  pub of_two_segments : RefusesAt text_call "\"\\\\<0cxD800>\" \"\\\\<0cxDFFF>\"" 5 2
  pub not_escaped : RefusesAt text_call "\"a\\<0cxD800>\" \"\\\\<0cxDFFF>\"" 5 16
  pub bare : RefusesAt text_call "0cxD800" 5 0
  pub broken : RefusesAt text_call "\"\\\\<0cxD800>\" \"\\\\h\"" 9 0
  -- the writers and the converter hand the place on; the checker has 14 at 0 for every refused text
  pub not_stored : (lent : List ℕ) → Files.Writes base in_member lent (answer 5 5 0) lent
  pub no_file : (rest : List ℕ) → Checks old_rules in_member (codes "FNT" ++ (0x00 ∷ 0x01 ∷ rest)) (answer 14 0 0)
  pub no_plain_form : (table lent : List ℕ) → Writes base in_member table lent 2 (answer 5 5 0) lent
  pub not_converted : (lent : List ℕ) → Converts old_rules in_member lent 2 (answer 5 5 0) lent
