-- The seventh word: 02, request 7. Texts with their nodes, the room that a node takes, and a table of six words a node,
-- as it was before. Assumes nothing.
use Rattle.std.specs.Prelude.{List, [], ◌∷◌, ◌++◌, ℕ, ◌≤◌, ◌<◌, length, drop}
use Rattle.rules.specs.Class.{codes}
use Rattle.reading.specs.Sizes.{base}
use Rattle.reading.specs.Answers.{answer, Answers}
use Rattle.form.specs.Writes.{Writes}
use Rattle.examples.specs.Starred.{Example, node, accepted, at_level, at_both, AllHold}

-- 'the index just past its last descendant, or past itself if it has none'
abbrev pub skipped : List Example
skipped =
    at_both "x" (accepted 1 (node 7 0 1 0 0 2 1 ∷ []))
    ++ at_both "(x:(y,z))"
    (accepted 9
    (node 9 0 9 0 0 0 5 ∷ node 7 1 2 0 1 2 2 ∷ node 10 3 8 0 2 0 5 ∷ node 7 4 5 2 5 2 4 ∷ node 7 6 7 2 5 2 5 ∷ []))
    -- a bracket with nothing in it, and one with a branch before its last child
    ++ at_both "{{},{a},b}"
    (accepted 10
    (node 11 0 10 0 0 0 5 ∷ node 11 1 3 0 1 0 2 ∷ node 11 4 7 0 1 0 4 ∷ node 7 5 6 2 1 2 4 ∷ node 7 8 9 0 1 2 5 ∷ []))
    -- a Pair that turns out to be a Tuple's first attribute, and a group, which has no node
    ++ at_both "(x:((y)),)" (accepted 10 (node 10 0 10 0 0 0 3 ∷ node 7 1 2 0 4 2 2 ∷ node 7 5 6 0 5 2 3 ∷ []))
    -- a value with its count behind it
    ++ at_level 2 "(Bag:{[1..2]:2})"
    (accepted 16
    (node 14 0 16 0 0 0 5 ∷ node 15 6 12 0 5 11 4 ∷ node 3 7 8 1 7 0 3 ∷ node 3 10 11 1 8 0 4 ∷ node 3 13 14 0 6 0 5
    ∷ []))

-- the words of the reading of `(x:y)` before the request
abbrev pub before : List ℕ
before = 9 ∷ 0 ∷ 5 ∷ 0 ∷ 0 ∷ 0 ∷ 7 ∷ 1 ∷ 2 ∷ 0 ∷ 1 ∷ 2 ∷ 7 ∷ 3 ∷ 4 ∷ 0 ∷ 2 ∷ 2 ∷ []

pub record Skips : Type 0 where
  pub listed : AllHold base skipped
  -- 'words divided by 7, rounded down'
  pub six_words : (lent : List ℕ) → length lent < 7 → Answers base (codes "x") lent 2 (answer 8 1 1) lent
  pub seven_words : (lent : List ℕ) → 7 ≤ length lent →
      Answers base (codes "x") lent 2 (answer 0 1 1) (7 ∷ 0 ∷ 1 ∷ 0 ∷ 0 ∷ 2 ∷ 1 ∷ drop 7 lent)
  -- the words of before, lent with their text, have no room for its nodes; with three more they are not its table
  pub too_few : (lent : List ℕ) → Writes base (codes "(x:y)") before lent 2 (answer 8 5 3) lent
  pub not_its_table : (u v w : ℕ) (lent : List ℕ) →
      Writes base (codes "(x:y)") (before ++ (u ∷ v ∷ w ∷ [])) lent 2 (answer 14 0 0) lent
