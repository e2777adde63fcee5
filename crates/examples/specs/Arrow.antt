-- The backward arrow: 02, request 6. Texts by today's rules and by the old ones, texts and what they are converted to,
-- and a file that was stored before. Assumes nothing.
use Rattle.std.specs.Prelude.{List, [], ◌∷◌, ◌++◌, ℕ, ◌≤◌, ◌<◌, length, drop}
use Rattle.rules.specs.Class.{codes}
use Rattle.rules.specs.Every.{Every}
use Rattle.reading.specs.Sizes.{base, old_rules}
use Rattle.reading.specs.Answers.{answer}
use Rattle.files.specs.Writes.{Writes}
use Rattle.files.specs.Checks.{Checks}
use Rattle.form.specs.Writes.{Converts}
use Rattle.examples.specs.Starred.{Example, node, refused, accepted, at_level, at_both, AllHold}
use Rattle.examples.specs.Plain.{Rewriting, ◌becomes◌, Rewritten}

-- by today's rules: 15 'at a place where it was allowed', 'elsewhere it stays 6'
abbrev pub retired : List Example
retired =
    at_both "{a,b<-c}" (refused 15 4)
    ++ at_both "(a<-b)" (refused 15 2)
    ++ at_both "(Mix<-5)" (refused 15 4)
    ++ at_both "<-" (refused 6 0)
    ++ at_both "(<-a)" (refused 6 1)
    ++ at_both "(,a<-b)" (refused 6 3)
    ++ at_both "(a:b<-c)" (refused 6 4)
    ++ at_level 1 "[a<-b]" (refused 7 0)
    ++ at_level 2 "[a<-b]" (refused 6 2)
    ++ at_level 1 "(Array:{a<-5})" (refused 7 0)
    ++ at_level 2 "(Array:{a<-5})" (refused 6 9)
    -- the first faulty token decides
    ++ at_both "(0L<-5)" (refused 7 1)
    ++ at_both "(1/0<-b)" (refused 5 1)
    ++ at_both "(a<-1/0)" (refused 15 2)
    ++ at_both "(a<-$" (refused 15 2)
    ++ at_both "{a<-b,$" (refused 15 2)

-- by the old rules
abbrev pub before : List Example
before =
    at_both "{a,b<-c}"
    (accepted 8 (node 11 0 8 0 0 0 4 ∷ node 7 1 2 0 1 2 2 ∷ node 7 3 4 0 3 2 3 ∷ node 7 6 7 0 1 2 4 ∷ []))
    ++ at_both "(a<-b)" (accepted 6 (node 9 0 6 0 0 0 3 ∷ node 7 1 2 0 3 2 2 ∷ node 7 4 5 0 1 2 3 ∷ []))
    ++ at_both "(Mix<-5)" (accepted 8 (node 9 0 8 0 0 0 3 ∷ node 7 1 4 0 3 2 2 ∷ node 3 6 7 0 1 0 3 ∷ []))
    ++ at_both "<-" (refused 6 0)
    ++ at_both "(<-a)" (refused 6 1)
    ++ at_both "(,a<-b)" (refused 6 3)
    ++ at_both "(a:b<-c)" (refused 6 4)
    ++ at_both "(a<-1/0)" (refused 5 4)
    ++ at_both "(a<-$" (refused 4 4)
    ++ at_both "{a<-b,$" (refused 4 6)

abbrev pub conversions : List Rewriting
conversions =
    "(b<-a)" becomes "(a:b)"
    ∷ "{b <- a, c}" becomes "{a:b,c}"
    ∷ "((d<-c)<-{b<-a})" becomes "({a:b}:(c:d))"
    ∷ "(5<-Mix)" becomes "(\"Mix\":5)"
    ∷ []

-- the file of `(b<-a)`, a Pair of a that before its this: its front, and twelve bytes for each node
abbrev pub stored : List ℕ
stored =
    codes "FNT"
    ++ (0x00 ∷ 0x01 ∷ 0x00 ∷ 0x03 ∷ 0x00 ∷ 0x06 ∷ [])
    ++ (0x00 ∷ 0x09 ∷ 0x00 ∷ 0x00 ∷ 0x00 ∷ 0x06 ∷ 0x00 ∷ 0x00 ∷ 0x00 ∷ 0x00 ∷ 0x00 ∷ 0x00 ∷ [])
    ++ (0x00 ∷ 0x07 ∷ 0x00 ∷ 0x01 ∷ 0x00 ∷ 0x02 ∷ 0x00 ∷ 0x00 ∷ 0x00 ∷ 0x03 ∷ 0x00 ∷ 0x02 ∷ [])
    ++ (0x00 ∷ 0x07 ∷ 0x00 ∷ 0x04 ∷ 0x00 ∷ 0x05 ∷ 0x00 ∷ 0x00 ∷ 0x00 ∷ 0x01 ∷ 0x00 ∷ 0x02 ∷ [])

pub record Arrow : Type 0 where
  pub today : AllHold base retired
  pub old : AllHold old_rules before
  pub converted : Every (Rewritten old_rules) conversions
  -- the converter, for every lent buffer
  pub written : (lent : List ℕ) → 5 ≤ length lent →
      Converts old_rules (codes "(b<-a)") lent 2 (answer 0 6 5) (codes "(a:b)" ++ drop 5 lent)
  pub no_room : (lent : List ℕ) → length lent < 5 → Converts old_rules (codes "(b<-a)") lent 2 (answer 8 6 5) lent
  pub passed_on : (lent : List ℕ) → Converts old_rules (codes "(a<-$") lent 2 (answer 4 4 0) lent
  -- 'Nothing new is stored with an arrow', and what was stored before is accepted
  pub not_stored : (lent : List ℕ) → Writes base (codes "(b<-a)") lent (answer 15 2 0) lent
  pub still_accepted : Checks old_rules (codes "(b<-a)") stored (answer 0 6 45)
