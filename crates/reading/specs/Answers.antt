-- The answer of a reading: 01, 'Table of refusals', in its order. One record states number, place, count and the table
-- at exit for every level number, text and table at entry. Assumes nothing.
use Rattle.std.specs.Prelude.{◌≡◌, true, List, [], ◌++◌, ℕ, ◌*◌, ◌≤◌, ◌<◌, length, drop}
use Rattle.std.proofs.Math.Option.{Option, none, some}
use Rattle.lexicon.specs.Utf8.{WellFormed, BadAt}
use Rattle.grammar.specs.Tree.{Value}
use Rattle.grammar.specs.Yield.{yield_value}
use Rattle.grammar.specs.Level.{Level, keeps, level1, level2}
use Rattle.grammar.specs.Nodes.{Node, table, table_words, node_words}
use Rattle.reading.specs.declared.Answer.{Answer}
use Rattle.reading.specs.declared.Limits.{Limits}
use Rattle.reading.specs.declared.Rules.{Rules}
use Rattle.reading.specs.Sizes.{room}
use Rattle.reading.specs.Faults.{FirstFault, AllPassed}

-- the level of a number
pub data LevelOf : ℕ → Level → Type 0 where
  first : LevelOf 1 level1
  second : LevelOf 2 level2

-- the number, place and count of an answer
abbrev pub answer : ℕ → ℕ → ℕ → Answer
answer n p c = record { number = n; place = p; count = c }

-- no token of the text is faulty, the end included, and this is its derivation; room for it is asked behind that
pub record Accepted (limits : Limits) (bytes : List ℕ) (l : Level) (v : Value) : Type 0 where
  pub of_level : keeps l v ≡ true
  pub passed : AllPassed limits l bytes (yield_value v [])

module _ (rules : Rules) (bytes : List ℕ) where
  -- the answer where there is room for so many nodes, and the derivation of an accepted text
  pub data Reading (room number : ℕ) : Answer → Option Value → Type 0 where
    no_level : ((l : Level) → LevelOf number l → ⊥) → Reading room number (answer 1 0 0) none
    too_long : {l : Level} → LevelOf number l → rules.text < length bytes → Reading room number (answer 2 0 0) none
    not_utf8 : {l : Level} {p : ℕ} → LevelOf number l → length bytes ≤ rules.text → BadAt bytes p →
        Reading room number (answer 3 p 0) none
    faulty : {l : Level} {n p : ℕ} → LevelOf number l → length bytes ≤ rules.text → WellFormed bytes →
        FirstFault rules.limits l bytes n p → Reading room number (answer n p 0) none
    no_room : {l : Level} {v : Value} → LevelOf number l → length bytes ≤ rules.text → WellFormed bytes →
        Accepted rules.limits bytes l v → room < length (table v) →
        Reading room number (answer 8 (length bytes) (length (table v))) none
    accepted : {l : Level} {v : Value} → LevelOf number l → length bytes ≤ rules.text → WellFormed bytes →
        Accepted rules.limits bytes l v → length (table v) ≤ room →
        Reading room number (answer 0 (length bytes) (length (table v))) (some v)

-- the nodes of an accepted text; of a refused text there are none
abbrev pub nodes_of : Option Value → List Node
nodes_of none = []
nodes_of (some v) = table v

-- the answer, and the lent table as it is then
pub record Answers (rules : Rules) (bytes lent : List ℕ) (number : ℕ) (r : Answer) (left : List ℕ) : Type 0 where
  pub tree : Option Value
  pub reading : Reading rules bytes (room rules (length lent)) number r tree
  pub left_is : left ≡ table_words (nodes_of tree) ++ drop (node_words * length (nodes_of tree)) lent
