-- The texts that document 01 marks with a star, as one table, and the one statement about it: each text's reading ends
-- as its line says, by the definitions of the tokens, the trees and the answers; 02's request 6 has another line for
-- one of them, and request 7 a seventh word for each node. proofs/Starred.antt proves it. Assumes nothing.
use Rattle.std.specs.Prelude.{List, [], ◌∷◌, ◌++◌, ℕ, ◌*◌, ◌≤◌, ℤ, pos, length, drop}
use Rattle.std.proofs.Math.Option.{Option, none, some}
use Prim.Native.String.{String}
use Rattle.rules.specs.Class.{codes}
use Rattle.lexicon.specs.Values.{IntegerOf}
use Rattle.grammar.specs.Nodes.{node_words}
use Rattle.reading.specs.declared.Rules.{Rules}
use Rattle.reading.specs.Sizes.{room}
use Rattle.reading.specs.Answers.{answer, Answers}

-- ---- the lines of the table

-- a node's seven words
pub record Row : Type 0 where
  pub kind : ℕ
  pub first : ℕ
  pub end : ℕ
  pub parent : ℕ
  pub role : ℕ
  pub detail : ℕ
  pub skip : ℕ

abbrev pub node : ℕ → ℕ → ℕ → ℕ → ℕ → ℕ → ℕ → Row
node k f e p r d s = record { kind = k; first = f; end = e; parent = p; role = r; detail = d; skip = s }

abbrev pub words_of : List Row → List ℕ
words_of [] = []
words_of (n ∷ ns) = n.kind ∷ n.first ∷ n.end ∷ n.parent ∷ n.role ∷ n.detail ∷ n.skip ∷ words_of ns

-- how a reading ends: number, place, nodes, and the integer of the root where the paper gives one
pub record Outcome : Type 0 where
  pub number : ℕ
  pub place : ℕ
  pub nodes : List Row
  pub integer : Option ℤ

abbrev pub refused : ℕ → ℕ → Outcome
refused n p = record { number = n; place = p; nodes = []; integer = none }

abbrev pub accepted : ℕ → List Row → Outcome
accepted p ns = record { number = 0; place = p; nodes = ns; integer = none }

abbrev pub accepted_as : ℤ → ℕ → List Row → Outcome
accepted_as z p ns = record { number = 0; place = p; nodes = ns; integer = some z }

-- a text of ASCII characters, and the number of a level
pub record Example : Type 0 where
  pub text : String
  pub level : ℕ
  pub outcome : Outcome

abbrev pub at_level : ℕ → String → Outcome → List Example
at_level l s o = record { text = s; level = l; outcome = o } ∷ []

-- where the paper names no level
abbrev pub at_both : String → Outcome → List Example
at_both s o = at_level 1 s o ++ at_level 2 s o

-- ---- the statement

-- by these rules and with every lent table that has room for the nodes: number, place, count, and every word of the
-- table at exit. Under a refusal there are no nodes, so every table has room for them, and it stays as it was. No other
-- answer holds: reading's law `one_answer`.
abbrev pub Ends : Rules → List ℕ → ℕ → ℕ → ℕ → List Row → Type 0
Ends rules bytes level number place nodes =
    (lent : List ℕ) → length nodes ≤ room rules (length lent) →
    Answers rules bytes lent level (answer number place (length nodes))
    (words_of nodes ++ drop (node_words * length nodes) lent)

-- the root is an Integer literal of this value
abbrev pub Means : List ℕ → Option ℤ → List Row → Type 0
Means bytes none ns = Unit {0}
Means bytes (some z) [] = ⊥
Means bytes (some z) (n ∷ ns) = IntegerOf bytes n.first n.end z

pub record Holds (rules : Rules) (e : Example) : Type 0 where
  pub ends : Ends rules (codes e.text) e.level e.outcome.number e.outcome.place e.outcome.nodes
  pub means : Means (codes e.text) e.outcome.integer e.outcome.nodes

abbrev pub AllHold : Rules → List Example → Type 0
AllHold rules [] = Unit {0}
AllHold rules (e ∷ es) = Holds rules e × AllHold rules es

-- ---- the table

abbrev pub starred : List Example
starred =
    at_both "" (refused 6 0)
    ++ at_both "(,)" (refused 6 2)
    ++ at_both "{,,}" (accepted 4 (node 11 0 4 0 0 0 1 ∷ []))
    ++ at_both "29 56" (accepted_as (pos 2956) 5 (node 3 0 5 0 0 0 1 ∷ []))
    ++ at_both "(5:y,)" (refused 6 4)
    -- 02, request 6: '01's `{a,b<-c}` becomes 15 at 4'
    ++ at_both "{a,b<-c}" (refused 15 4)
    ++ at_both "(x:::y)" (accepted 7 (node 9 0 7 0 0 0 3 ∷ node 7 1 2 0 1 2 2 ∷ node 8 3 6 0 2 0 3 ∷ []))
    ++ at_both "1/0" (refused 5 0)
    ++ at_level 1 "[1..10]" (refused 7 0)
    ++ at_level 2 "[1..10]" (accepted 7 (node 15 0 7 0 0 11 3 ∷ node 3 1 2 0 7 0 2 ∷ node 3 4 6 0 8 0 3 ∷ []))
    ++ at_level 1 "(Array:{a:20})" (refused 7 0)
    ++ at_level 2 "(Array:{a:20})" (accepted 14 (node 12 0 14 0 0 0 3 ∷ node 7 8 9 0 5 2 2 ∷ node 3 10 12 0 6 0 3 ∷ []))
    ++ at_level 1 "(Array:5)" (refused 7 0)
    ++ at_level 2 "(Array:5)" (refused 6 7)
    ++ at_both "(\"Array\":{a})"
    (accepted 13 (node 9 0 13 0 0 0 4 ∷ node 7 1 8 0 1 1 2 ∷ node 11 9 12 0 2 0 4 ∷ node 7 10 11 2 1 2 4 ∷ []))
    ++ at_both "{1 0Lct}" (refused 6 4)
