-- Plain forms, as one table, and answers of the writer: 02, request 5. Assumes nothing.
use Rattle.std.specs.Prelude.{◌≡◌, List, [], ◌∷◌, ◌++◌, ℕ, ◌≤◌, ◌<◌, length, drop}
use Prim.Native.String.{String}
use Rattle.rules.specs.Class.{codes}
use Rattle.rules.specs.Every.{Every}
use Rattle.grammar.specs.Tree.{Value}
use Rattle.grammar.specs.Level.{level2}
use Rattle.reading.specs.declared.Rules.{Rules}
use Rattle.reading.specs.Sizes.{base}
use Rattle.reading.specs.Answers.{answer, Accepted}
use Rattle.form.specs.Spell.{plain_form}
use Rattle.form.specs.Writes.{Writes}

-- a text of ASCII characters and its plain form
pub record Rewriting : Type 0 where
  pub text : String
  pub form : String

infix 80 ◌becomes◌
abbrev pub ◌becomes◌ : String → String → Rewriting
s becomes o = record { text = s; form = o }

abbrev pub rewritings : List Rewriting
rewritings =
    -- dividing space, comments, groups, commas and `_` go
    "( , x : + 0d 1_0 , )" becomes "(x:+0d10,)"
    ∷ "((x):(y))" becomes "(x:y)"
    ∷ "(x,)" becomes "(x,)"
    ∷ "{,,}" becomes "{}"
    ∷ "(a_b,`c`1_0)" becomes "(a_b,10)"
    ∷ "#!sh\n [ 1 <=*< 2 ]" becomes "[1<=*<2]"
    ∷ "- 1 / 2 * 3 ^ - 4" becomes "-1/2*3^-4"
    ∷ "\"a_ b\" `c` \"\\\\n\"" becomes "\"a_ b\"\"\\\\n\""
    ∷ "0xy AAAA_BBBB" becomes "0xyAAAABBBB"
    ∷ "(::a : ::b)" becomes "(::a:::b)"
    -- pairs are this, `:`, that
    ∷ "{,a->b,}" becomes "{a:b}"
    ∷ "({a->b}->(c:d))" becomes "({a:b}:(c:d))"
    -- head words that are no heads are quoted, heads stay
    ∷ "Set" becomes "\"Set\""
    ∷ "(Array->5)" becomes "(\"Array\":5)"
    ∷ "(,Array:5)" becomes "(\"Array\":5,)"
    ∷ "::Set::a" becomes "::\"Set\"::a"
    ∷ "((Bag),x)" becomes "(\"Bag\",x)"
    ∷ "(Array:{Array:2})" becomes "(Array:{\"Array\":2})"
    ∷ "(Set:{ , a : 0bTRUE , })" becomes "(Set:{a:0bTRUE})"
    ∷ []

-- accepted at level 2 by these rules, and its plain form
pub record Rewritten (rules : Rules) (r : Rewriting) : Type 0 where
  pub tree : Value
  pub accepted : Accepted rules.limits (codes r.text) level2 tree
  pub form_is : plain_form (codes r.text) tree ≡ codes r.form

-- the words of the reading of `{a->b}`, with this for the last
abbrev pub words : ℕ → List ℕ
words w = 11 ∷ 0 ∷ 6 ∷ 0 ∷ 0 ∷ 0 ∷ 3 ∷ 7 ∷ 1 ∷ 2 ∷ 0 ∷ 1 ∷ 2 ∷ 2 ∷ 7 ∷ 4 ∷ 5 ∷ 0 ∷ 2 ∷ 2 ∷ w ∷ []

pub record Plain : Type 0 where
  pub forms : Every (Rewritten base) rewritings
  -- words behind those of the nodes are free, and bytes behind the plain form stay
  pub written : (rest lent : List ℕ) → 5 ≤ length lent →
      Writes base (codes "{a->b}") (words 3 ++ rest) lent 2 (answer 0 6 5) (codes "{a:b}" ++ drop 5 lent)
  pub no_room : (rest lent : List ℕ) → length lent < 5 →
      Writes base (codes "{a->b}") (words 3 ++ rest) lent 2 (answer 8 6 5) lent
  -- 14 comes behind the reader's 8
  pub other_table : (w : ℕ) (rest lent : List ℕ) → (w ≡ 3 → ⊥) →
      Writes base (codes "{a->b}") (words w ++ rest) lent 2 (answer 14 0 0) lent
  pub short_table : (table lent : List ℕ) → length table < 21 →
      Writes base (codes "{a->b}") table lent 2 (answer 8 6 3) lent
  -- and before the writer's own, where no byte fits
  pub table_first : (w : ℕ) (rest : List ℕ) → (w ≡ 3 → ⊥) →
      Writes base (codes "{a->b}") (words w ++ rest) [] 2 (answer 14 0 0) []
