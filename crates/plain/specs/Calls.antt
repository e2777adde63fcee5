-- What is answered of nodes that are a text's. No rule. Assumes nothing.
use Rattle.std.specs.Prelude.{◌≡◌, List, ℕ, ◌≤◌, length}
use Rattle.grammar.specs.Tree.{Value}
use Rattle.grammar.specs.Level.{Level}
use Rattle.grammar.specs.Nodes.{table, table_words}
use Rattle.reading.specs.declared.Answer.{Answer}
use Rattle.reading.specs.declared.Limits.{Limits}
use Rattle.reading.specs.Answers.{Accepted}
use Rattle.reading.specs.Buffer.{Fills}
use Rattle.form.specs.Spell.{plain_form}

-- of the plain form of each accepted text whose nodes the words are
abbrev OfPlain : (text words : List ℕ) → (List ℕ → Type 0) → Type 0
OfPlain text words P =
    (limits : Limits) (l : Level) (v : Value) → Accepted limits text l v → words ≡ table_words (table v) →
    P (plain_form text v)

-- it is handed back
abbrev pub Fitted : (text words lent : List ℕ) → Answer → List ℕ → Type 0
Fitted text words lent r left = OfPlain text words (λ bs. Fills lent (length text) bs r left)

-- it is handed back where there is room for it
abbrev pub Filled : (text words lent : List ℕ) → Answer → List ℕ → Type 0
Filled text words lent r left =
    OfPlain text words (λ bs. length bs ≤ length lent → Fills lent (length text) bs r left)
