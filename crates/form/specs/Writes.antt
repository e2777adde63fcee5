-- The answers of the writer and the converter, number, place, count and every byte of the lent buffer, for every level
-- number, text, table and buffer: 02, request 5, 'The reader's refusals come first, room judged by that table; then a
-- table whose first words aren't what the reading writes is 14 at 0; then no room is 8 with the bytes needed. Nothing
-- is written under any of them; accepted, count is the bytes written', and request 6, 'A converter takes a level and a
-- text, reads by the old rules with room for 1,024 nodes and writes the plain form; refusals as in request 5, without
-- 14.' Assumes nothing.
use Rattle.std.specs.Prelude.{List, ℕ, length}
use Rattle.std.proofs.Math.Option.{Option, none, some}
use Rattle.grammar.specs.Tree.{Value}
use Rattle.reading.specs.declared.Answer.{Answer}
use Rattle.reading.specs.declared.Rules.{Rules}
use Rattle.reading.specs.Answers.{Reading}
use Rattle.reading.specs.Tabled.{Tabled}
use Rattle.reading.specs.Buffer.{Fills}
use Rattle.form.specs.Spell.{plain_form}

module _ (Judged : Answer → Option Value → Type 0) (text lent : List ℕ) where
  -- the answer where the text is judged so, and the lent buffer as it is then
  pub data Rewrites : Answer → List ℕ → Type 0 where
    refused : {a : Answer} → Judged a none → Rewrites a lent
    told : {a b : Answer} {v : Value} {left : List ℕ} → Judged a (some v) →
        Fills lent (length text) (plain_form text v) b left → Rewrites b left

-- the writer judges the text with its table
abbrev pub Writes : Rules → (text words lent : List ℕ) → ℕ → Answer → List ℕ → Type 0
Writes rules text words lent number = Rewrites (Tabled rules text words number) text lent

-- the converter the text alone, 'with room for 1,024 nodes': for as many as the rules let a table have
abbrev pub Converts : Rules → (text lent : List ℕ) → ℕ → Answer → List ℕ → Type 0
Converts rules text lent number = Rewrites (Reading rules text rules.nodes number) text lent
