-- The three demands on the reader, in their order and words. What stands in quotes is the customer's. Each demand is a
-- statement here, and proofs/Demands.antt proves it under the name beside it; `Demands` is all three of one text, the
-- contract of `both::read_both`. Assumes nothing.
use Rattle.std.specs.Prelude.{◌≡◌, List, ℕ}
use Rattle.grammar.specs.Tree.{Value}
use Rattle.grammar.specs.Level.{level1}
use Rattle.reading.specs.declared.Answer.{Answer}
use Rattle.reading.specs.declared.Rules.{Rules}
use Rattle.reading.specs.Answers.{Answers}
use Rattle.reading.specs.Agree.{Agree}
use Rattle.values.specs.declared.IntegerAnswer.{IntegerAnswer}
use Rattle.values.specs.Integer.{IntegerAnswers}
use Rattle.values.specs.Bytes.{Call, BytesAnswers}
use Rattle.values.specs.Text.{text_call}
use Rattle.values.specs.Bits.{bits_call}
use Rattle.values.specs.Blob.{blob_call}
use Rattle.demands.specs.Derived.{Acceptable, Decides}
use Rattle.demands.specs.Pieces.{Pieces}

-- ---- 1. 'Any bytes, any level number and any lent table give an answer. A refusal gives its number and its place from
-- the table of refusals, and the lent table is then unchanged. No call relies on its caller having looked first.'

-- of one reading with the answer r, which leaves the lent table as `left`
pub record Answered (rules : Rules) (bytes lent : List ℕ) (number : ℕ) (r : Answer) (left : List ℕ) : Type 0 where
  -- 'its number and its place from the table of refusals': each clause of `Reading`, inside `Answers`, is a line of
  -- that table
  pub answers : Answers rules bytes lent number r left
  -- no other number, place or count, and no other table, is an answer too
  pub only : (s : Answer) (u : List ℕ) → Answers rules bytes lent number s u → (s ≡ r) × (u ≡ left)
  -- 'and the lent table is then unchanged'
  pub unchanged : (r.number ≡ 0 → ⊥) → left ≡ lent

-- `every_answer`, for any rules. That no call relies on its caller is that no public function has a `requires`.
abbrev pub Demand1 : Type 0
Demand1 =
    (rules : Rules) (bytes lent : List ℕ) (number : ℕ) →
    (r : Answer) × (left : List ℕ) × Answered rules bytes lent number r left

-- the Integer call has an answer for a piece, and no other
abbrev pub OneInteger : Rules → List ℕ → Type 0
OneInteger rules piece =
    (r : IntegerAnswer) × IntegerAnswers rules piece r × ((s : IntegerAnswer) → IntegerAnswers rules piece s → r ≡ s)

-- of one call that hands back bytes, with the answer r, which leaves the lent buffer as `left`
pub record BytesAnswered (call : Call) (rules : Rules) (piece lent : List ℕ) (r : Answer) (left : List ℕ) :
    Type 0 where
  pub answers : BytesAnswers call rules piece lent r left
  -- no other number, place or count, and no other buffer, is an answer too
  pub only : (s : Answer) (u : List ℕ) → BytesAnswers call rules piece lent s u → (r ≡ s) × (left ≡ u)
  -- a refusal writes nothing
  pub unchanged : (r.number ≡ 0 → ⊥) → left ≡ lent

-- such a call has an answer for a piece and a buffer, and no other
abbrev pub OneOf : Call → Rules → (piece lent : List ℕ) → Type 0
OneOf call rules piece lent = (r : Answer) × (left : List ℕ) × BytesAnswered call rules piece lent r left

-- the value calls too have an answer for every piece and buffer, and no other: `every_value`
abbrev pub ValueAnswers : Type 0
ValueAnswers =
    (rules : Rules) (piece lent : List ℕ) →
    OneInteger rules piece × OneOf text_call rules piece lent × OneOf bits_call rules piece lent ×
    OneOf blob_call rules piece lent

-- ---- 2. 'At levels 1 and 2, a text is accepted exactly when the MUON grammar, as condensed in document 01, derives
-- it, no literal in it has a bad value and it keeps the size rules there. The node table is that derivation, node for
-- node. The values of integers and texts are those the grammar gives them.' And 02, request 6: 'demand 2 no longer
-- counts the arrow among the forms' (reading's `allowed`)

-- of one reading
pub record Derives (rules : Rules) (bytes lent : List ℕ) (number : ℕ) (r : Answer) (left : List ℕ) : Type 0 where
  -- accepted exactly when derived, and the table then
  pub decides : Decides rules bytes lent number r left
  -- what the value calls answer for the bytes of an Integer, Text, Bits or Blob node of an accepted text
  pub values : (v : Value) → Acceptable rules bytes lent number v → Pieces rules bytes v

-- `every_decision`
abbrev pub Demand2 : Type 0
Demand2 =
    (rules : Rules) (bytes lent : List ℕ) (number : ℕ) (r : Answer) (left : List ℕ) →
    Answers rules bytes lent number r left → Derives rules bytes lent number r left

-- ---- 3. 'Read any text at level 1 and again at level 2, each time with a lent table of the same length and the same
-- words. Whatever the bytes and whatever the table held: unless level 1 answers "newer form", the two readings end
-- alike in number, place, count and every word of the table. If level 1 answers "newer form", its place is the first
-- byte of the first construct beyond level 1 at a place for a value. Level 2 then accepts the text, or its refusal
-- stands there or later.'

-- `old_and_new`: `Agree` has the last three sentences above as its three fields
abbrev pub Demand3 : Type 0
Demand3 =
    (rules : Rules) (bytes lent : List ℕ) (old new : Answer) (old_left new_left : List ℕ) →
    Answers rules bytes lent 1 old old_left → Answers rules bytes lent 2 new new_left →
    Agree level1 bytes old old_left new new_left

-- ---- all three, of one text read at level 1 into the table `first` and at level 2 into the table `second`:
-- `all_demands`

pub record Demands (rules : Rules) (bytes first second : List ℕ) (old : Answer) (old_left : List ℕ) (new : Answer)
    (new_left : List ℕ) : Type 0 where
  pub old_answered : Answered rules bytes first 1 old old_left
  pub new_answered : Answered rules bytes second 2 new new_left
  pub old_derives : Derives rules bytes first 1 old old_left
  pub new_derives : Derives rules bytes second 2 new new_left
  -- with tables of the same length and the same words
  pub agree : first ≡ second → Agree level1 bytes old old_left new new_left
