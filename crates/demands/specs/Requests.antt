-- What the customer's requests promise of every text, in their order and words. What stands in quotes is document 02's.
-- Each promise is a statement here, and proofs/Requests.antt proves it under the name beside it. Assumes nothing.
use Rattle.std.specs.Prelude.{◌≡◌, ◌⊎◌, ◌↔◌, true, false, List, [], ◌∷◌, ◌++◌, map, length, take, drop}
use Rattle.std.specs.Prelude.{ℕ, ◌+◌, ◌-◌, ◌*◌, ◌/◌, ◌%◌, ◌^◌, ◌≤◌, ◌<◌, min}
use Rattle.std.proofs.Math.Option.{Option, none, some}
use Rattle.rules.specs.Class.{codes}
use Rattle.rules.specs.Every.{Every}
use Rattle.rules.specs.Rule.{Longest}
use Rattle.rules.specs.Plain.{Matches, between}
use Rattle.lexicon.specs.declared.Token as Token
use Rattle.lexicon.specs.declared.Form.{Form}
use Rattle.lexicon.specs.declared.Form.TheVariants.{Quoted}
use Rattle.lexicon.specs.declared.Kind.{Kind}
use Rattle.lexicon.specs.declared.Kind.TheVariants.{Blob, Text}
use Rattle.lexicon.specs.Bytes.{base64}
use Rattle.lexicon.specs.Utf8.{WellFormed}
use Rattle.lexicon.specs.Space.{sp}
use Rattle.lexicon.specs.Front.{Front}
use Rattle.lexicon.specs.Literals.{blob}
use Rattle.lexicon.specs.Values.{Behind}
use Rattle.lexicon.specs.Bad.{FirstBad}
use Rattle.lexicon.specs.Padding.{BadBase64}
use Rattle.lexicon.specs.Token.{Is, Bad}
use Rattle.grammar.specs.Tokens.{Tok}
use Rattle.grammar.specs.Tree.{Value}
use Rattle.grammar.specs.Level.{Level, ◌Within◌, arrowless, keeps}
use Rattle.grammar.specs.Place.{Wrong}
use Rattle.grammar.specs.Nodes.{an_integer, a_text, a_bits, a_blob, kind_number_of}
use Rattle.grammar.specs.Nodes.{node_words, kind_word, first_word, end_word}
use Rattle.grammar.specs.Nodes.{role_word, skip_word, word_at, table, table_words}
use Rattle.grammar.specs.Stretches.{Stretches}
use Rattle.reading.specs.declared.Answer.{Answer}
use Rattle.reading.specs.declared.Limits.{Limits}
use Rattle.reading.specs.declared.Rules.{Rules}
use Rattle.reading.specs.Sizes.{base, room, with_arrow}
use Rattle.reading.specs.Tokens.{seen, Follow}
use Rattle.reading.specs.Tests.{test, First}
use Rattle.reading.specs.Faults.{NewerAt, TooDeep, tests}
use Rattle.reading.specs.Answers.{LevelOf, answer, Accepted, Reading, Answers}
use Rattle.reading.specs.Tabled.{Holds, Tabled, Judges}
use Rattle.reading.specs.Arrow.{NoArrows, Retirement}
use Rattle.values.specs.declared.IntegerAnswer.{IntegerAnswer}
use Rattle.values.specs.Integer.{IntegerAnswers}
use Rattle.values.specs.Exactly.{Exactly}
use Rattle.values.specs.Bytes.{Call, BytesAnswers}
use Rattle.values.specs.Text.{text_literal, text_call, TextAnswers}
use Rattle.values.specs.Bits.{bits_call}
use Rattle.values.specs.Blob.{blob_call, BlobAnswers}
use Rattle.values.specs.Utf8.{Utf8Answers}
use Rattle.files.specs.File.{number, row, file}
use Rattle.files.specs.Writes.{Read, Writes}
use Rattle.files.specs.Checks.{Checks}
use Rattle.form.specs.Turn.{turn, unspelled}
use Rattle.form.specs.Writes as Plain
use Rattle.form.specs.Reread.{Reread}
use Rattle.form.specs.Converted.{Converted}
use Rattle.form.specs.Spellable.{Spellable}
use Rattle.layout.specs.Relaid.{Relaid}
use Rattle.layout.specs.Kept.{Kept, SameWords}

-- ---- 2. 'The UTF-8 test takes eight plain ASCII bytes in one step wherever eight come next, else one sequence, and
-- also hands back the steps taken up to its place: for n bytes, all plain ASCII, n / 8 rounded down plus the remainder.
-- No answer and no place changes.'

-- the test has an answer for every text, and no other: `one_test`
abbrev pub OneTest : Type 0
OneTest =
    (text : List ℕ) →
    (number : ℕ) × (place : ℕ) × (steps : ℕ) × Utf8Answers text number place steps ×
    ((m p s : ℕ) → Utf8Answers text m p s → (m ≡ number) × (p ≡ place) × (s ≡ steps))

-- 'for n bytes, all plain ASCII, n / 8 rounded down plus the remainder': `plain_steps`
abbrev pub PlainSteps : Type 0
PlainSteps =
    (text : List ℕ) → Every (λ (b : ℕ). b < 0x80) text →
    Utf8Answers text 0 (length text) (length text / 8 + length text % 8)

-- 'No answer and no place changes', of a call that answers number n at place p for the text: where that is 3 the test
-- answers 3 too, with the same place; and where the test does, so does the call, but for what it tests before
abbrev pub SameRefusal : (text : List ℕ) (Before : Type 0) (n p : ℕ) → Type 0
SameRefusal text Before n p =
    (number place steps : ℕ) → Utf8Answers text number place steps →
    (n ≡ 3 → (number ≡ 3) × (place ≡ p)) × (number ≡ 3 → Before ⊎ ((n ≡ 3) × (p ≡ place)))

-- of the reader, which tests 1 and 2 before, and of the value calls, which test 2: `same_refusals`
abbrev pub SameRefusals : Type 1
SameRefusals =
    (rules : Rules) (text lent : List ℕ) →
    ((level : ℕ) (r : Answer) (left : List ℕ) → Answers rules text lent level r left →
    SameRefusal text ((r.number ≡ 1) ⊎ (r.number ≡ 2)) r.number r.place) ×
    ((r : IntegerAnswer) → IntegerAnswers rules text r → SameRefusal text (r.number ≡ 2) r.number r.place) ×
    ((call : Call) (r : Answer) (left : List ℕ) → BytesAnswers call rules text lent r left →
    SameRefusal text (r.number ≡ 2) r.number r.place)

-- ---- 3. 'RFC 4648 allows none, one or two, in the last group of four. More than two, or characters and `=` together
-- no multiple of four, is now 5 at the literal's first byte, at both levels alike, so demand 3 reads as before. Bits
-- left over under one or two `=` must be zero, else 5.'

-- a Blob's value is bad just when it is in base 64 and its characters are bad in these words: `padding`
abbrev pub Padding : Type 0
Padding =
    (text : List ℕ) (i j : ℕ) → Is text Blob i j →
    (Bad text Blob i j → (ds : List ℕ) × Behind text "0xy" 4 base64 i j ds × BadBase64 ds) ×
    ((ds : List ℕ) → Behind text "0xy" 4 base64 i j ds → BadBase64 ds → Bad text Blob i j)

-- 'is now 5 at the literal's first byte, at both levels alike': of a text that is a Blob and nothing else the reader
-- answers 5 at 0 just when the Blob call does: `one_five`
abbrev pub OneFive : Type 0
OneFive =
    (rules : Rules) (text table buffer : List ℕ) (level : ℕ) (l : Level) (r c : Answer) (left kept : List ℕ) →
    Exactly blob text → LevelOf level l → Answers rules text table level r left →
    BlobAnswers rules text buffer c kept →
    (r.number ≡ 5 → c ≡ answer 5 0 0) × (c.number ≡ 5 → r ≡ answer 5 0 0)

-- and where the reader's 5 stands at a Blob inside a text, the call answers 5 for that Blob: `five_inside`. That it
-- never does for a Blob of an accepted text is said of all its nodes (Pieces.antt: `NodePiece`, `blob`)
abbrev pub FiveInside : Type 0
FiveInside =
    (rules : Rules) (text table buffer : List ℕ) (level j : ℕ) (r c : Answer) (left kept : List ℕ) →
    Answers rules text table level r left → r.number ≡ 5 → Is text Blob r.place j →
    BlobAnswers rules (between text r.place j) buffer c kept → c ≡ answer 5 0 0

-- ---- 4. 'The insurer wants what the box read stored beside the text. … every number 16 bits, high byte first. We want
-- both the writer and the checker. … It accepts exactly what the writer would produce.' By request 6 the checker reads
-- by the old rules: by the writer's own, but that the backward arrow may be read (`with_arrow`)

-- the writer has an answer for every text and buffer, and no other: `one_write`
abbrev pub OneWrite : Type 0
OneWrite =
    (rules : Rules) (text lent : List ℕ) →
    (r : Answer) × (left : List ℕ) × Writes rules text lent r left ×
    ((s : Answer) (u : List ℕ) → Writes rules text lent s u → (r ≡ s) × (left ≡ u))

-- and so has the checker for every text and file: `one_check`
abbrev pub OneCheck : Type 0
OneCheck =
    (rules : Rules) (text bytes : List ℕ) →
    (r : Answer) × Checks rules text bytes r × ((s : Answer) → Checks rules text bytes s → r ≡ s)

-- 'in this order': under 12 and 13 the text is not looked at: `text_unseen`
abbrev pub TextUnseen : Type 0
TextUnseen =
    (rules : Rules) (text other bytes : List ℕ) (r : Answer) → Checks rules text bytes r →
    (r.number ≡ 12) ⊎ (r.number ≡ 13) → Checks rules other bytes r

-- the writer produces these bytes: into every buffer with room for them it writes them, and behind them leaves what
-- stood there
abbrev pub Produces : Rules → (text bytes : List ℕ) → Type 0
Produces rules text bytes =
    (lent : List ℕ) → length bytes ≤ length lent →
    Writes rules text lent (answer 0 (length text) (length bytes)) (bytes ++ drop (length bytes) lent)

-- 'It accepts exactly what the writer would produce': `accepts_exactly`
abbrev pub AcceptsExactly : Type 0
AcceptsExactly =
    (rules : Rules) (text bytes : List ℕ) (r : Answer) → Checks rules text bytes r →
    (r.number ≡ 0 → Produces rules text bytes) × (Produces rules text bytes → r.number ≡ 0)

-- so what a call of the writer has written is accepted, with the writer's own answer, also where the checker may read
-- the arrow and the writer may not: `written_accepted`
abbrev pub WrittenAccepted : Type 0
WrittenAccepted =
    (rules : Rules) (text lent : List ℕ) (r : Answer) (left : List ℕ) → Writes rules text lent r left →
    r.number ≡ 0 → Checks (with_arrow rules) text (take r.count left) r

-- and into a buffer with room for the file of the largest table every file fits: an 8 is then the reader's own:
-- `room_enough`
abbrev pub RoomEnough : Type 0
RoomEnough =
    (rules : Rules) (text lent : List ℕ) (r : Answer) (left : List ℕ) → 9 + 12 * rules.nodes ≤ length lent →
    Writes rules text lent r left → r.number ≡ 8 → Read rules text r none

-- and of one text no two files are accepted: `one_file`
abbrev pub OneFile : Type 0
OneFile =
    (rules : Rules) (text a b : List ℕ) (r s : Answer) → Checks rules text a r → Checks rules text b s →
    r.number ≡ 0 → s.number ≡ 0 → a ≡ b

-- 'every number 16 bits': where the sizes of text and table are below 2 ^ 16, as 01's 32,768 bytes and 1,024 nodes are,
-- so is every number that is stored, and none is cut to fit its two bytes: `sixteen_bits`
abbrev pub SixteenBits : Type 0
SixteenBits =
    (rules : Rules) (text : List ℕ) (a : Answer) (v : Value) → rules.text < 2 ^ 16 → rules.nodes < 2 ^ 16 →
    Read rules text a (some v) → Every (λ (n : ℕ). n < 2 ^ 16) (row text v)

-- what is stored can be read back: two texts with one file have equal lengths, equally many nodes and the same words of
-- each: `same_numbers`
abbrev pub SameNumbers : Type 0
SameNumbers =
    (rules : Rules) (text other : List ℕ) (a b : Answer) (v w : Value) → rules.text < 2 ^ 16 → rules.nodes < 2 ^ 16 →
    Read rules text a (some v) → Read rules other b (some w) → file text v ≡ file other w → row text v ≡ row other w

-- 'what the box read stored beside the text': the bytes by their places, where a reading of the text left so many nodes
-- in the table t
pub record Keeps (text t : List ℕ) (nodes : ℕ) (bytes : List ℕ) : Type 0 where
  pub so_long : length bytes ≡ 9 + 12 * nodes
  pub nodes_at_5 : take 2 (drop 5 bytes) ≡ number 2 nodes
  pub length_at_7 : take 2 (drop 7 bytes) ≡ number 2 (length text)
  -- word k of node i
  pub words_from_9 : (i k : ℕ) → i < nodes → k < 6 →
      take 2 (drop (9 + 12 * i + 2 * k) bytes) ≡ number 2 (word_at t i k)

-- an accepted file keeps what a reading of the text leaves in its table, at whichever level it is accepted, by the
-- checker's rules or by today's: `as_read`
abbrev pub AsRead : Type 0
AsRead =
    (rules : Rules) (text bytes lent left : List ℕ) (level : ℕ) (r s : Answer) →
    Checks (with_arrow rules) text bytes r → r.number ≡ 0 → Answers rules text lent level s left → s.number ≡ 0 →
    Keeps text left s.count bytes

-- ---- 5. 'From a level, a text and its table, write the plain form … The reader's refusals come first, room judged by
-- that table; then a table whose first words aren't what the reading writes is 14 at 0; then no room is 8 with the
-- bytes needed. Nothing is written under any of them; accepted, count is the bytes written. Where the output keeps the
-- text size, reading it gives the same nodes in all but first and last bytes, the order of this and that (with the node
-- and parent indices that follow from it), roles 2 and 3 taken as one, and a Text's detail. Writing that again gives
-- the same bytes.'

-- judging a text with its table has an answer, and no other: `one_judgement`
abbrev pub OneJudgement : Type 0
OneJudgement =
    (rules : Rules) (text words : List ℕ) (level : ℕ) →
    (r : Answer) × Judges rules text words level r × ((s : Answer) → Judges rules text words level s → r ≡ s)

-- 'a table whose first words aren't what the reading writes is 14': it is 14 just where a reading into the table would
-- change it, and else the reading's answer: `changed_table`
abbrev pub ChangedTable : Type 0
ChangedTable =
    (rules : Rules) (text words left : List ℕ) (level : ℕ) (a r : Answer) → Answers rules text words level a left →
    Judges rules text words level r → (left ≡ words → r ≡ a) × ((left ≡ words → ⊥) → r ≡ answer 14 0 0)

-- the writer has an answer for every level number, text, table and buffer, and no other: `one_plain`
abbrev pub OnePlain : Type 0
OnePlain =
    (rules : Rules) (text words lent : List ℕ) (level : ℕ) →
    (r : Answer) × (left : List ℕ) × Plain.Writes rules text words lent level r left ×
    ((s : Answer) (u : List ℕ) → Plain.Writes rules text words lent level s u → (r ≡ s) × (left ≡ u))

-- 'Nothing is written under any of them': `nothing_written`
abbrev pub NothingWritten : Type 0
NothingWritten =
    (rules : Rules) (text words lent left : List ℕ) (level : ℕ) (r : Answer) →
    Plain.Writes rules text words lent level r left → (r.number ≡ 0 → ⊥) → left ≡ lent

-- into a buffer of twice the text's bytes every plain form fits: an 8 is then the reader's own: `plain_room`
abbrev pub PlainRoom : Type 0
PlainRoom =
    (rules : Rules) (text words lent left : List ℕ) (level : ℕ) (r : Answer) → 2 * length text ≤ length lent →
    Plain.Writes rules text words lent level r left → r.number ≡ 8 →
    Reading rules text (room rules (length words)) level r none

-- what reading the output of a text with its table gives, at the same level
pub record ReadsBack (rules : Rules) (text words : List ℕ) (level : ℕ) (out : List ℕ) : Type 0 where
  -- the text's derivation, which its table shows, and the output's
  pub tree : Value
  pub shown : Tabled rules text words level (answer 0 (length text) (length (table tree))) (some tree)
  pub other : Value
  -- it is accepted, into every table with room for the text's nodes, with as many nodes
  pub accepted : (lent : List ℕ) → length (table tree) ≤ room rules (length lent) →
      Answers rules out lent level (answer 0 (length out) (length (table tree)))
      (table_words (table other) ++ drop (node_words * length (table tree)) lent)
  -- 'the same nodes in all but first and last bytes, … and a Text's detail' (`unspelled`), 'the order of this and that
  -- …, roles 2 and 3 taken as one' (`turn`)
  pub same_nodes : map unspelled (table other) ≡ map unspelled (table (turn tree))
  -- 'Writing that again gives the same bytes': with whichever table shows that reading, into whichever buffer they fit
  pub again : (shows lent : List ℕ) → length (table tree) ≤ room rules (length shows) → Holds shows other →
      length out ≤ length lent →
      Plain.Writes rules out shows lent level (answer 0 (length out) (length out)) (out ++ drop (length out) lent)

-- 'Where the output keeps the text size', of what a call has written: `reads_back`
abbrev pub WrittenReadsBack : Type 0
WrittenReadsBack =
    (rules : Rules) (text words lent left : List ℕ) (level : ℕ) (r : Answer) →
    Plain.Writes rules text words lent level r left → r.number ≡ 0 → r.count ≤ rules.text →
    ReadsBack rules text words level (take r.count left)

-- the same of any level that has the forms of the text's but for the backward arrow, which no output has, and whether
-- the arrow may be read or not: `reread`
abbrev pub AlsoWithoutArrow : Type 0
AlsoWithoutArrow =
    (limits other : Limits) (text : List ℕ) (l m : Level) (v : Value) → Accepted limits text l v →
    limits.depth ≤ other.depth → arrowless l Within m → Reread other text m v

-- two readings, of a text and of what was written of it, end alike
abbrev pub EndAlike : Answer → Answer → Type 0
EndAlike a b = (a.number ≡ b.number) × (a.count ≡ b.count)

-- what the output is to another reader: a reading of the text and one of what a call has written, with room for equally
-- many nodes, end alike at every level, whichever the call's. So an old reader takes the output just when it takes the
-- text, with as many nodes, and answers 'newer form' for the one just when it does for the other: `ends_alike`
abbrev pub EndsAlike : Type 0
EndsAlike =
    (rules : Rules) (text words lent left : List ℕ) (level other space : ℕ) (r a b : Answer) (t u : Option Value) →
    Plain.Writes rules text words lent level r left → r.number ≡ 0 →
    r.count ≤ rules.text → Reading rules text space other a t →
    Reading rules (take r.count left) space other b u →
    EndAlike a b

-- the tree rules speak of rows of tokens; every row of a level's tree can be spelled as bytes that read back as that
-- row (docs/DECISIONS.md, point 40): `spellable`
abbrev pub EveryRowSpelled : Type 0
EveryRowSpelled = (l : Level) (v : Value) → keeps l v ≡ true → Spellable l v

-- ---- 6. 'From now on `<-` at a place where it was allowed is refused with a new number 15 at its first byte;
-- elsewhere it stays 6. At one token 15 comes right after 6, and 6 is judged for that arrow by the old rules. It holds
-- at both levels, so demand 3 stands, and demand 2 no longer counts the arrow among the forms; … and role 3 no longer
-- arises. Files stored under request 4 may still use it: the checker reads their text by the old rules and takes
-- exactly what the writer gave before this, and demand 3 holds there too. A converter takes a level and a text, reads
-- by the old rules with room for 1,024 nodes and writes the plain form; refusals as in request 5, without 14. Nothing
-- new is stored with an arrow.' The three demands are said for any rules: `both::read_both` has them by today's, and
-- `both::read_both_old` by the old ones. Request 4's `AcceptsExactly`, too, is said for any

-- what changed for a text, and that nothing else did: `arrow_retired`
abbrev pub ArrowRetired : Type 0
ArrowRetired =
    (rules : Rules) (bytes lent : List ℕ) (number : ℕ) (old new : Answer) (old_left new_left : List ℕ) →
    Answers (with_arrow rules) bytes lent number old old_left → Answers rules bytes lent number new new_left →
    Retirement rules bytes number old old_left new new_left

-- for a text without the arrow nothing did: `nothing_changed`
abbrev pub NothingChanged : Type 0
NothingChanged =
    (rules : Rules) (bytes lent : List ℕ) (number : ℕ) (old new : Answer) (old_left new_left : List ℕ) →
    NoArrows bytes → Answers (with_arrow rules) bytes lent number old old_left →
    Answers rules bytes lent number new new_left → (old ≡ new) × (old_left ≡ new_left)

-- and such is every text without these two bytes side by side: `no_such_bytes`
abbrev pub NoSuchBytes : Type 0
NoSuchBytes = (bytes : List ℕ) → ((i : ℕ) → between bytes i (i + 2) ≡ codes "<-" → ⊥) → NoArrows bytes

-- 'the old rules' are 01's, 'At one token: 4, 6, 7, 5, 11', as if there were no 15: `old_order`
abbrev pub OldOrder : Type 0
OldOrder =
    (limits : Limits) (l : Level) (bytes : List ℕ) (ts : List Tok) (t : Token.Token) (n : ℕ) →
    limits.arrow ≡ true →
    First (tests limits l bytes ts t) n ↔
    First (test 7 (NewerAt l bytes ts t)
    ∷ test 6 (Wrong l ts (seen t))
    ∷ test 5 (t.bad ≡ true)
    ∷ test 11 (TooDeep limits ts t)
    ∷ []) n

-- 'demand 2 no longer counts the arrow among the forms': where it is retired, no accepted text has one (the derivation
-- has none by `Derived`, which is the demand's): `none_accepted`
abbrev pub NoneAccepted : Type 0
NoneAccepted =
    (rules : Rules) (bytes lent left : List ℕ) (number : ℕ) (r : Answer) → rules.limits.arrow ≡ false →
    Answers rules bytes lent number r left → r.number ≡ 0 → NoArrows bytes

-- 'role 3 no longer arises': no node of the table has it: `no_role_3`
abbrev pub NoRole3 : Type 0
NoRole3 =
    (rules : Rules) (bytes lent left : List ℕ) (number i : ℕ) (r : Answer) → rules.limits.arrow ≡ false →
    Answers rules bytes lent number r left → r.number ≡ 0 → i < r.count → word_at left i role_word ≡ 3 → ⊥

-- so of request 5's exceptions two are left, places and a Text's detail: no this changes its place with a that:
-- `in_order`
abbrev pub InOrder : Type 0
InOrder =
    (rules : Rules) (text words : List ℕ) (level : ℕ) (out : List ℕ) → rules.limits.arrow ≡ false →
    (x : ReadsBack rules text words level out) → map unspelled (table x.other) ≡ map unspelled (table x.tree)

-- 'Nothing new is stored with an arrow': `nothing_new`
abbrev pub NothingNew : Type 0
NothingNew =
    (rules : Rules) (text lent left : List ℕ) (r : Answer) → rules.limits.arrow ≡ false →
    Writes rules text lent r left → r.number ≡ 0 → NoArrows text

-- and for a text without an arrow the checker accepts exactly what the writer gives today: `stored_alike`
abbrev pub StoredAlike : Type 0
StoredAlike =
    (rules : Rules) (text bytes : List ℕ) (r : Answer) → NoArrows text → Checks (with_arrow rules) text bytes r →
    (r.number ≡ 0 → Produces rules text bytes) × (Produces rules text bytes → r.number ≡ 0)

-- the converter has an answer for every level number, text and buffer, and no other: `one_conversion`
abbrev pub OneConversion : Type 0
OneConversion =
    (rules : Rules) (text lent : List ℕ) (level : ℕ) →
    (r : Answer) × (left : List ℕ) × Plain.Converts rules text lent level r left ×
    ((s : Answer) (u : List ℕ) → Plain.Converts rules text lent level s u → (r ≡ s) × (left ≡ u))

-- 'without 14', and by the old rules without 15: `neither_number`
abbrev pub NeitherNumber : Type 0
NeitherNumber =
    (rules : Rules) (text lent left : List ℕ) (level : ℕ) (r : Answer) →
    Plain.Converts (with_arrow rules) text lent level r left → (r.number ≡ 14 → ⊥) × (r.number ≡ 15 → ⊥)

-- a refusal writes nothing: `nothing_converted`
abbrev pub NothingConverted : Type 0
NothingConverted =
    (rules : Rules) (text lent left : List ℕ) (level : ℕ) (r : Answer) →
    Plain.Converts rules text lent level r left → (r.number ≡ 0 → ⊥) → left ≡ lent

-- into a buffer of twice the text's bytes every conversion fits: an 8 is then the reader's own: `converted_room`
abbrev pub ConvertedRoom : Type 0
ConvertedRoom =
    (rules : Rules) (text lent left : List ℕ) (level : ℕ) (r : Answer) → 2 * length text ≤ length lent →
    Plain.Converts rules text lent level r left → r.number ≡ 8 → Reading rules text rules.nodes level r none

-- what was converted is accepted by today's rules, where it keeps the text size, with the same nodes but for what
-- request 5 excepts, and converted again it is the same bytes: `converted_back`
abbrev pub ConvertedReadsBack : Type 0
ConvertedReadsBack =
    (rules : Rules) (text lent left : List ℕ) (level : ℕ) (r : Answer) →
    Plain.Converts (with_arrow rules) text lent level r left → r.number ≡ 0 → r.count ≤ rules.text →
    Converted (with_arrow rules) rules text level (take r.count left)

-- and at every level, whichever the call's, today's reading of it ends like the old reading of the text:
-- `converted_alike`
abbrev pub ConvertedAlike : Type 0
ConvertedAlike =
    (rules : Rules) (text lent left : List ℕ) (level other space : ℕ) (r a b : Answer) (t u : Option Value) →
    Plain.Converts (with_arrow rules) text lent level r left → r.number ≡ 0 → r.count ≤ rules.text →
    Reading (with_arrow rules) text space other a t → Reading rules (take r.count left) space other b u →
    EndAlike a b

-- of a text that is accepted by today's rules, with its table, it is request 5's plain form: `converted_as_written`
abbrev pub ConvertedAsWritten : Type 0
ConvertedAsWritten =
    (rules : Rules) (text words lent left : List ℕ) (level : ℕ) (r : Answer) →
    Plain.Writes rules text words lent level r left → r.number ≡ 0 →
    Plain.Converts (with_arrow rules) text lent level r left

-- ---- 7. 'Each node gets a seventh word: the index just past its last descendant, or past itself if it has none. Room
-- becomes the smaller of 1,024 and words divided by 7, rounded down, and an accepted reading writes 7 × count words. Of
-- all nodes: children lie inside their parent's stretch, and siblings' stretches follow on without gaps. Stored version
-- 1 files keep six words. … Request 5's tables have it too, and there it follows the indices.' That a stored file keeps
-- six of the seven is in `Keeps`, which also says where each of them stands

-- 'the smaller of 1,024 and words divided by 7, rounded down': `room_by_seven`
abbrev pub RoomBySeven : Type 0
RoomBySeven = (words : ℕ) → room base words ≡ min 1024 (words / 7)

-- 'an accepted reading writes 7 × count words': the table has so many, and behind them is as it was: `seven_each`
abbrev pub SevenEach : Type 0
SevenEach =
    (rules : Rules) (bytes lent left : List ℕ) (number : ℕ) (r : Answer) → Answers rules bytes lent number r left →
    r.number ≡ 0 →
    (length left ≡ length lent) × (7 * r.count ≤ length lent) × (drop (7 * r.count) left ≡ drop (7 * r.count) lent)

-- 'Of all nodes': of every accepted reading, on the table's own words, that a node's descendants are the nodes between
-- it and the index that its seventh word tells, that children lie inside, that siblings follow on, that a walk from one
-- to the next meets the children and nothing else, and that the root's word is the count: `own_words`
abbrev pub OwnWords : Type 0
OwnWords =
    (rules : Rules) (bytes lent left : List ℕ) (number : ℕ) (r : Answer) → Answers rules bytes lent number r left →
    r.number ≡ 0 → Stretches left r.count

-- 'Request 5's tables have it too': so it is with a table that is not refused there: `lent_words`
abbrev pub LentWords : Type 0
LentWords =
    (rules : Rules) (text words : List ℕ) (level : ℕ) (r : Answer) → Judges rules text words level r → r.number ≡ 0 →
    Stretches words r.count

-- 'and there it follows the indices': `ReadsBack` compares the nodes with their stretches; where no this changes its
-- place with a that, the word is the same in both tables, node for node: `same_skips`
abbrev pub SameSkips : Type 0
SameSkips =
    (rules : Rules) (text words out lent left : List ℕ) (level : ℕ) (r : Answer) → rules.limits.arrow ≡ false →
    (x : ReadsBack rules text words level out) → length (table x.tree) ≤ room rules (length lent) →
    Answers rules out lent level r left → (i : ℕ) → i < r.count → word_at left i skip_word ≡ word_at words i skip_word

-- ---- 8. 'For a code point out of range inside quotes, 5 now gives the backslash of that escape, the first such one,
-- and no longer the literal's first byte. Bare code points are as before. In the Text call, too, the place is counted
-- within the piece. Both levels change alike.' The last is demand 3: where the lower level answers 5, both answer alike

-- the literal for whose value a text is refused with 5, and the place that is told
pub record BadLiteral (rules : Rules) (text : List ℕ) (place : ℕ) : Type 0 where
  pub kind : Kind
  pub first : ℕ
  pub end : ℕ
  pub is : Is text kind first end
  pub bad : Bad text kind first end
  -- in the literal, never before it
  pub within : (first ≤ place) × (place < end)
  -- 'the backslash of that escape, the first such one'
  pub inside_quotes : kind ≡ Text Quoted → FirstBad text first end place
  pub backslash : kind ≡ Text Quoted → between text place (place + 2) ≡ codes "\\<"
  -- 'Bare code points are as before', and so are Fractions and Blobs
  pub as_before : (kind ≡ Text Quoted → ⊥) → place ≡ first
  -- 'In the Text call, too, the place is counted within the piece'
  pub in_call : (form : Form) → kind ≡ Text form → (buffer kept : List ℕ) (c : Answer) →
      TextAnswers rules (between text first end) buffer c kept → c ≡ answer 5 (place - first) 0

-- of every text that is refused with 5: `escape_pointed`
abbrev pub EscapePointed : Type 0
EscapePointed =
    (rules : Rules) (text table left : List ℕ) (level : ℕ) (r : Answer) → Answers rules text table level r left →
    r.number ≡ 5 → BadLiteral rules text r.place

-- and of a text that is a Text literal and nothing else the reader answers 5 just when the Text call does, with the
-- same place: `same_five`
abbrev pub SameFive : Type 0
SameFive =
    (rules : Rules) (text table buffer : List ℕ) (level : ℕ) (l : Level) (r c : Answer) (left kept : List ℕ) →
    Exactly text_literal text → LevelOf level l → Answers rules text table level r left →
    TextAnswers rules text buffer c kept → (r.number ≡ 5 → c ≡ r) × (c.number ≡ 5 → r ≡ c)

-- ---- 9. 'Take any accepted text, replace stretches of dividing space outside quotes and outside the dropped first
-- line, each stretch taken at its full length and not empty, by other non-empty dividing space. If the result is valid
-- UTF-8 and keeps the size, it is accepted at the same level with the same kinds, parents, roles, details and skip
-- words.' The replacement is `Relaid` (layout/specs/Relaid.antt)

-- 'Take any accepted text': every one is so related to itself, with nothing replaced: `as_it_stands`
abbrev pub AsItStands : Type 0
AsItStands =
    (rules : Rules) (text lent left : List ℕ) (level : ℕ) (r : Answer) → Answers rules text lent level r left →
    r.number ≡ 0 → Relaid text text

-- and the dividing space before any token of it, or behind the last one, 'taken at its full length and not empty', may
-- be any other 'non-empty dividing space': `any_space`
abbrev pub AnySpace : Type 0
AnySpace =
    (rules : Rules) (text lent left space : List ℕ) (level start from end : ℕ) (r : Answer) (ts : List Tok) →
    Answers rules text lent level r left → r.number ≡ 0 → Front text start → Follow text start ts from →
    Longest text sp from end → Matches sp space → Relaid text (take from text ++ (space ++ drop end text))

-- a replacement can be undone: `laid_back`; and two, one after the other, are one: `laid_twice`
abbrev pub LaidBack : Type 0
LaidBack = (text other : List ℕ) → Relaid text other → Relaid other text

abbrev pub LaidTwice : Type 0
LaidTwice = (a b c : List ℕ) → Relaid a b → Relaid b c → Relaid a c

-- on derivations, at every level and by any limits: the other text has a derivation of the level with the same nodes
-- but for their places, and the same plain form: `layout_kept`
abbrev pub LayoutKept : Type 0
LayoutKept =
    (limits : Limits) (text other : List ℕ) (l : Level) (v : Value) → Relaid text other → Accepted limits text l v →
    Kept limits text other l v

-- on the words of two tables of the same length, whatever stood in them, 'If the result is valid UTF-8 and keeps the
-- size': `same_words`
abbrev pub LayoutWords : Type 0
LayoutWords =
    (rules : Rules) (text other lent space left filled : List ℕ) (level : ℕ) (r s : Answer) → Relaid text other →
    WellFormed other → length other ≤ rules.text → length space ≡ length lent →
    Answers rules text lent level r left → r.number ≡ 0 → Answers rules other space level s filled →
    (s ≡ answer 0 (length other) r.count) × SameWords left filled r.count

-- so of two such texts, both UTF-8 and not too long, none is refused where the other is accepted: `accepted_alike`
abbrev pub AcceptedAlike : Type 0
AcceptedAlike =
    (rules : Rules) (text other lent space left filled : List ℕ) (level : ℕ) (r s : Answer) → Relaid text other →
    WellFormed text → WellFormed other → length text ≤ rules.text → length other ≤ rules.text →
    length space ≡ length lent → Answers rules text lent level r left → Answers rules other space level s filled →
    (r.number ≡ 0 → s.number ≡ 0) × (s.number ≡ 0 → r.number ≡ 0)

-- beyond the request: calls that write the plain form of both texts write the same bytes: `same_plain_forms`
abbrev pub SamePlainForms : Type 0
SamePlainForms =
    (rules : Rules) (text other words shown lent buffer left filled : List ℕ) (level : ℕ) (r s : Answer) →
    Relaid text other → Plain.Writes rules text words lent level r left → r.number ≡ 0 →
    Plain.Writes rules other shown buffer level s filled → s.number ≡ 0 →
    take r.count left ≡ take s.count filled

-- the piece of the node at index i, by the words of a table
abbrev pub piece_at : (text table : List ℕ) → ℕ → List ℕ
piece_at text t i = between text (word_at t i first_word) (word_at t i end_word)

-- a call that hands back bytes gives the same for both pieces, with the same buffer: number, count and every byte
abbrev pub SameBytes : Call → Rules → List ℕ → List ℕ → Type 0
SameBytes call rules piece other =
    (lent left filled : List ℕ) (a b : Answer) → BytesAnswers call rules piece lent a left →
    BytesAnswers call rules other lent b filled → EndAlike a b × (left ≡ filled)

-- the values of the node at index i of both tables, by its kind
pub record SameValues (rules : Rules) (text left other filled : List ℕ) (i : ℕ) : Type 0 where
  pub integer : word_at left i kind_word ≡ kind_number_of an_integer → (a b : IntegerAnswer) →
      IntegerAnswers rules (piece_at text left i) a → IntegerAnswers rules (piece_at other filled i) b →
      (a.number ≡ b.number) × (a.value ≡ b.value)
  pub text_bytes : word_at left i kind_word ≡ kind_number_of a_text →
      SameBytes text_call rules (piece_at text left i) (piece_at other filled i)
  pub bits : word_at left i kind_word ≡ kind_number_of a_bits →
      SameBytes bits_call rules (piece_at text left i) (piece_at other filled i)
  pub blob_bytes : word_at left i kind_word ≡ kind_number_of a_blob →
      SameBytes blob_call rules (piece_at text left i) (piece_at other filled i)

-- and the value calls give the same values for every node: `same_values`
abbrev pub LayoutValues : Type 0
LayoutValues =
    (rules : Rules) (text other lent space left filled : List ℕ) (level : ℕ) (r s : Answer) → Relaid text other →
    Answers rules text lent level r left → r.number ≡ 0 → Answers rules other space level s filled → s.number ≡ 0 →
    (i : ℕ) → i < r.count → SameValues rules text left other filled i
