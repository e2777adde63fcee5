-- What the customer's requests promise, proved in their order. Assumes nothing.
use mathlib.Core.Path.{◌≡◌, refl, sym, ap, subst, ◌∙◌}
use mathlib.Core.Logic.{◌⊎◌, inl, inr}
use mathlib.Core.List.{List, map}
use mathlib.Core.Option.{Option}
use Prim.Native.Nat.{ℕ, ◌*◌, ◌<◌}
use native.Mathlib.Omega.{arith}
use lib.ListN.{length, drop}
use Rattle.lexicon.specs.Utf8.{BadAt}
use Rattle.lexicon.proofs.Determined.{formed_or_bad, one_bad, one_front}
use Rattle.lexicon.proofs.Steps as Steps
use Rattle.lexicon.proofs.Unfit.{bad_no_bytes, no_bytes_only}
use Rattle.grammar.specs.Tree.{Value}
use Rattle.grammar.specs.Nodes.{node_words, skip_word, word_at, table}
use Rattle.reading.specs.declared.Answer.{Answer}
use Rattle.reading.specs.declared.Rules.{Rules}
use Rattle.reading.specs.Sizes.{room, with_arrow}
use Rattle.reading.specs.Tokens.{Follow}
use Rattle.reading.specs.Tabled.{Tabled}
use Rattle.reading.specs.Answers.{Reading, no_level, too_long, not_utf8, faulty, no_room, accepted}
use Rattle.reading.proofs.Numbers.{fault_number}
use Rattle.values.specs.declared.IntegerAnswer.{IntegerAnswer}
use Rattle.values.specs.Integer as Integer
use Rattle.values.specs.Integer.{IntegerAnswers}
use Rattle.values.specs.Bytes as Bytes
use Rattle.values.specs.Bytes.{Call, BytesAnswers}
use Rattle.values.specs.Utf8 as Utf8
use Rattle.values.specs.Utf8.{Utf8Answers, well_formed}
use Rattle.values.proofs.Utf8.{exactly_one}
use Rattle.files.proofs.Determined.{one_writing, one_checking, one_stored, whatever_text}
use Rattle.files.proofs.Exists.{some_writing, some_checking}
use Rattle.files.proofs.Exactly as Exactly
use Rattle.files.proofs.Room.{reader_eight}
use Rattle.files.proofs.SixteenBits.{row_fits}
use Rattle.files.proofs.ReadBack.{one_row}
use Rattle.files.proofs.AsRead.{stored_as_read}
use Rattle.reading.proofs.Tabled.{one_tabled}
use Rattle.reading.proofs.Unique.{one_answer}
use Rattle.reading.proofs.Found.{found}
use Rattle.reading.proofs.Arrow as Arrow
use Rattle.reading.proofs.Arrow.{retirement, never_fifteen}
use Rattle.form.specs.Turn.{unspelled}
use Rattle.form.proofs.Answers as Plain
use Rattle.form.proofs.Converted as Converted
use Rattle.form.proofs.Rereads.{reread_at}
use Rattle.form.proofs.Spellable as Spellable
use Rattle.layout.proofs.Back.{relaid_back}
use Rattle.layout.proofs.Twice.{relaid_joined}
use Rattle.layout.proofs.Laid.{kept}
use Rattle.layout.proofs.Replaced.{replaced}
use Rattle.demands.specs.Requests.{OneTest, PlainSteps, SameRefusal, SameRefusals, Padding, OneFive, FiveInside, OneWrite, OneCheck, TextUnseen, AcceptsExactly, WrittenAccepted, RoomEnough, OneFile, SixteenBits, SameNumbers, AsRead}
use Rattle.demands.specs.Requests.{OneJudgement, ChangedTable, OnePlain, NothingWritten, PlainRoom, WrittenReadsBack, AlsoWithoutArrow, EndsAlike, EveryRowSpelled}
use Rattle.demands.specs.Requests.{ArrowRetired, NothingChanged, NoSuchBytes, OldOrder, NoneAccepted, NoRole3, InOrder, NothingNew, StoredAlike, OneConversion, NeitherNumber, NothingConverted, ConvertedRoom, ConvertedReadsBack, ConvertedAlike, ConvertedAsWritten}
use Rattle.demands.specs.Requests.{RoomBySeven, SevenEach, OwnWords, LentWords, SameSkips}
use Rattle.demands.specs.Requests.{EscapePointed, SameFive}
use Rattle.demands.specs.Requests.{AsItStands, AnySpace, LaidBack, LaidTwice, LayoutKept, LayoutWords, AcceptedAlike, SamePlainForms, LayoutValues}
use Rattle.demands.proofs.Exists.{some_reading}
use Rattle.demands.proofs.Higher.{at_level_2}
use Rattle.demands.proofs.Blobs.{from_reader, from_call, inside}
use Rattle.demands.proofs.Escapes.{pointed, same_text}
use Rattle.demands.proofs.Plain.{by_reading, reader_own, written_back}
use Rattle.demands.proofs.Alike as Alike
use Rattle.demands.proofs.Alike.{written_alike}
use Rattle.demands.proofs.Relaid.{read, itself, read_again, same_plain_form}
use Rattle.demands.proofs.SameValues.{node_values}
use Rattle.demands.proofs.Skips as Skips
use Rattle.demands.proofs.Skips.{shown_table}
use Rattle.demands.proofs.Arrow as Retired
use Rattle.demands.proofs.Arrow.{no_arrows, unturned, answers_old, read_new, writes_old, stored_arrowless, converted_14, converted_15}

-- ---- 2. The steps of the UTF-8 test

pub one_test : OneTest
one_test text = exactly_one text

pub plain_steps : PlainSteps
plain_steps text all = let s = Steps.plain_steps text all in well_formed (Steps.steps_reach text s) s

-- all speak of the first byte at which no sequence begins
module _ (text : List ℕ) where
  test_bad : {number place steps : ℕ} → Utf8Answers text number place steps → number ≡ 3 → BadAt text place
  test_bad (well_formed w s) e = absurd (omega (arith, e))
  test_bad (Utf8.not_utf8 b s) e = b

  bad_test : {p number place steps : ℕ} → BadAt text p → Utf8Answers text number place steps → (number ≡ 3) × (place ≡ p)
  bad_test b (well_formed w s) = absurd (formed_or_bad text w b)
  bad_test b (Utf8.not_utf8 c s) = (refl, one_bad text c b)

  -- by what a call's answer says of that byte
  same_refusal : {Before : Type 0} {n p : ℕ} → (n ≡ 3 → BadAt text p) → ((q : ℕ) → BadAt text q → Before ⊎ ((n ≡ 3) × (p ≡ q))) → SameRefusal text Before n p
  same_refusal said bad number place steps u = ((λ e. bad_test (said e) u), (λ e. bad place (test_bad u e)))

  module _ (rules : Rules) where
    module _ {room level : ℕ} where
      reading_bad : {r : Answer} {t : Option Value} → Reading rules text room level r t → r.number ≡ 3 → BadAt text r.place
      reading_bad (no_level f) e = absurd (omega (arith, e))
      reading_bad (too_long l h) e = absurd (omega (arith, e))
      reading_bad (not_utf8 l h b) e = b
      reading_bad (faulty l h w f) e = absurd (fault_number rules.limits text 3 refl f.fault e)
      reading_bad (no_room l h w a m) e = absurd (omega (arith, e))
      reading_bad (accepted l h w a m) e = absurd (omega (arith, e))

      bad_reading : {p : ℕ} {r : Answer} {t : Option Value} → Reading rules text room level r t → BadAt text p → ((r.number ≡ 1) ⊎ (r.number ≡ 2)) ⊎ ((r.number ≡ 3) × (r.place ≡ p))
      bad_reading (no_level f) b = inl (inl refl)
      bad_reading (too_long l h) b = inl (inr refl)
      bad_reading (not_utf8 l h c) b = inr (refl, one_bad text c b)
      bad_reading (faulty l h w f) b = absurd (formed_or_bad text w b)
      bad_reading (no_room l h w a m) b = absurd (formed_or_bad text w b)
      bad_reading (accepted l h w a m) b = absurd (formed_or_bad text w b)

    integer_bad : {r : IntegerAnswer} → IntegerAnswers rules text r → r.number ≡ 3 → BadAt text r.place
    integer_bad (Integer.too_long h) e = absurd (omega (arith, e))
    integer_bad (Integer.not_utf8 h b) e = b
    integer_bad (Integer.not_integer h w x) e = absurd (omega (arith, e))
    integer_bad (Integer.outside h w x v o) e = absurd (omega (arith, e))
    integer_bad (Integer.accepted h w x v o) e = absurd (omega (arith, e))

    bad_integer : {p : ℕ} {r : IntegerAnswer} → IntegerAnswers rules text r → BadAt text p → (r.number ≡ 2) ⊎ ((r.number ≡ 3) × (r.place ≡ p))
    bad_integer (Integer.too_long h) b = inl refl
    bad_integer (Integer.not_utf8 h c) b = inr (refl, one_bad text c b)
    bad_integer (Integer.not_integer h w x) b = absurd (formed_or_bad text w b)
    bad_integer (Integer.outside h w x v o) b = absurd (formed_or_bad text w b)
    bad_integer (Integer.accepted h w x v o) b = absurd (formed_or_bad text w b)

    module _ (call : Call) {lent : List ℕ} where
      bytes_bad : {r : Answer} {left : List ℕ} → BytesAnswers call rules text lent r left → r.number ≡ 3 → BadAt text r.place
      bytes_bad (Bytes.too_long h) e = absurd (omega (arith, e))
      bytes_bad (Bytes.not_utf8 h b) e = b
      bytes_bad (Bytes.not_the_literal h w x) e = absurd (omega (arith, e))
      bytes_bad (Bytes.bad h w x y) e = absurd (omega (arith, e))
      bytes_bad (Bytes.no_room h w x y v m) e = absurd (omega (arith, e))
      bytes_bad (Bytes.accepted h w x y v m) e = absurd (omega (arith, e))

      bad_bytes : {p : ℕ} {r : Answer} {left : List ℕ} → BytesAnswers call rules text lent r left → BadAt text p → (r.number ≡ 2) ⊎ ((r.number ≡ 3) × (r.place ≡ p))
      bad_bytes (Bytes.too_long h) b = inl refl
      bad_bytes (Bytes.not_utf8 h c) b = inr (refl, one_bad text c b)
      bad_bytes (Bytes.not_the_literal h w x) b = absurd (formed_or_bad text w b)
      bad_bytes (Bytes.bad h w x y) b = absurd (formed_or_bad text w b)
      bad_bytes (Bytes.no_room h w x y v m) b = absurd (formed_or_bad text w b)
      bad_bytes (Bytes.accepted h w x y v m) b = absurd (formed_or_bad text w b)

pub same_refusals : SameRefusals
same_refusals rules text lent = (
  λ level r left a. same_refusal text (reading_bad text rules a.reading) (λ q b. bad_reading text rules a.reading b),
  λ r a. same_refusal text (integer_bad text rules a) (λ q b. bad_integer text rules a b),
  λ call r left a. same_refusal text (bytes_bad text rules call a) (λ q b. bad_bytes text rules call a b),
)

-- ---- 3. Padding

pub padding : Padding
padding text i j is = ((λ n. no_bytes_only text is.told.takes n), (λ ds x b. bad_no_bytes x b))

pub one_five : OneFive
one_five rules text table buffer level l r c left kept x y a b = ((λ e. from_reader rules text table level a y x b e), (λ e. from_call rules text table level a y x b e))

pub five_inside : FiveInside
five_inside rules text table buffer level j r c left kept a e is b = inside rules text table level a e is b

-- ---- 4. Stored files

pub one_write : OneWrite
one_write rules text lent =
    let x = some_writing rules text (some_reading rules text rules.nodes 2).2 lent in (x.0, x.1, x.2, λ s u w. one_writing rules text x.2 w)

pub one_check : OneCheck
one_check rules text bytes =
    let x = some_checking rules text (some_reading rules text rules.nodes 2).2 bytes in (x.0, x.1, λ s c. one_checking rules text x.1 c)

pub text_unseen : TextUnseen
text_unseen rules text other bytes r c e = whatever_text rules text other c e

pub accepts_exactly : AcceptsExactly
accepts_exactly rules text bytes r c = (
  λ e. Exactly.stored_produced rules text (Exactly.accepted_stored rules text c e),
  λ p. Exactly.produced_accepted rules text (p bytes (omega arith)) c,
)

-- what the writer's rules accept, those of the checker do
pub written_accepted : WrittenAccepted
written_accepted rules text lent r left w e = Exactly.written_accepted (with_arrow rules) text (writes_old rules text w (λ i. omega (arith, e, i))) e

pub room_enough : RoomEnough
room_enough rules text lent r left h w e = reader_eight rules text h w e

pub one_file : OneFile
one_file rules text a b r s c d e f = one_stored rules text (Exactly.accepted_stored rules text c e) (Exactly.accepted_stored rules text d f)

pub sixteen_bits : SixteenBits
sixteen_bits rules text a v s n x = row_fits rules text s n x

pub same_numbers : SameNumbers
same_numbers rules text other a b v w s n x y e = one_row (row_fits rules text s n x) (row_fits rules other s n y) (ap (λ (l : List ℕ). drop 3 l) e)

pub as_read : AsRead
as_read rules text bytes lent left level r s c z a e =
    let old = answers_old rules text a (λ i. omega (arith, e, i)) in
    let k = stored_as_read (with_arrow rules) text (Exactly.accepted_stored (with_arrow rules) text c z) (at_level_2 (with_arrow rules) text lent old e) e in
    record { so_long = k.0; nodes_at_5 = k.1; length_at_7 = k.2; words_from_9 = k.3 }

-- ---- 5. The plain form

-- every text with its table is judged
some_tabled : (rules : Rules) (text words : List ℕ) (level : ℕ) → (r : Answer) × (t : Option Value) × Tabled rules text words level r t
some_tabled rules text words level = let x = some_reading rules text (room rules (length words)) level in Plain.some_tabled rules text words x.1 x.2

pub one_judgement : OneJudgement
one_judgement rules text words level =
    let x = some_tabled rules text words level in
    (x.0, record { tree = x.1; tabled = x.2 }, λ s j. (one_tabled rules text words x.2 j.tabled).0)

pub changed_table : ChangedTable
changed_table rules text words left level a r x j = by_reading rules text words level x.tree left x.reading x.left_is j.tabled

pub one_plain : OnePlain
one_plain rules text words lent level =
    let x = some_tabled rules text words level in
    let y = Plain.some_writing rules text words lent x.1 x.2 in
    (y.0, y.1, y.2, λ s u w. Plain.one_writing rules text words lent y.2 w)

pub nothing_written : NothingWritten
nothing_written rules text words lent left level r w n = Plain.nothing_written rules text words lent w n

pub plain_room : PlainRoom
plain_room rules text words lent left level r h w e = reader_own rules text words level (omega (arith, h)) w e

pub reads_back : WrittenReadsBack
reads_back rules text words lent left level r w e h = written_back rules text words level w e (omega (arith, h))

pub reread : AlsoWithoutArrow
reread limits other text l m v a h w = reread_at limits l text v a other (omega (arith, h)) m w

pub ends_alike : EndsAlike
ends_alike rules text words lent left level other space r a b t u w e h x y = written_alike text rules words w e h x y

pub spellable : EveryRowSpelled
spellable l v k = Spellable.spellable l v k

-- ---- 6. The backward arrow

pub arrow_retired : ArrowRetired
arrow_retired rules bytes lent number old new old_left new_left x y = retirement rules bytes lent x y

pub nothing_changed : NothingChanged
nothing_changed rules bytes lent number old new old_left new_left n x y = (retirement rules bytes lent x y).alike (never_fifteen rules bytes n y.reading)

pub no_such_bytes : NoSuchBytes
no_such_bytes bytes h = Arrow.no_such_bytes bytes h

pub old_order : OldOrder
old_order limits l bytes ts t n e = Arrow.old_order limits l bytes ts t n e

pub none_accepted : NoneAccepted
none_accepted rules bytes lent left number r a x e = no_arrows rules bytes a x.reading e

pub no_role_3 : NoRole3
no_role_3 rules bytes lent left number i r a x e h is = Retired.no_role_3 rules bytes a lent i x e h is

pub in_order : InOrder
in_order rules text words level out a x = x.same_nodes ∙ ap (λ (v : Value). map unspelled (table v)) (unturned rules text a x.shown)

pub nothing_new : NothingNew
nothing_new rules text lent left r a w e = stored_arrowless rules text a w e

pub stored_alike : StoredAlike
stored_alike rules text bytes r n c = (
  λ e.
      let s = Exactly.accepted_stored (with_arrow rules) text c e in
      Exactly.stored_produced rules text (record { read_as = s.read_as; tree = s.tree; read = read_new rules text n s.read; bytes_are = s.bytes_are }),
  λ p. Exactly.produced_accepted (with_arrow rules) text (writes_old rules text (p bytes (omega arith)) (λ i. omega (arith, i))) c,
)

pub one_conversion : OneConversion
one_conversion rules text lent level =
    let x = some_reading rules text rules.nodes level in
    let y = Plain.some_conversion rules text lent x.1 x.2 in
    (y.0, y.1, y.2, λ s u w. Plain.one_conversion rules text lent y.2 w)

pub neither_number : NeitherNumber
neither_number rules text lent left level r w = ((λ e. converted_14 rules text w e), (λ e. converted_15 rules text w e))

pub nothing_converted : NothingConverted
nothing_converted rules text lent left level r w n = Plain.nothing_converted rules text lent w n

pub converted_room : ConvertedRoom
converted_room rules text lent left level r h w e = Converted.reader_eight rules text lent (omega (arith, h)) w e

pub converted_back : ConvertedReadsBack
converted_back rules text lent left level r w e h = Converted.converted_back (with_arrow rules) rules (omega arith) text level w e (omega (arith, h))

pub converted_alike : ConvertedAlike
converted_alike rules text lent left level other space r a b t u w e h x y = Alike.converted_alike text (with_arrow rules) rules (omega arith) w e (omega (arith, h)) x y

pub converted_as_written : ConvertedAsWritten
converted_as_written rules text words lent left level r w e = Converted.as_written rules text words lent w e

-- ---- 7. The seventh word

pub room_by_seven : RoomBySeven
room_by_seven words = refl

pub seven_each : SevenEach
seven_each rules bytes lent left number r a e = Skips.seven_each rules bytes lent left a e

pub own_words : OwnWords
own_words rules bytes lent left number r a e = Skips.own_words rules bytes lent left a e

pub lent_words : LentWords
lent_words rules text words level r j e = Skips.lent_words rules text words j.tabled e

pub same_skips : SameSkips
same_skips rules text words out lent left level r a x h y i l =
    let one = one_answer rules out lent y (x.accepted lent h) in
    let shown = shown_table rules text words x.shown in
    ap (λ (t : List ℕ). word_at t i skip_word) one.1
    ∙ Skips.same_skips x.other x.tree (drop (node_words * length (table x.tree)) lent) words i (in_order rules text words level out a x) shown
    (subst (λ (s : Answer). i < s.count) one.0 l)

-- ---- 8. The bad escape's place

pub escape_pointed : EscapePointed
escape_pointed rules text table left level r a e = pointed rules text table level a e

pub same_five : SameFive
same_five rules text table buffer level l r c left kept x of a b = same_text rules text table level a x of b

-- ---- 9. Layout

pub as_it_stands : AsItStands
as_it_stands rules text lent left level r a e = itself rules text lent left a e

pub any_space : AnySpace
any_space rules text lent left space level start from end r ts a e f row l m =
    let x = itself rules text lent left a e in
    replaced x space (subst (λ (n : ℕ). Follow text n ts from) (one_front text f x.front) row) l m

pub laid_back : LaidBack
laid_back text other x = relaid_back x

pub laid_twice : LaidTwice
laid_twice a b c x y = relaid_joined x y

pub layout_kept : LayoutKept
layout_kept limits text other l v x a = kept x limits l v a

pub same_words : LayoutWords
same_words rules text other lent space left filled level r s x w h e a z b = read_again rules x lent space left filled w h e a z b

pub accepted_alike : AcceptedAlike
accepted_alike rules text other lent space left filled level r s x w v h g e a b = (
  λ z. ap (λ (t : Answer). t.number) (read_again rules x lent space left filled v g e a z b).0,
  λ z. ap (λ (t : Answer). t.number) (read_again rules (relaid_back x) space lent filled left w h (sym e) b z a).0,
)

pub same_plain_forms : SamePlainForms
same_plain_forms rules text other words own lent buffer left filled level r s x a e b f = same_plain_form rules x words own a e b f

pub same_values : LayoutValues
same_values rules text other lent space left filled level r s x a e b z i h =
    let f = found rules text lent left level a e in
    let g = found rules other space filled level b z in
    node_values rules x (read rules text f.read) (read rules other g.read) i (subst (λ (n : ℕ). i < n) f.count_is h) left filled f.holds g.holds
