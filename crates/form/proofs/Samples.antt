-- A spelling for each class of tokens, by itself a token of the class. Assumes nothing.
use mathlib.Core.Path.{◌≡◌, refl, subst, ap, ◌∙◌}
use mathlib.Core.Logic.{inl}
use mathlib.Core.Bool.{true, false}
use mathlib.Core.List.{List, [], ◌∷◌}
use Prim.Native.Nat.{ℕ, ◌-◌}
use native.Mathlib.Omega.{arith}
use lib.ListN.{get_or}
use Rattle.rules.specs.Class.{codes, has, In, just}
use Rattle.rules.specs.Rule.{one, many, row, lit, Takes, nothing, byte, both, left, right, At}
use Rattle.rules.specs.Plain.{Matches, no_byte, one_byte, joined, in_left, in_right, no_more, one_more}
use Rattle.rules.proofs.Bools.{and_left, and_right}
use Rattle.rules.proofs.Classes.{apart, apart_span, apart_no, in_just}
use Rattle.rules.proofs.Matches.{row_end}
use Rattle.rules.proofs.Plain.{takes_whole}
use Rattle.lexicon.specs.declared.Base.{Base}
use Rattle.lexicon.specs.declared.Base.TheVariants.{Two, Eight, Ten, Sixteen}
use Rattle.lexicon.specs.declared.Head.{Head}
use Rattle.lexicon.specs.declared.Head.TheVariants.{Array, Set, Bag, Mix, IntervalSet, IntervalBag, TupleArray, Relation, TupleBag, Article, Excuse, Heading, Renaming}
use Rattle.lexicon.specs.declared.Form.TheVariants.{Word, CodePoint}
use Rattle.lexicon.specs.declared.Kind.TheVariants.{Ignorance, Boolean, Integer, Fraction, Bits, Blob, Text, Later}
use Rattle.lexicon.specs.Bytes.{decimal, word_start, word_rest, radix}
use Rattle.lexicon.specs.Literals.{groups, nonsigned, integer, radix_point, code_mark, code_point_of}
use Rattle.lexicon.specs.Literals.{word as word-rule}
use Rattle.lexicon.specs.Values.{read, value, mark_alone}
use Rattle.lexicon.specs.Bad.{BadCode}
use Rattle.lexicon.specs.Token.{an_ignorance, a_boolean, an_integer, a_fraction, a_bits, a_blob, a_word, a_code_point, a_later, head_word}
use Rattle.lexicon.proofs.Unfit.{binary_bytes}
use Rattle.grammar.specs.Tokens
use Rattle.grammar.specs.Tokens.{Class, Atom, Spelling, Tok, atom, text, names, round, curly, square, mark, later, spelled}
use Rattle.form.specs.Bare.{bare_from}
use Rattle.form.specs.Spell.{Spelt, quoted_bytes, mark_bytes}
use Rattle.form.proofs.Fits.{all_in}
use Rattle.form.proofs.Formed.{inner_formed}
use Rattle.form.proofs.Spelts.{Lone}
use Rattle.form.proofs.Neighbours.{Lones, none, some}
use Rattle.form.proofs.Number.{point_sound}
use Rattle.form.proofs.Pieces.{spelt, whole, row_self, round_lone, curly_lone, square_lone, names_lone, mark_lone, quotes_lone, head_lone}
use Rattle.form.proofs.Length.{head_two}

abbrev sample_atom : Atom → List ℕ
sample_atom Tokens.ignorance = codes "0sIGNORANCE"
sample_atom (Tokens.boolean true) = codes "0bTRUE"
sample_atom (Tokens.boolean false) = codes "0bFALSE"
sample_atom (Tokens.integer true) = codes "+0"
sample_atom (Tokens.integer false) = codes "0"
sample_atom Tokens.fraction = codes "0.0"
sample_atom Tokens.bits = codes "0bb"
sample_atom Tokens.blob = codes "0xb"

abbrev sample_text : Spelling → List ℕ
sample_text Tokens.quoted = quoted_bytes (codes "a")
sample_text Tokens.word = codes "a"
sample_text Tokens.code_point_of = codes "0c0"

abbrev sample : Class → List ℕ
sample (atom a) = sample_atom a
sample (text (spelled x)) = sample_text x
sample (text (Tokens.head_word h)) = codes (head_word h)
sample names = codes "::"
sample round = codes "("
sample curly = codes "{"
sample square = codes "["
sample (mark m) = mark_bytes m
sample later = codes "0L"

-- ---- numbers

one_digit : Matches (groups 1 decimal) (codes "0")
unfolding has
one_digit = joined (joined (joined (one_byte refl) no_byte) no_more) no_more

zero_number : Matches nonsigned (codes "0")
zero_number = in_right (in_right (in_left (joined (in_right no_byte) one_digit)))

signed_zero : Matches integer (codes "+0")
unfolding has
signed_zero = joined (in_left (joined (one_byte refl) (in_right no_byte))) zero_number

pointed : Matches radix_point (codes "0.0")
pointed =
    joined (in_right no_byte)
    (in_right (in_right (in_left (joined (in_right no_byte)
    (joined one_digit (joined (joined (in_right no_byte) (joined (row_self (codes ".")) (in_right no_byte))) one_digit))))))

atom_lone : (a : Atom) → Lone (spelt (atom a) (sample_atom a))
unfolding all_in has bare_from
atom_lone Tokens.ignorance =
    record {
      kind = Ignorance;
      class_is = refl;
      is = record { told = whole an_ignorance _ (row_self (codes "0sIGNORANCE")) };
      sound = λ x. x;
      inked = refl;
      formed = inner_formed _ refl;
      stays = refl;
    }
atom_lone (Tokens.boolean true) =
    record {
      kind = Boolean true;
      class_is = refl;
      is = record { told = whole (a_boolean true) _ (row_self (codes "0bTRUE")) };
      sound = λ x. x;
      inked = refl;
      formed = inner_formed _ refl;
      stays = refl;
    }
atom_lone (Tokens.boolean false) =
    record {
      kind = Boolean false;
      class_is = refl;
      is = record { told = whole (a_boolean false) _ (row_self (codes "0bFALSE")) };
      sound = λ x. x;
      inked = refl;
      formed = inner_formed _ refl;
      stays = refl;
    }
atom_lone (Tokens.integer true) =
    record {
      kind = Integer true;
      class_is = refl;
      is = record { told = (whole an_integer (codes "+0") signed_zero, refl) };
      sound = λ x. x;
      inked = refl;
      formed = inner_formed _ refl;
      stays = refl;
    }
atom_lone (Tokens.integer false) =
    record {
      kind = Integer false;
      class_is = refl;
      is = record { told = (whole an_integer (codes "0") (joined (in_right no_byte) zero_number), refl) };
      sound = λ x. x;
      inked = refl;
      formed = inner_formed _ refl;
      stays = refl;
    }
atom_lone Tokens.fraction =
    record {
      kind = Fraction;
      class_is = refl;
      is = record { told = whole a_fraction (codes "0.0") (joined (in_left pointed) (in_right no_byte)) };
      sound = point_sound (codes "0.0") ((takes_whole radix_point (codes "0.0")).1 pointed);
      inked = refl;
      formed = inner_formed _ refl;
      stays = refl;
    }
atom_lone Tokens.bits =
    record {
      kind = Bits;
      class_is = refl;
      is = record { told = whole a_bits (codes "0bb") (in_left (joined (row_self (codes "0bb")) (in_right no_byte))) };
      sound = λ x. x;
      inked = refl;
      formed = inner_formed _ refl;
      stays = refl;
    }
atom_lone Tokens.blob =
    record {
      kind = Blob;
      class_is = refl;
      is = record { told = whole a_blob (codes "0xb") (in_left (joined (row_self (codes "0xb")) (in_right no_byte))) };
      sound = binary_bytes (mark_alone ((takes_whole (lit "0xb") (codes "0xb")).1 (row_self (codes "0xb"))));
      inked = refl;
      formed = inner_formed _ refl;
      stays = refl;
    }

-- ---- Texts

rest_matches : (bs : List ℕ) → all_in word_rest bs ≡ true → Matches (many (one word_rest)) bs
unfolding all_in
rest_matches [] e = no_more
rest_matches (b ∷ bs) e = one_more (one_byte (and_left (has word_rest b) _ e)) (rest_matches bs (and_right (has word_rest b) _ e))

word_matches : (b : ℕ) (bs : List ℕ) → In word_start b → all_in word_rest bs ≡ true → Matches word-rule (b ∷ bs)
word_matches b bs i e = joined (one_byte i) (rest_matches bs e)

head_matches : (h : Head) → Matches word-rule (codes (head_word h))
unfolding all_in has
head_matches Array = word_matches _ _ refl refl
head_matches Set = word_matches _ _ refl refl
head_matches Bag = word_matches _ _ refl refl
head_matches Mix = word_matches _ _ refl refl
head_matches IntervalSet = word_matches _ _ refl refl
head_matches IntervalBag = word_matches _ _ refl refl
head_matches TupleArray = word_matches _ _ refl refl
head_matches Relation = word_matches _ _ refl refl
head_matches TupleBag = word_matches _ _ refl refl
head_matches Article = word_matches _ _ refl refl
head_matches Excuse = word_matches _ _ refl refl
head_matches Heading = word_matches _ _ refl refl
head_matches Renaming = word_matches _ _ refl refl

letter : Matches word-rule (codes "a")
unfolding all_in has
letter = word_matches _ _ refl refl

no_head : (h : Head) → Takes (codes "a") (lit (head_word h)) 0 1 → ⊥
no_head h t = omega (arith, head_two h, row_end (codes (head_word h)) t)

zero_code : Matches code_point_of (codes "0c0")
unfolding has
zero_code = in_right (in_right (in_left (joined (joined (row_self (codes "0c")) (in_right no_byte)) (joined (one_byte refl) no_more))))

-- its third byte is 0, so its number has no other mark, and is 0
zero_at : (n : ℕ) {i : ℕ} → apart (just 0x30) (just n) ≡ true → i ≡ 2 → At (codes "0c0") (just n) i → ⊥
zero_at n {i} e f a = apart_no (just 0x30) (just n) 0x30 e (in_just 0x30) (subst (λ (x : ℕ). In (just n) (get_or (codes "0c0") x 0)) f a.1)

third : (a b n : ℕ) {k : ℕ} → apart (just 0x30) (just n) ≡ true → Takes (codes "0c0") (row (a ∷ b ∷ n ∷ [])) 0 k → ⊥
third a b n e (both (byte p f) (both (byte q g) (byte r h))) = zero_at n e (omega (arith, f, g)) r

code_zero : (b : Base) {s v : ℕ} → Takes (codes "0c0") (code_mark b) 0 s → v ≡ value (radix b) (read (codes "0c0") s (3 - s)) → v ≡ 0
unfolding apart apart_span
code_zero Two t e = absurd (third _ _ 0x62 refl t)
code_zero Eight t e = absurd (third _ _ 0x6F refl t)
code_zero Ten (both t (left (byte a f))) e = absurd (zero_at 0x64 refl (row_end (codes "0c") t) a)
code_zero Ten {s} (both t (right (nothing q))) e =
    let f : s ≡ 2 = omega (arith, row_end (codes "0c") t, q) in
    e ∙ ap (λ (x : ℕ). value (radix Ten) (read (codes "0c0") x (3 - x))) f
code_zero Sixteen t e = absurd (third _ _ 0x78 refl t)

code_sound : BadCode (codes "0c0") 0 3 → ⊥
code_sound b =
    let c = b.code in
    b.bad (inl (omega (arith, code_zero c.base c.before c.value_is)))

text_lone : (x : Spelling) → Lone (spelt (text (spelled x)) (sample_text x))
unfolding all_in has
text_lone Tokens.quoted = quotes_lone (codes "a") letter
text_lone Tokens.word =
    record {
      kind = Text Word;
      class_is = refl;
      is = record { told = (whole a_word (codes "a") letter, no_head) };
      sound = λ x. x;
      inked = refl;
      formed = inner_formed _ refl;
      stays = refl;
    }
text_lone Tokens.code_point_of =
    record {
      kind = Text CodePoint;
      class_is = refl;
      is = record { told = whole a_code_point (codes "0c0") zero_code };
      sound = code_sound;
      inked = refl;
      formed = inner_formed _ refl;
      stays = refl;
    }

-- ---- any token

later_lone : Lone (spelt later (codes "0L"))
unfolding all_in has
later_lone =
    record {
      kind = Later;
      class_is = refl;
      is = record { told = whole a_later _ (row_self (codes "0L")) };
      sound = λ x. x;
      inked = refl;
      formed = inner_formed _ refl;
      stays = refl;
    }

sample_lone : (c : Class) → Lone (spelt c (sample c))
sample_lone (atom a) = atom_lone a
sample_lone (text (spelled x)) = text_lone x
sample_lone (text (Tokens.head_word h)) = head_lone h (head_matches h)
sample_lone names = names_lone
sample_lone round = round_lone
sample_lone curly = curly_lone
sample_lone square = square_lone
sample_lone (mark m) = mark_lone m
sample_lone later = later_lone

-- a row of tokens, each spelled by the sample of its class
abbrev pub samples : List Tok → List Spelt
samples [] = []
samples (t ∷ ts) = spelt t.class (sample t.class) ∷ samples ts

pub samples_lone : (ts : List Tok) → Lones (samples ts)
samples_lone [] = none
samples_lone (t ∷ ts) = some (sample_lone t.class) (samples_lone ts)
