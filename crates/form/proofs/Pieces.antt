-- The tokens of a text as the plain form spells them, each by itself. Assumes nothing.
use mathlib.Core.Path.{◌≡◌, refl, sym, subst, ap, ◌∙◌}
use mathlib.Core.Logic.{inl}
use mathlib.Core.Bool.{Bool, true, false}
use mathlib.Core.List.{List, [], ◌∷◌, append-nil}
use Prim.Native.Nat.{ℕ, ◌<◌}
use native.Mathlib.Omega.{arith}
use lib.ListN.{length, get_or}
use Rattle.rules.specs.Class.{In, any_of, codes, has}
use Rattle.rules.specs.Class as Bytes
use Rattle.rules.specs.Rule.{Rule, one, ◌then◌, many, opt, row, lit, Takes, byte, both, At}
use Rattle.rules.specs.Plain.{Matches, no_byte, one_byte, joined, in_left, no_more, one_more}
use Rattle.rules.proofs.Bounds.{all_of, all_of_lem}
use Rattle.rules.proofs.Classes.{apart, apart_span, apart_no, includes, in_some, includes_in, in_just}
use Rattle.rules.proofs.Bools.{and_both}
use Rattle.rules.proofs.Matches.{forward}
use Rattle.rules.proofs.Plain.{plain, takes_whole, row_matches}
use Rattle.rules.proofs.Ways.{opens, opens_at, end_takes}
use Rattle.lexicon.specs.declared.Bound.{Bound}
use Rattle.lexicon.specs.declared.Bound.TheVariants.{Open, Less, LessEqual}
use Rattle.lexicon.specs.declared.Sign.{Sign}
use Rattle.lexicon.specs.declared.Sign.TheVariants.{RoundOpen, RoundClose, CurlyOpen, CurlyClose, SquareOpen, SquareClose, Comma, ArrowRight, ArrowLeft, Dots, Star}
use Rattle.lexicon.specs.declared.Head.{Head}
use Rattle.lexicon.specs.declared.Form.TheVariants.{Quoted, Word, HeadWord, CodePoint}
use Rattle.lexicon.specs.declared.Kind.{Kind}
use Rattle.lexicon.specs.declared.Kind.TheVariants.{Ignorance, Boolean, Integer, Fraction, Bits, Blob, Text, Symbol, Colon, TwoColons}
use Rattle.lexicon.specs.Bytes.{word_start, word_rest}
use Rattle.lexicon.specs.Space.{sp}
use Rattle.lexicon.specs.Literals.{ignorance, boolean, integer, code_point_of, plus_minus, segment, content, plain_byte, restricted}
use Rattle.lexicon.specs.Literals.{quoted as quoted-rule, word as word-rule}
use Rattle.lexicon.specs.Symbols.{side, symbol}
use Rattle.lexicon.specs.Bad.{BadQuoted, in_first, in_further}
use Rattle.lexicon.specs.Token.{Lexeme, an_ignorance, a_boolean, an_integer, a_fraction, a_bits, a_blob, a_quoted, a_word, a_symbol, rule, head_word, Here, Is, Bad}
use Rattle.lexicon.proofs.Pieces.{token_alone, bad_there}
use Rattle.lexicon.proofs.Segments.{segment_single}
use Rattle.grammar.specs.Tokens
use Rattle.grammar.specs.Tokens.{Span, Class, Mark, Atom, atom, text, names, round, curly, square, mark, spelled, class_kind}
use Rattle.reading.proofs.At.{kind_of}
use Rattle.form.specs.Bare.{bare}
use Rattle.form.specs.Spell
use Rattle.form.specs.Spell.{quoted_bytes, part, mark_bytes}
use Rattle.form.proofs.Fits.{Fits, numbers_kept, all_in, numbers, exact, ink_fits, integer_fits, fraction_fits, bits_fit, blob_fits, quoted_fits, narrow}
use Rattle.form.proofs.Strip.{strips, ink_step}
use Rattle.form.proofs.Digit.{left_numeric, blob_bare}
use Rattle.form.proofs.Number.{fractions}
use Rattle.form.proofs.Quotes.{texts}
use Rattle.form.proofs.Bounded.{inner}
use Rattle.form.proofs.Signs.{colon, end_here, colons_one, colons_more}
use Rattle.form.proofs.Formed.{formed_join, inner_formed, sign_formed, colon_formed, segment_formed, quoted_formed}
use Rattle.form.proofs.Spelts.{Lone, own}
use Rattle.form.proofs.Twice.{bare_twice, bare_segment}
use Rattle.form.proofs.Numeric.{numbers_stay, numeric_inner}

-- ---- by itself

pub whole : (l : Lexeme) (bs : List ℕ) → Matches (rule l) bs → Here bs l 0 (length bs)
whole l bs m = end_here bs l (omega arith) (omega arith) ((takes_whole (rule l) bs).1 m)

abbrev pub spelt : Class → List ℕ → Spell.Spelt
spelt c bs = record { class = c; bytes = bs }

pub row_self : (bs : List ℕ) → Matches (row bs) bs
row_self [] = no_byte
row_self (b ∷ []) = one_byte (in_just b)
row_self (b ∷ c ∷ bs) = joined (one_byte (in_just b)) (row_self (c ∷ bs))

symbol_lone : (s : Sign) (bs : List ℕ) → own (class_kind (Symbol s)) bs ≡ bs → Matches (symbol s) bs → Lone (spelt (class_kind (Symbol s)) bs)
symbol_lone s bs o m = record {
  kind = Symbol s;
  class_is = refl;
  is = record { told = whole (a_symbol s) bs m };
  sound = λ x. x;
  inked = refl;
  formed = sign_formed s m;
  stays = o;
}

pub round_lone : Lone (spelt round (codes "("))
round_lone = symbol_lone RoundOpen _ refl (row_self (codes "("))

pub curly_lone : Lone (spelt curly (codes "{"))
curly_lone = symbol_lone CurlyOpen _ refl (row_self (codes "{"))

pub square_lone : Lone (spelt square (codes "["))
square_lone = symbol_lone SquareOpen _ refl (row_self (codes "["))

colon_byte : (bs : List ℕ) (x : ℕ) → get_or bs x 0 ≡ 0x3A → x < length bs → At bs colon x
colon_byte bs x e h = (h, subst (In colon) (sym e) (in_just 0x3A))

pub names_lone : Lone (spelt names (codes "::"))
names_lone =
    record {
      kind = TwoColons;
      class_is = refl;
      is = record {
        told = (
          refl,
          colons_more (codes "::") 1 (colon_byte (codes "::") 0 refl (omega arith))
              (colons_one (codes "::") (colon_byte (codes "::") 1 refl (omega arith)) (λ a. omega (arith, a.0))),
        );
      };
      sound = λ x. x;
      inked = refl;
      formed = formed_join colon_formed colon_formed;
      stays = refl;
    }

star_bytes : (a b : Bound) → Matches (symbol (Star a b)) (mark_bytes (Tokens.star a b))
star_bytes Open b = joined (row_self []) (joined (row_self (codes "*")) (row_self (codes (side b))))
star_bytes Less b = joined (row_self (codes "<")) (joined (row_self (codes "*")) (row_self (codes (side b))))
star_bytes LessEqual b = joined (row_self (codes "<=")) (joined (row_self (codes "*")) (row_self (codes (side b))))

pub mark_lone : (m : Mark) → Lone (spelt (mark m) (mark_bytes m))
mark_lone Tokens.round_close = symbol_lone RoundClose _ refl (row_self (codes ")"))
mark_lone Tokens.curly_close = symbol_lone CurlyClose _ refl (row_self (codes "}"))
mark_lone Tokens.square_close = symbol_lone SquareClose _ refl (row_self (codes "]"))
mark_lone Tokens.comma = symbol_lone Comma _ refl (row_self (codes ","))
mark_lone Tokens.right_arrow = symbol_lone ArrowRight _ refl (row_self (codes "->"))
mark_lone Tokens.left_arrow = symbol_lone ArrowLeft _ refl (row_self (codes "<-"))
mark_lone Tokens.dots = symbol_lone Dots _ refl (row_self (codes ".."))
mark_lone (Tokens.star a b) = symbol_lone (Star a b) _ refl (star_bytes a b)
mark_lone Tokens.colon =
    record {
      kind = Colon;
      class_is = refl;
      is = record { told = (refl, inl (colons_one (codes ":") (colon_byte (codes ":") 0 refl (omega arith)) (λ a. omega (arith, a.0)))) };
      sound = λ x. x;
      inked = refl;
      formed = colon_formed;
      stays = refl;
    }

-- ---- made bare

bare_matches : {Quotes : Type 0} {r : Rule} {a : List ℕ} → Fits numbers Quotes exact r exact → Matches r a → Matches r (bare a)
bare_matches f m = (strips numbers numbers_stay f m).matches

-- the first byte stays
bare_first : (a : List ℕ) → At a numbers 0 → get_or (bare a) 0 0 ≡ get_or a 0 0
bare_first [] h = absurd (omega (arith, h.0))
bare_first (b ∷ a) h = ap (λ (l : List ℕ). get_or l 0 0) (ink_step b a (numbers_stay b h.1))

integer_opens : opens numbers integer ≡ true
unfolding opens includes in_some
integer_opens = refl

-- the bytes of a match are of the class
run_in : (c : Bytes.Class) {a : List ℕ} → Matches (many (one c)) a → all_in c a ≡ true
unfolding all_in
run_in c no_more = refl
run_in c (one_more (one_byte {b = b} i) m) = and_both (has c b) _ i (run_in c m)

class_bytes : (c : Bytes.Class) (r : Rule) {a : List ℕ} → all_of c r ≡ true → Matches r a → all_in c a ≡ true
class_bytes c r {a} e m = run_in c ((takes_whole (many (one c)) a).0 (all_of_lem c ((takes_whole r a).1 m) e))

word_inner : all_of inner word-rule ≡ true
unfolding includes in_some
word_inner = refl

code_inner : all_of inner code_point_of ≡ true
unfolding includes in_some
code_inner = refl

ignorance_numbers : all_of numbers ignorance ≡ true
unfolding includes in_some
ignorance_numbers = refl

boolean_numbers : (b : Bool) → all_of numbers (boolean b) ≡ true
unfolding includes in_some
boolean_numbers true = refl
boolean_numbers false = refl

-- ---- a token of a text

-- a piece of it: a token of the class stands there and is not bad
pub record Piece (bytes : List ℕ) (c : Class) (s : Span) : Type 0 where
  pub is : Is bytes (kind_of c) s.first s.end
  pub sound : Bad bytes (kind_of c) s.first s.end → ⊥

module _ (bytes : List ℕ) (s : Span) where
  abbrev bs : List ℕ
  bs = part bytes s

  -- not bad there, so not by itself
  sound_alone : (k : Kind) → Is bytes k s.first s.end → (Bad bytes k s.first s.end → ⊥) → Bad bs k 0 (length bs) → ⊥
  sound_alone k i n b = n (bad_there bytes k i b)

  -- those that stay as they are
  pub word_lone : Piece bytes (text (spelled Tokens.word)) s → Lone (spelt (text (spelled Tokens.word)) bs)
  word_lone p =
      let i = class_bytes inner word-rule word_inner (plain bytes p.is.told.0.takes) in
      record {
        kind = Text Word;
        class_is = refl;
        is = token_alone bytes (Text Word) p.is;
        sound = λ x. x;
        inked = i;
        formed = inner_formed _ i;
        stays = refl;
      }

  pub code_lone : Piece bytes (text (spelled Tokens.code_point_of)) s → Lone (spelt (text (spelled Tokens.code_point_of)) bs)
  code_lone p =
      let i = class_bytes inner code_point_of code_inner (plain bytes p.is.told.takes) in
      record {
        kind = Text CodePoint;
        class_is = refl;
        is = token_alone bytes (Text CodePoint) p.is;
        sound = sound_alone (Text CodePoint) p.is p.sound;
        inked = i;
        formed = inner_formed _ i;
        stays = refl;
      }

  -- the literals, made bare
  pub literal_lone : (a : Atom) → Piece bytes (atom a) s → Lone (spelt (atom a) (bare bs))
  literal_lone Tokens.ignorance p =
      let f = ink_fits numbers ignorance ignorance_numbers in
      let m = plain bytes p.is.told.takes in
      let i = numeric_inner (left_numeric f m) in
      record {
        kind = Ignorance;
        class_is = refl;
        is = record { told = whole an_ignorance (bare bs) (bare_matches f m) };
        sound = λ x. x;
        inked = i;
        formed = inner_formed _ i;
        stays = bare_twice bs;
      }
  literal_lone (Tokens.boolean b) p =
      let f = ink_fits numbers (boolean b) (boolean_numbers b) in
      let m = plain bytes p.is.told.takes in
      let i = numeric_inner (left_numeric f m) in
      record {
        kind = Boolean b;
        class_is = refl;
        is = record { told = whole (a_boolean b) (bare bs) (bare_matches f m) };
        sound = λ x. x;
        inked = i;
        formed = inner_formed _ i;
        stays = bare_twice bs;
      }
  literal_lone (Tokens.integer x) p =
      let f = narrow (integer_fits numbers numbers_kept) in
      let m = plain bytes p.is.told.0.takes in
      let i = numeric_inner (left_numeric f m) in
      let a = opens_at bs numbers integer integer_opens ((takes_whole integer bs).1 m) in
      record {
        kind = Integer x;
        class_is = refl;
        is = record {
          told = (
            whole an_integer (bare bs) (bare_matches f m),
            (token_alone bytes (Integer x) p.is).told.1
                ∙ ap (has plus_minus) (sym (bare_first bs a)),
          );
        };
        sound = λ x. x;
        inked = i;
        formed = inner_formed _ i;
        stays = bare_twice bs;
      }
  literal_lone Tokens.fraction p =
      let f = fraction_fits numbers numbers_kept in
      let m = plain bytes p.is.told.takes in
      let i = numeric_inner (left_numeric f m) in
      record {
        kind = Fraction;
        class_is = refl;
        is = record { told = whole a_fraction (bare bs) (bare_matches f m) };
        sound = fractions bs m (sound_alone Fraction p.is p.sound);
        inked = i;
        formed = inner_formed _ i;
        stays = bare_twice bs;
      }
  literal_lone Tokens.bits p =
      let f = bits_fit numbers numbers_kept in
      let m = plain bytes p.is.told.takes in
      let i = numeric_inner (left_numeric f m) in
      record {
        kind = Bits;
        class_is = refl;
        is = record { told = whole a_bits (bare bs) (bare_matches f m) };
        sound = λ x. x;
        inked = i;
        formed = inner_formed _ i;
        stays = bare_twice bs;
      }
  literal_lone Tokens.blob p =
      let f = blob_fits numbers numbers_kept in
      let m = plain bytes p.is.told.takes in
      let i = numeric_inner (left_numeric f m) in
      record {
        kind = Blob;
        class_is = refl;
        is = record { told = whole a_blob (bare bs) (bare_matches f m) };
        sound = λ n. sound_alone Blob p.is p.sound (λ x b. n x (blob_bare bs b));
        inked = i;
        formed = inner_formed _ i;
        stays = bare_twice bs;
      }

  pub quoted_lone : Piece bytes (text (spelled Tokens.quoted)) s → Lone (spelt (text (spelled Tokens.quoted)) (bare bs))
  quoted_lone p =
      let m = plain bytes p.is.told.takes in
      record {
        kind = Text Quoted;
        class_is = refl;
        is = record { told = whole a_quoted (bare bs) (bare_matches (quoted_fits numbers) m) };
        sound = texts bs m (sound_alone (Text Quoted) p.is p.sound);
        inked = refl;
        formed = quoted_formed m;
        stays = bare_twice bs;
      }

-- ---- head words

start_plain : includes word_start plain_byte ≡ true
unfolding includes in_some
start_plain = refl

rest_plain : includes word_rest plain_byte ≡ true
unfolding includes in_some
rest_plain = refl

start_slash : apart (Bytes.just 0x5C) word_start ≡ true
unfolding apart apart_span
start_slash = refl

quote_in : In (any_of "\"") 0x22
unfolding has
quote_in = refl

rest_content : {a : List ℕ} → Matches (many (one word_rest)) a → Matches (many restricted) a
rest_content no_more = no_more
rest_content (one_more (one_byte {b = b} i) n) = one_more (in_left (in_left (one_byte (includes_in word_rest plain_byte b rest_plain i)))) (rest_content n)

word_content : {a : List ℕ} → Matches word-rule a → Matches content a
word_content (joined (one_byte {b = b} i) n) = in_left (in_left (joined (in_left (one_byte (includes_in word_start plain_byte b start_plain i))) (rest_content n)))

-- a word in quotes
quotes_segment : (a : List ℕ) → Matches word-rule a → Matches segment (quoted_bytes a)
quotes_segment a m = joined (one_byte quote_in) (joined (word_content m) (one_byte quote_in))

quotes_quoted : (a : List ℕ) → Matches word-rule a → Matches quoted-rule (quoted_bytes a)
quotes_quoted a m = subst (Matches quoted-rule) (append-nil (quoted_bytes a)) (joined (quotes_segment a m) no_more)

quotes_sound : (a : List ℕ) → Matches word-rule a → BadQuoted (quoted_bytes a) 0 (length (quoted_bytes a)) → ⊥
quotes_sound _ (joined {b = r} (one_byte {b = b} i) n) (in_first s t) = go s.before
  where
    go : {k : ℕ} → Takes (quoted_bytes (b ∷ r)) (lit "\"\\") 0 k → ⊥
    go (both (byte x e) (byte z f)) =
        apart_no (Bytes.just 0x5C) word_start b start_slash (subst (λ (k : ℕ). In (Bytes.just 0x5C) (get_or (quoted_bytes (b ∷ r)) k 0)) e z.1) i
quotes_sound a m (in_further {m = k} s t) =
    let e = (segment_single (quoted_bytes a)).same s ((takes_whole segment (quoted_bytes a)).1 (quotes_segment a m)) in
    let f = forward t.before in
    end_takes (quoted_bytes a) (opt sp then segment) refl (omega (arith, e, f)) t.match

pub quotes_lone : (a : List ℕ) → Matches word-rule a → Lone (spelt (text (spelled Tokens.quoted)) (quoted_bytes a))
quotes_lone a m =
    record {
      kind = Text Quoted;
      class_is = refl;
      is = record { told = whole a_quoted (quoted_bytes a) (quotes_quoted a m) };
      sound = quotes_sound a m;
      inked = refl;
      formed = segment_formed (quotes_segment a m);
      stays = bare_segment (quotes_segment a m);
    }

pub head_lone : (h : Head) → Matches word-rule (codes (head_word h)) → Lone (spelt (text (Tokens.head_word h)) (codes (head_word h)))
head_lone h m =
    record {
      kind = Text (HeadWord h);
      class_is = refl;
      is = record {
        told = (
          whole a_word (codes (head_word h)) m,
          (takes_whole (lit (head_word h)) (codes (head_word h))).1
              (row_self (codes (head_word h))),
        );
      };
      sound = λ x. x;
      inked = class_bytes inner word-rule word_inner m;
      formed = inner_formed _ (class_bytes inner word-rule word_inner m);
      stays =
          refl;
    }

module _ (bytes : List ℕ) (h : Head) (s : Span) (p : Piece bytes (text (Tokens.head_word h)) s) where
  head_matches : Matches word-rule (part bytes s)
  head_matches = plain bytes p.is.told.0.takes

  -- as a Text of its own, and as the head
  pub head_quoted : Lone (spelt (text (spelled Tokens.quoted)) (quoted_bytes (part bytes s)))
  head_quoted = quotes_lone (part bytes s) head_matches

  pub head_bytes : part bytes s ≡ codes (head_word h)
  head_bytes = row_matches (codes (head_word h)) (plain bytes p.is.told.1)

  pub head_self : Lone (spelt (text (Tokens.head_word h)) (codes (head_word h)))
  head_self = head_lone h (subst (Matches word-rule) head_bytes head_matches)
