-- Which classes may stand next to each other, as a table; spelled tokens whose neighbours it allows are read as these. Assumes nothing.
use mathlib.Core.Path.{◌≡◌, refl, sym, subst}
use mathlib.Core.Logic.{⊎_elim}
use mathlib.Core.Bool.{Bool, true, false, not, ◌&&◌, ◌||◌, false≢true}
use mathlib.Core.List.{List, [], ◌∷◌, ◌++◌, append_assoc, append-nil}
use Prim.Native.Nat.{ℕ}
use native.Mathlib.Omega.{arith}
use lib.ListN.{length, drop}
use Rattle.rules.specs.Class.{codes, has, ◌upto◌}
use Rattle.rules.specs.Class as Bytes
use Rattle.rules.specs.Rule.{lit, At}
use Rattle.rules.proofs.Classes.{apart, apart_span, apart_no, includes, in_some, includes_in, just_is}
use Rattle.rules.proofs.Bools.{and_left, and_right}
use Rattle.rules.proofs.Plain.{takes_whole, row_matches}
use Rattle.rules.proofs.Ways.{opens, opens_at}
use Rattle.lexicon.specs.declared.Bound.{Bound}
use Rattle.lexicon.specs.declared.Bound.TheVariants.{Open, Less, LessEqual}
use Rattle.lexicon.specs.declared.Sign.TheVariants.{RoundOpen, RoundClose, CurlyOpen, CurlyClose, SquareOpen, SquareClose, Comma, ArrowRight, ArrowLeft, Dots, Star}
use Rattle.lexicon.specs.declared.Form.TheVariants.{Quoted, Word, HeadWord, CodePoint}
use Rattle.lexicon.specs.declared.Kind.{Kind}
use Rattle.lexicon.specs.declared.Kind.TheVariants.{Ignorance, Boolean, Integer, Fraction, Bits, Blob, Text, Later, Symbol, Colon, TwoColons}
use Rattle.lexicon.specs.Token.{Lexeme, an_ignorance, a_boolean, an_integer, a_fraction, a_bits, a_blob, a_quoted, a_word, a_code_point, a_later, a_symbol, rule, Told}
use Rattle.lexicon.proofs.Tokens.{every, for_every}
use Rattle.grammar.specs.Tokens
use Rattle.grammar.specs.Tokens.{Class, atom, text, names, round, curly, square, mark, later, class_kind}
use Rattle.reading.specs.Tokens.{Follow}
use Rattle.form.specs.Spell
use Rattle.form.specs.Spell.{bytes_of}
use Rattle.form.proofs.Signs.{colon, less, equals}
use Rattle.form.proofs.Separate.{barrier, Closed, Not, AfterColon, single, triple, After, run_at}
use Rattle.form.proofs.Separate
use Rattle.form.proofs.Spelts.{Lone, toks, end_of, Standing, done, spelt, reads}

-- ---- the table

abbrev sided : Bound → Bool
sided Open = false
sided Less = true
sided LessEqual = true

-- what may follow a literal or Text
abbrev pub closing : Class → Bool
closing (atom a) = false
closing (text w) = false
closing names = true
closing round = false
closing curly = false
closing square = false
closing (mark Tokens.round_close) = true
closing (mark Tokens.curly_close) = true
closing (mark Tokens.square_close) = true
closing (mark Tokens.comma) = true
closing (mark Tokens.colon) = true
closing (mark Tokens.right_arrow) = true
closing (mark Tokens.left_arrow) = true
closing (mark Tokens.dots) = true
closing (mark (Tokens.star a b)) = sided a
closing later = false

-- what begins with `<`
abbrev angled : Class → Bool
angled (atom a) = false
angled (text w) = false
angled names = false
angled round = false
angled curly = false
angled square = false
angled (mark Tokens.round_close) = false
angled (mark Tokens.curly_close) = false
angled (mark Tokens.square_close) = false
angled (mark Tokens.comma) = false
angled (mark Tokens.colon) = false
angled (mark Tokens.right_arrow) = false
angled (mark Tokens.left_arrow) = true
angled (mark Tokens.dots) = false
angled (mark (Tokens.star a b)) = sided a
angled later = false

abbrev is_colon : Class → Bool
is_colon (atom a) = false
is_colon (text w) = false
is_colon names = false
is_colon round = false
is_colon curly = false
is_colon square = false
is_colon (mark Tokens.round_close) = false
is_colon (mark Tokens.curly_close) = false
is_colon (mark Tokens.square_close) = false
is_colon (mark Tokens.comma) = false
is_colon (mark Tokens.colon) = true
is_colon (mark Tokens.right_arrow) = false
is_colon (mark Tokens.left_arrow) = false
is_colon (mark Tokens.dots) = false
is_colon (mark (Tokens.star a b)) = false
is_colon later = false

abbrev is_names : Class → Bool
is_names (atom a) = false
is_names (text w) = false
is_names names = true
is_names round = false
is_names curly = false
is_names square = false
is_names (mark m) = false
is_names later = false

-- the second may stand behind the first
abbrev pub allowed : Class → Class → Bool
allowed (atom a) c = closing c
allowed (text w) c = closing c
allowed names c = not (is_colon c || is_names c)
allowed round c = true
allowed curly c = true
allowed square c = true
allowed (mark Tokens.round_close) c = true
allowed (mark Tokens.curly_close) c = true
allowed (mark Tokens.square_close) c = true
allowed (mark Tokens.comma) c = true
allowed (mark Tokens.colon) c = not (is_colon c)
allowed (mark Tokens.right_arrow) c = true
allowed (mark Tokens.left_arrow) c = true
allowed (mark Tokens.dots) c = true
allowed (mark (Tokens.star a Open)) c = not (angled c)
allowed (mark (Tokens.star a Less)) c = true
allowed (mark (Tokens.star a LessEqual)) c = true
allowed later c = closing c

abbrev pub neighbours : List Spell.Spelt → Bool
neighbours [] = true
neighbours (w ∷ []) = true
neighbours (w ∷ v ∷ ws) = allowed w.class v.class && neighbours (v ∷ ws)

-- ---- the first byte of a token

abbrev pub first_in : Bytes.Class → Kind → Bool
first_in c Ignorance = opens c (rule an_ignorance)
first_in c (Boolean b) = opens c (rule (a_boolean b))
first_in c (Integer s) = opens c (rule an_integer)
first_in c Fraction = opens c (rule a_fraction)
first_in c Bits = opens c (rule a_bits)
first_in c Blob = opens c (rule a_blob)
first_in c (Text Quoted) = opens c (rule a_quoted)
first_in c (Text Word) = opens c (rule a_word)
first_in c (Text (HeadWord h)) = opens c (rule a_word)
first_in c (Text CodePoint) = opens c (rule a_code_point)
first_in c Later = opens c (rule a_later)
first_in c (Symbol s) = opens c (rule (a_symbol s))
first_in c Colon = includes colon c
first_in c TwoColons = includes colon c

module _ (bs : List ℕ) where
  pub first_at_lem : (c : Bytes.Class) (k : Kind) (j : ℕ) → first_in c k ≡ true → Told bs k 0 j → At bs c 0
  first_at_lem c Ignorance j e t = opens_at bs c (rule an_ignorance) e t.takes
  first_at_lem c (Boolean b) j e t = opens_at bs c (rule (a_boolean b)) e t.takes
  first_at_lem c (Integer s) j e t = opens_at bs c (rule an_integer) e t.0.takes
  first_at_lem c Fraction j e t = opens_at bs c (rule a_fraction) e t.takes
  first_at_lem c Bits j e t = opens_at bs c (rule a_bits) e t.takes
  first_at_lem c Blob j e t = opens_at bs c (rule a_blob) e t.takes
  first_at_lem c (Text Quoted) j e t = opens_at bs c (rule a_quoted) e t.takes
  first_at_lem c (Text Word) j e t = opens_at bs c (rule a_word) e t.0.takes
  first_at_lem c (Text (HeadWord h)) j e t = opens_at bs c (rule a_word) e t.0.takes
  first_at_lem c (Text CodePoint) j e t = opens_at bs c (rule a_code_point) e t.takes
  first_at_lem c Later j e t = opens_at bs c (rule a_later) e t.takes
  first_at_lem c (Symbol s) j e t = opens_at bs c (rule (a_symbol s)) e t.takes
  first_at_lem c Colon j e t =
      let a = ⊎_elim (λ u. run_at u.takes 0 (omega arith) (omega arith)) (λ u. run_at u.takes 0 (omega arith) (omega arith)) t.1 in
      (a.0, includes_in colon c _ e a.1)
  first_at_lem c TwoColons j e t = let a = run_at t.1.takes 0 (omega arith) (omega arith) in (a.0, includes_in colon c _ e a.1)

closed_by : (bs r : List ℕ) → At bs barrier 0 → Closed (bs ++ r)
closed_by [] r a = absurd (omega (arith, a.0))
closed_by (b ∷ bs) r a = Separate.wall a.1

not_by : (c d : Bytes.Class) (bs r : List ℕ) → apart c d ≡ true → At bs c 0 → Not d (bs ++ r)
not_by c d [] r e a = absurd (omega (arith, a.0))
not_by c d (b ∷ bs) r e a = Separate.other (λ i. apart_no c d b e a.1 i)

nothing_not : (r : List ℕ) → Not [] r
unfolding has
nothing_not [] = Separate.ends
nothing_not (b ∷ r) = Separate.other (λ i. false≢true i)

-- ---- computed: what begins with which byte

abbrev no_colon : Bytes.Class
no_colon = 0x00 upto 0x39 ∷ 0x3B upto 0xFF ∷ []

abbrev no_less : Bytes.Class
no_less = 0x00 upto 0x3B ∷ 0x3D upto 0xFF ∷ []

abbrev no_equal : Bytes.Class
no_equal = 0x00 upto 0x3C ∷ 0x3E upto 0xFF ∷ []

colon_no : apart no_colon colon ≡ true
unfolding apart apart_span
colon_no = refl

less_no : apart no_less less ≡ true
unfolding apart apart_span
less_no = refl

equal_no : apart no_equal equals ≡ true
unfolding apart apart_span
equal_no = refl

-- every kind but colons begins with no colon, every kind with no `=`
colonless : every (λ m. opens no_colon (rule m)) ≡ true
unfolding opens includes in_some
colonless = refl

equalless : every (λ m. opens no_equal (rule m)) ≡ true
unfolding opens includes in_some
equalless = refl

colon_equal : includes colon no_equal ≡ true
unfolding includes in_some
colon_equal = refl

first_colon_lem : (k : Kind) → not (is_colon (class_kind k) || is_names (class_kind k)) ≡ true → first_in no_colon k ≡ true
first_colon_lem Ignorance e = for_every (λ m. opens no_colon (rule m)) colonless an_ignorance
first_colon_lem (Boolean b) e = for_every (λ m. opens no_colon (rule m)) colonless (a_boolean b)
first_colon_lem (Integer s) e = for_every (λ m. opens no_colon (rule m)) colonless an_integer
first_colon_lem Fraction e = for_every (λ m. opens no_colon (rule m)) colonless a_fraction
first_colon_lem Bits e = for_every (λ m. opens no_colon (rule m)) colonless a_bits
first_colon_lem Blob e = for_every (λ m. opens no_colon (rule m)) colonless a_blob
first_colon_lem (Text Quoted) e = for_every (λ m. opens no_colon (rule m)) colonless a_quoted
first_colon_lem (Text Word) e = for_every (λ m. opens no_colon (rule m)) colonless a_word
first_colon_lem (Text (HeadWord h)) e = for_every (λ m. opens no_colon (rule m)) colonless a_word
first_colon_lem (Text CodePoint) e = for_every (λ m. opens no_colon (rule m)) colonless a_code_point
first_colon_lem Later e = for_every (λ m. opens no_colon (rule m)) colonless a_later
first_colon_lem (Symbol s) e = for_every (λ m. opens no_colon (rule m)) colonless (a_symbol s)
first_colon_lem Colon e = absurd (false≢true e)
first_colon_lem TwoColons e = absurd (false≢true e)

first_equal : (k : Kind) → first_in no_equal k ≡ true
first_equal Ignorance = for_every (λ m. opens no_equal (rule m)) equalless an_ignorance
first_equal (Boolean b) = for_every (λ m. opens no_equal (rule m)) equalless (a_boolean b)
first_equal (Integer s) = for_every (λ m. opens no_equal (rule m)) equalless an_integer
first_equal Fraction = for_every (λ m. opens no_equal (rule m)) equalless a_fraction
first_equal Bits = for_every (λ m. opens no_equal (rule m)) equalless a_bits
first_equal Blob = for_every (λ m. opens no_equal (rule m)) equalless a_blob
first_equal (Text Quoted) = for_every (λ m. opens no_equal (rule m)) equalless a_quoted
first_equal (Text Word) = for_every (λ m. opens no_equal (rule m)) equalless a_word
first_equal (Text (HeadWord h)) = for_every (λ m. opens no_equal (rule m)) equalless a_word
first_equal (Text CodePoint) = for_every (λ m. opens no_equal (rule m)) equalless a_code_point
first_equal Later = for_every (λ m. opens no_equal (rule m)) equalless a_later
first_equal (Symbol s) = for_every (λ m. opens no_equal (rule m)) equalless (a_symbol s)
first_equal Colon = colon_equal
first_equal TwoColons = colon_equal

first_less : (k : Kind) → not (angled (class_kind k)) ≡ true → first_in no_less k ≡ true
unfolding opens includes in_some
first_less Ignorance e = refl
first_less (Boolean true) e = refl
first_less (Boolean false) e = refl
first_less (Integer s) e = refl
first_less Fraction e = refl
first_less Bits e = refl
first_less Blob e = refl
first_less (Text Quoted) e = refl
first_less (Text Word) e = refl
first_less (Text (HeadWord h)) e = refl
first_less (Text CodePoint) e = refl
first_less Later e = refl
first_less (Symbol RoundOpen) e = refl
first_less (Symbol RoundClose) e = refl
first_less (Symbol CurlyOpen) e = refl
first_less (Symbol CurlyClose) e = refl
first_less (Symbol SquareOpen) e = refl
first_less (Symbol SquareClose) e = refl
first_less (Symbol Comma) e = refl
first_less (Symbol ArrowRight) e = refl
first_less (Symbol ArrowLeft) e = absurd (false≢true e)
first_less (Symbol Dots) e = refl
first_less (Symbol (Star Open b)) e = refl
first_less (Symbol (Star Less b)) e = absurd (false≢true e)
first_less (Symbol (Star LessEqual b)) e = absurd (false≢true e)
first_less Colon e = refl
first_less TwoColons e = refl

-- ---- two neighbours

-- behind a literal or Text
closing_first : (k : Kind) (bs r : List ℕ) → closing (class_kind k) ≡ true → Told bs k 0 (length bs) → Closed (bs ++ r)
unfolding opens includes in_some
closing_first Ignorance bs r e t = absurd (false≢true e)
closing_first (Boolean b) bs r e t = absurd (false≢true e)
closing_first (Integer s) bs r e t = absurd (false≢true e)
closing_first Fraction bs r e t = absurd (false≢true e)
closing_first Bits bs r e t = absurd (false≢true e)
closing_first Blob bs r e t = absurd (false≢true e)
closing_first (Text f) bs r e t = absurd (false≢true e)
closing_first Later bs r e t = absurd (false≢true e)
closing_first (Symbol RoundOpen) bs r e t = absurd (false≢true e)
closing_first (Symbol RoundClose) bs r e t = closed_by bs r (first_at_lem bs barrier (Symbol RoundClose) _ refl t)
closing_first (Symbol CurlyOpen) bs r e t = absurd (false≢true e)
closing_first (Symbol CurlyClose) bs r e t = closed_by bs r (first_at_lem bs barrier (Symbol CurlyClose) _ refl t)
closing_first (Symbol SquareOpen) bs r e t = absurd (false≢true e)
closing_first (Symbol SquareClose) bs r e t = closed_by bs r (first_at_lem bs barrier (Symbol SquareClose) _ refl t)
closing_first (Symbol Comma) bs r e t = closed_by bs r (first_at_lem bs barrier (Symbol Comma) _ refl t)
closing_first (Symbol ArrowRight) bs r e t =
    subst (λ (l : List ℕ). Closed (l ++ r)) (sym (row_matches (codes "->") ((takes_whole (lit "->") bs).0 t.takes))) Separate.arrow
closing_first (Symbol ArrowLeft) bs r e t = closed_by bs r (first_at_lem bs barrier (Symbol ArrowLeft) _ refl t)
closing_first (Symbol Dots) bs r e t =
    subst (λ (l : List ℕ). Closed (l ++ r)) (sym (row_matches (codes "..") ((takes_whole (lit "..") bs).0 t.takes))) Separate.dots
closing_first (Symbol (Star Open b)) bs r e t = absurd (false≢true e)
closing_first (Symbol (Star Less b)) bs r e t = closed_by bs r (first_at_lem bs barrier (Symbol (Star Less b)) _ refl t)
closing_first (Symbol (Star LessEqual b)) bs r e t = closed_by bs r (first_at_lem bs barrier (Symbol (Star LessEqual b)) _ refl t)
closing_first Colon bs r e t = closed_by bs r (first_at_lem bs barrier Colon _ refl t)
closing_first TwoColons bs r e t = closed_by bs r (first_at_lem bs barrier TwoColons _ refl t)

-- behind `::`, and behind `:`
names_bytes : (bs : List ℕ) → Told bs TwoColons 0 (length bs) → bs ≡ 0x3A ∷ 0x3A ∷ []
names_bytes [] t = absurd (omega (arith, t.0))
names_bytes (a ∷ []) t = absurd (omega (arith, t.0))
names_bytes (a ∷ b ∷ []) t =
    let x = run_at t.1.takes 0 (omega arith) (omega arith) in
    let z = run_at t.1.takes 1 (omega arith) (omega arith) in
    cc (just_is 0x3A a x.1, just_is 0x3A b z.1)
names_bytes (a ∷ b ∷ c ∷ bs) t = absurd (omega (arith, t.0))

not_colon_lem : (k : Kind) (bs r : List ℕ) → first_in no_colon k ≡ true → Told bs k 0 (length bs) → Not colon (bs ++ r)
not_colon_lem k bs r e t = not_by no_colon colon bs r colon_no (first_at_lem bs no_colon k (length bs) e t)

any_colon : (m : Lexeme) → opens no_colon (rule m) ≡ true
any_colon m = for_every (λ m. opens no_colon (rule m)) colonless m

after_colon : (k : Kind) (bs r : List ℕ) → not (is_colon (class_kind k)) ≡ true → Told bs k 0 (length bs) → After k r → AfterColon (bs ++ r)
after_colon Ignorance bs r e t a = single (not_colon_lem Ignorance bs r (any_colon an_ignorance) t)
after_colon (Boolean b) bs r e t a = single (not_colon_lem (Boolean b) bs r (any_colon (a_boolean b)) t)
after_colon (Integer s) bs r e t a = single (not_colon_lem (Integer s) bs r (any_colon an_integer) t)
after_colon Fraction bs r e t a = single (not_colon_lem Fraction bs r (any_colon a_fraction) t)
after_colon Bits bs r e t a = single (not_colon_lem Bits bs r (any_colon a_bits) t)
after_colon Blob bs r e t a = single (not_colon_lem Blob bs r (any_colon a_blob) t)
after_colon (Text Quoted) bs r e t a = single (not_colon_lem (Text Quoted) bs r (any_colon a_quoted) t)
after_colon (Text Word) bs r e t a = single (not_colon_lem (Text Word) bs r (any_colon a_word) t)
after_colon (Text (HeadWord h)) bs r e t a = single (not_colon_lem (Text (HeadWord h)) bs r (any_colon a_word) t)
after_colon (Text CodePoint) bs r e t a = single (not_colon_lem (Text CodePoint) bs r (any_colon a_code_point) t)
after_colon Later bs r e t a = single (not_colon_lem Later bs r (any_colon a_later) t)
after_colon (Symbol s) bs r e t a = single (not_colon_lem (Symbol s) bs r (any_colon (a_symbol s)) t)
after_colon Colon bs r e t a = absurd (false≢true e)
after_colon TwoColons bs r e t a = subst (λ (l : List ℕ). AfterColon (l ++ r)) (sym (names_bytes bs t)) (triple a)

-- a token of the second kind before what may follow it may follow one of the first
pair : (k l : Kind) (bs r : List ℕ) → allowed (class_kind k) (class_kind l) ≡ true → Told bs l 0 (length bs) → After l r → After k (bs ++ r)
pair Ignorance l bs r e t a = closing_first l bs r e t
pair (Boolean b) l bs r e t a = closing_first l bs r e t
pair (Integer s) l bs r e t a = closing_first l bs r e t
pair Fraction l bs r e t a = closing_first l bs r e t
pair Bits l bs r e t a = closing_first l bs r e t
pair Blob l bs r e t a = closing_first l bs r e t
pair (Text f) l bs r e t a = closing_first l bs r e t
pair Later l bs r e t a = closing_first l bs r e t
pair (Symbol RoundOpen) l bs r e t a = nothing_not (bs ++ r)
pair (Symbol RoundClose) l bs r e t a = nothing_not (bs ++ r)
pair (Symbol CurlyOpen) l bs r e t a = nothing_not (bs ++ r)
pair (Symbol CurlyClose) l bs r e t a = nothing_not (bs ++ r)
pair (Symbol SquareOpen) l bs r e t a = nothing_not (bs ++ r)
pair (Symbol SquareClose) l bs r e t a = nothing_not (bs ++ r)
pair (Symbol Comma) l bs r e t a = nothing_not (bs ++ r)
pair (Symbol ArrowRight) l bs r e t a = nothing_not (bs ++ r)
pair (Symbol ArrowLeft) l bs r e t a = nothing_not (bs ++ r)
pair (Symbol Dots) l bs r e t a = nothing_not (bs ++ r)
pair (Symbol (Star x Open)) l bs r e t a = not_by no_less less bs r less_no (first_at_lem bs no_less l (length bs) (first_less l e) t)
pair (Symbol (Star x Less)) l bs r e t a = not_by no_equal equals bs r equal_no (first_at_lem bs no_equal l (length bs) (first_equal l) t)
pair (Symbol (Star x LessEqual)) l bs r e t a = nothing_not (bs ++ r)
pair Colon l bs r e t a = after_colon l bs r e t a
pair TwoColons l bs r e t a = not_colon_lem l bs r (first_colon_lem l e) t

-- ---- a row of spelled tokens

pub data Lones : List Spell.Spelt → Type 0 where
  none : Lones []
  some : {w : Spell.Spelt} {ws : List Spell.Spelt} → Lone w → Lones ws → Lones (w ∷ ws)

-- the last of them
pub data Last (v : Spell.Spelt) : List Spell.Spelt → Type 0 where
  here : Last v (v ∷ [])
  beyond : {w : Spell.Spelt} {ws : List Spell.Spelt} → Last v ws → Last v (w ∷ ws)

-- at the end of the text nothing needs to follow
pub after_nothing : (k : Kind) → After k []
after_nothing Ignorance = Separate.ends
after_nothing (Boolean b) = Separate.ends
after_nothing (Integer s) = Separate.ends
after_nothing Fraction = Separate.ends
after_nothing Bits = Separate.ends
after_nothing Blob = Separate.ends
after_nothing (Text f) = Separate.ends
after_nothing Later = Separate.ends
after_nothing (Symbol s) = Separate.ends
after_nothing Colon = single Separate.ends
after_nothing TwoColons = Separate.ends

module _ (y : List ℕ) where
  beside : {w v : Spell.Spelt} {ws : List Spell.Spelt} → Lone w → allowed w.class v.class ≡ true → Standing y (v ∷ ws) → Standing y (w ∷ v ∷ ws)
  beside {w} {v} {ws} l e (spelt m a s) =
      spelt l
      (subst (After l.kind) (sym (append_assoc v.bytes (bytes_of ws) y))
      (pair l.kind m.kind v.bytes (bytes_of ws ++ y)
      (subst (λ (c : Class). allowed c (class_kind m.kind) ≡ true) (sym l.class_is)
      (subst (λ (c : Class). allowed w.class c ≡ true) (sym m.class_is) e)) m.is.told a))
      (spelt m a s)

  pub standing : (ws : List Spell.Spelt) → Lones ws → neighbours ws ≡ true → ((w : Spell.Spelt) → Last w ws → (l : Lone w) → After l.kind y) → Standing y ws
  standing [] none e f = done
  standing (w ∷ []) (some l none) e f = spelt l (f w here l) done
  standing (w ∷ v ∷ ws) (some l ls) e f =
      beside l (and_left (allowed w.class v.class) _ e) (standing (v ∷ ws) ls (and_right (allowed w.class v.class) _ e) (λ x i m. f x (beyond i) m))

-- spelled tokens that are tokens by themselves, with allowed neighbours, before y, are read as these, wherever they stand
separate : (bytes : List ℕ) (p : ℕ) (ws : List Spell.Spelt) (y : List ℕ) → Lones ws → neighbours ws ≡ true →
    ((w : Spell.Spelt) → Last w ws → (l : Lone w) → After l.kind y) → drop p bytes ≡ bytes_of ws ++ y → Follow bytes p (toks p ws) (end_of p ws)
separate bytes p ws y ls e f s = reads bytes y (standing y ws ls e f) p s

-- as the whole text
pub separate_all : (ws : List Spell.Spelt) → Lones ws → neighbours ws ≡ true → Follow (bytes_of ws) 0 (toks 0 ws) (end_of 0 ws)
separate_all ws ls e = separate (bytes_of ws) 0 ws [] ls e (λ w i l. after_nothing l.kind) (sym (append-nil (bytes_of ws)))
