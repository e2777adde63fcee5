-- The token that the first byte tells. Assumes nothing.
use mathlib.Core.Path.{◌≡◌, refl, sym, subst⁻¹}
use mathlib.Core.Logic.{◌⊎◌, inl, inr, ⊎_elim}
use mathlib.Core.Bool.{Bool, true, false, ◌||◌, false≢true}
use mathlib.Core.List.{List, [], ◌∷◌}
use Prim.Native.Nat.{ℕ, ◌+◌, ◌≤◌, ◌<◌}
use native.Mathlib.Nat.{le_of_lt}
use native.Mathlib.Omega.{arith}
use lib.ListN.{length, get_or}
use Rattle.std.specs.Prelude.{Some}
use Rattle.rules.specs.Test.{Says}
use Rattle.rules.specs.Class.{Class, In, has, just, codes, ◌to◌}
use Prim.Native.String.{String}
use Rattle.rules.specs.Rule.{Rule, row, lit, At, Takes, Longest, Fails}
use Rattle.rules.proofs.Bools.{clash, decide, or_cases}
use Rattle.rules.proofs.Classes.{apart, apart_span, apart_no, includes, in_some, in_cons, just_is, in_first_lem, low_in, in_high}
use Rattle.rules.proofs.Matches.{ending, row_end}
use Rattle.rules.proofs.Tests.{says_no}
use Rattle.rules.proofs.Ways.{never, covers, opens, opens_at}
use Rattle.lexicon.specs.declared.Form.{Form}
use Rattle.lexicon.specs.declared.Form.TheVariants.{Quoted, Word, HeadWord, CodePoint}
use Rattle.lexicon.specs.declared.Kind.TheVariants.{Ignorance, Boolean, Integer, Fraction, Bits, Blob, Text, Later, Symbol}
use Rattle.lexicon.specs.declared.Sign.{Sign}
use Rattle.lexicon.specs.declared.Sign.TheVariants.{ArrowRight}
use Rattle.lexicon.specs.Bytes.{word_start, decimal}
use Rattle.lexicon.specs.Space.{Skips}
use Rattle.lexicon.specs.Literals.{integer, fraction, bits, blob, quoted, word, code_point_of, plus_minus}
use Rattle.lexicon.specs.Bad.{BadCode, BadQuoted, BadFraction, NoBytes}
use Rattle.lexicon.specs.Token.{Lexeme, an_ignorance, a_boolean, an_integer, a_fraction, a_bits, a_blob, a_quoted, a_word, a_code_point, a_later, a_symbol, rule, Here, Is, Bad, Comes}
use Rattle.lexicon.proofs.Tokens.{every, for_every, begins, begins_with, outreaches, alone, one_of, is_one}
use Rattle.lexicon.proofs.Unique.{integer_below}
use Rattle.word.specs.Heads.{Tells}
use Rattle.lexicon.specs.declared.Next.{Next}
use Rattle.lexicon.specs.declared.Token as Token
use Rattle.token.specs.Answers.{NoSymbol, NoneAt, TokenAt, StartsAt, NumberOnly, Marked, NotOpening}
use Rattle.token.proofs.Symbols.{taken_as}
use Rattle.token.proofs.Starts.{nothing_starts}

-- ---- the lexemes that no other outreaches

quoted_alone : outreaches a_quoted (a_quoted ∷ []) ≡ true
unfolding covers apart apart_span
quoted_alone = refl

word_alone : outreaches a_word (a_word ∷ []) ≡ true
unfolding covers apart apart_span
word_alone = refl

ignorance_alone : outreaches an_ignorance (an_ignorance ∷ []) ≡ true
unfolding covers apart apart_span
ignorance_alone = refl

boolean_alone : (b : Bool) → outreaches (a_boolean b) (a_boolean b ∷ []) ≡ true
unfolding covers apart apart_span
boolean_alone false = refl
boolean_alone true = refl

bits_alone : outreaches a_bits (a_bits ∷ []) ≡ true
unfolding covers apart apart_span
bits_alone = refl

blob_alone : outreaches a_blob (a_blob ∷ []) ≡ true
unfolding covers apart apart_span
blob_alone = refl

code_alone : outreaches a_code_point (a_code_point ∷ []) ≡ true
unfolding covers apart apart_span
code_alone = refl

later_alone : outreaches a_later (a_later ∷ []) ≡ true
unfolding covers apart apart_span
later_alone = refl

-- ---- the bytes that begin them

quote_begins : begins (just 0x22) (a_quoted ∷ []) ≡ true
unfolding never apart apart_span
quote_begins = refl

word_begins : begins word_start (a_word ∷ []) ≡ true
unfolding never apart apart_span
word_begins = refl

-- a digit but 0
abbrev nonzero : Class
nonzero = "1" to "9" ∷ []

nonzero_begins : begins nonzero (an_integer ∷ a_fraction ∷ []) ≡ true
unfolding never apart apart_span
nonzero_begins = refl

plus_begins : begins (just 0x2B) (an_integer ∷ a_fraction ∷ []) ≡ true
unfolding never apart apart_span
plus_begins = refl

minus_begins : begins (just 0x2D) (a_symbol ArrowRight ∷ an_integer ∷ a_fraction ∷ []) ≡ true
unfolding never apart apart_span
minus_begins = refl

-- the lexemes that begin with 0: those of one spelling, those with a mark, and numbers
abbrev numbers : List Lexeme
numbers = an_integer ∷ a_fraction ∷ []

abbrev marks : List Lexeme
marks = a_bits ∷ a_blob ∷ a_code_point ∷ numbers

abbrev specials : List Lexeme
specials = an_ignorance ∷ a_boolean false ∷ a_boolean true ∷ a_later ∷ marks

zero_begins : begins (just 0x30) specials ≡ true
unfolding never apart apart_span
zero_begins = refl

-- ---- the bytes of the number's sign

signed_plus : {b : ℕ} → b ≡ 0x2B → true ≡ has plus_minus b
unfolding has
signed_plus e = subst⁻¹ (λ (x : ℕ). true ≡ has plus_minus x) e refl

signed_minus : {b : ℕ} → b ≡ 0x2D → true ≡ has plus_minus b
unfolding has
signed_minus e = subst⁻¹ (λ (x : ℕ). true ≡ has plus_minus x) e refl

pub signed : {b : ℕ} → (b ≡ 0x2B) ⊎ (b ≡ 0x2D) → true ≡ has plus_minus b
signed x = ⊎_elim (λ e. signed_plus e) (λ e. signed_minus e) x

pub unsigned : (b : ℕ) → (b ≡ 0x2B → ⊥) → (b ≡ 0x2D → ⊥) → false ≡ has plus_minus b
unsigned b f g = ⊎_elim (λ x. absurd (⊎_elim (λ y. f (just_is 0x2B b y)) (λ y. g (just_is 0x2D b y)) (in_cons _ _ b x))) (λ x. sym x) (decide (has plus_minus b))

nonzero_in : (b : ℕ) → In decimal b → (b ≡ 0x30 → ⊥) → In nonzero b
nonzero_in b i f =
    let l = low_in 0x30 0x39 b i in let h = in_high 0x30 0x39 b i in let g : (b ≡ 0x30) → ⊥ = f in in_first_lem 0x31 0x39 [] b (omega (arith, g)) h

module _ (text : List ℕ) where
  -- ---- no token

  -- only one lexeme could begin here, and it does not stand
  none_but : (c : Class) (l : Lexeme) {i : ℕ} → begins c (l ∷ []) ≡ true → apart c (just 0x3A) ≡ true → At text c i → Fails text (rule l) i → NoneAt text i
  none_but c l {i} e d a f = nothing_starts text (record { none = go }) (λ x. apart_no c (just 0x3A) (get_or text i 0) d a.1 x.1)
    where
      go : (m : Lexeme) {k : ℕ} → Takes text (rule m) i k → ⊥
      go m t =
          ⊎_elim (λ q. f.none (taken_as text l m q t)) (λ q. false≢true q) (is_one l [] m (begins_with text c (l ∷ []) m e a t))

  -- ---- quoted texts

  pub quoted_none : {i : ℕ} → At text (just 0x22) i → Fails text quoted i → NoneAt text i
  unfolding apart apart_span
  quoted_none a f = none_but (just 0x22) a_quoted quote_begins refl a f

  pub quoted_is : {i j : ℕ} {b : Bool} → Longest text quoted i j → Says b (BadQuoted text i j) → TokenAt text (Text Quoted) i j b
  quoted_is l s = record { is = record { told = alone text a_quoted quoted_alone l }; bad_is = s }

  -- ---- words

  pub word_none : {i : ℕ} → At text word_start i → Fails text word i → NoneAt text i
  unfolding apart apart_span
  word_none a f = none_but word_start a_word word_begins refl a f

  pub word_is : {i j : ℕ} (f : Form) → Longest text word i j → Tells text i j f → TokenAt text (Text f) i j false
  word_is Word l t = record { is = record { told = (alone text a_word word_alone l, t) }; bad_is = says_no (λ x. x) }
  word_is (HeadWord h) l t = record { is = record { told = (alone text a_word word_alone l, t) }; bad_is = says_no (λ x. x) }
  word_is Quoted l t = absurd t
  word_is CodePoint l t = absurd t

  -- ---- numbers

  which : (m : Lexeme) → one_of (an_integer ∷ a_fraction ∷ []) m ≡ true → (m ≡ an_integer) ⊎ (m ≡ a_fraction)
  which m e =
      ⊎_elim (λ x. inl x) (λ x. ⊎_elim (λ y. inr y) (λ y. absurd (false≢true y)) (is_one a_fraction [] m x)) (is_one an_integer (a_fraction ∷ []) m e)

  module _ {i : ℕ} (n : NumberOnly text i) where
    integer_here : {j : ℕ} → Fails text fraction i → Longest text integer i j → Here text an_integer i j
    integer_here {j} f l = record { takes = l.takes; most = most }
      where
        most : (m : Lexeme) {k : ℕ} → Takes text (rule m) i k → k ≤ j
        most m t =
            ⊎_elim (λ q. l.most (taken_as text an_integer m q t)) (λ q. absurd (f.none (taken_as text a_fraction m q t))) (n.others m t)

    fraction_here : {j : ℕ} → Longest text fraction i j → Here text a_fraction i j
    fraction_here {j} l = record { takes = l.takes; most = most }
      where
        most : (m : Lexeme) {k : ℕ} → Takes text (rule m) i k → k ≤ j
        most m t =
            ⊎_elim (λ q. le_of_lt (integer_below text (taken_as text an_integer m q t) l.takes)) (λ q. l.most (taken_as text a_fraction m q t)) (n.others m t)

    pub integer_is : {j : ℕ} {s : Bool} → Fails text fraction i → Longest text integer i j → s ≡ has plus_minus (get_or text i 0) → TokenAt text (Integer s) i j false
    integer_is f l e = record { is = record { told = (integer_here f l, e) }; bad_is = says_no (λ x. x) }

    pub fraction_is : {j : ℕ} {b : Bool} → Longest text fraction i j → Says b (BadFraction text i j) → TokenAt text Fraction i j b
    fraction_is l s = record { is = record { told = fraction_here l }; bad_is = s }

    pub number_none : Fails text fraction i → Fails text integer i → NoneAt text i
    number_none f g = nothing_starts text (record { none = go }) n.no_colon
      where
        go : (m : Lexeme) {k : ℕ} → Takes text (rule m) i k → ⊥
        go m t =
            ⊎_elim (λ q. g.none (taken_as text an_integer m q t)) (λ q. f.none (taken_as text a_fraction m q t)) (n.others m t)

  -- where only numbers can begin
  only : (c : Class) {i : ℕ} → begins c (an_integer ∷ a_fraction ∷ []) ≡ true → apart c (just 0x3A) ≡ true → At text c i → NumberOnly text i
  only c {i} e d a =
      record { others = λ l t. which l (begins_with text c (an_integer ∷ a_fraction ∷ []) l e a t); no_colon = λ x. apart_no c (just 0x3A) (get_or text i 0) d a.1 x.1 }

  pub nonzero_only : {i : ℕ} → At text decimal i → (get_or text i 0 ≡ 0x30 → ⊥) → NumberOnly text i
  unfolding apart apart_span
  nonzero_only {i} a f = only nonzero nonzero_begins refl (a.0, nonzero_in (get_or text i 0) a.1 f)

  pub plus_only : {i : ℕ} → At text (just 0x2B) i → NumberOnly text i
  unfolding apart apart_span
  plus_only a = only (just 0x2B) plus_begins refl a

  pub minus_only : {i : ℕ} → At text (just 0x2D) i → NoSymbol text i → NumberOnly text i
  unfolding apart apart_span
  minus_only {i} a f =
      record { others = λ l t. which l (go l t); no_colon = λ x. apart_no (just 0x2D) (just 0x3A) (get_or text i 0) refl a.1 x.1 }
    where
      go : (l : Lexeme) {k : ℕ} → Takes text (rule l) i k → one_of (an_integer ∷ a_fraction ∷ []) l ≡ true
      go l t =
          ⊎_elim (λ q. absurd (f.none ArrowRight (taken_as text (a_symbol ArrowRight) l q t))) (λ q. q)
          (is_one (a_symbol ArrowRight) (an_integer ∷ a_fraction ∷ []) l (begins_with text (just 0x2D) (a_symbol ArrowRight ∷ an_integer ∷ a_fraction ∷ []) l minus_begins a t))

  -- ---- behind a digit 0

  fixed_longest : (bs : List ℕ) {i j : ℕ} → Takes text (row bs) i j → Longest text (row bs) i j
  fixed_longest bs {i} {j} t = record { takes = t; most = λ u. omega (arith, row_end bs t, row_end bs u) }

  fixed_is : (s : String) (l : Lexeme) {i j : ℕ} → outreaches l (l ∷ []) ≡ true → rule l ≡ lit s → Takes text (lit s) i j → Here text l i j
  fixed_is s l {i} {j} e q t = alone text l e (subst⁻¹ (λ (r : Rule). Longest text r i j) q (fixed_longest (codes s) t))

  pub ignorance_is : {i j : ℕ} → Takes text (lit "0sIGNORANCE") i j → TokenAt text Ignorance i j false
  ignorance_is t = record { is = record { told = fixed_is "0sIGNORANCE" an_ignorance ignorance_alone refl t }; bad_is = says_no (λ x. x) }

  pub false_is : {i j : ℕ} → Takes text (lit "0bFALSE") i j → TokenAt text (Boolean false) i j false
  false_is t = record { is = record { told = fixed_is "0bFALSE" (a_boolean false) (boolean_alone false) refl t }; bad_is = says_no (λ x. x) }

  pub true_is : {i j : ℕ} → Takes text (lit "0bTRUE") i j → TokenAt text (Boolean true) i j false
  true_is t = record { is = record { told = fixed_is "0bTRUE" (a_boolean true) (boolean_alone true) refl t }; bad_is = says_no (λ x. x) }

  pub later_is : {i j : ℕ} → Takes text (lit "0L") i j → TokenAt text Later i j false
  later_is t = record { is = record { told = fixed_is "0L" a_later later_alone refl t }; bad_is = says_no (λ x. x) }

  pub spelled_none : (s : String) (i : ℕ) (o : Bool) → Says o (Takes text (lit s) i (i + length (codes s))) → o ≡ false → Fails text (lit s) i
  spelled_none s i o t e = record { none = λ u. clash (t.holds_true (ending (row_end (codes s) u) u)) e }

  pub bits_is : {i j : ℕ} → Longest text bits i j → TokenAt text Bits i j false
  bits_is l = record { is = record { told = alone text a_bits bits_alone l }; bad_is = says_no (λ x. x) }

  pub blob_is : {i j : ℕ} {b : Bool} → Longest text blob i j × Says b (NoBytes text i j) → TokenAt text Blob i j b
  blob_is l = record { is = record { told = alone text a_blob blob_alone l.0 }; bad_is = l.1 }

  pub code_is : {i j : ℕ} {b : Bool} → Longest text code_point_of i j × Says b (BadCode text i j) → TokenAt text (Text CodePoint) i j b
  code_is l = record { is = record { told = alone text a_code_point code_alone l.0 }; bad_is = l.1 }

  pub zero_only : {i : ℕ} → At text (just 0x30) i → Marked text i → Fails text bits i → Fails text blob i → Fails text code_point_of i → NumberOnly text i
  unfolding apart apart_span
  zero_only {i} a m f g h = record { others = λ l t. which l (go l t); no_colon = λ x. apart_no (just 0x30) (just 0x3A) (get_or text i 0) refl a.1 x.1 }
    where
      skip : (n : Lexeme) (ls : List Lexeme) (l : Lexeme) {k : ℕ} → Fails text (rule n) i → Takes text (rule l) i k → one_of (n ∷ ls) l ≡ true → one_of ls l ≡ true
      skip n ls l d t e = ⊎_elim (λ q. absurd (d.none (taken_as text n l q t))) (λ q. q) (is_one n ls l e)

      go : (l : Lexeme) {k : ℕ} → Takes text (rule l) i k → one_of (an_integer ∷ a_fraction ∷ []) l ≡ true
      go l t =
          let x = begins_with text (just 0x30) specials l zero_begins a t in
          let y = skip an_ignorance (a_boolean false ∷ a_boolean true ∷ a_later ∷ marks) l m.no_ignorance t x in
          let z = skip a_later marks l m.no_later t (skip (a_boolean true) (a_later ∷ marks) l m.no_true t (skip (a_boolean false) (a_boolean true ∷ a_later ∷ marks) l m.no_false t y)) in
          skip a_code_point numbers l h t (skip a_blob (a_code_point ∷ numbers) l g t (skip a_bits (a_blob ∷ a_code_point ∷ numbers) l f t z))

  -- ---- symbols, and where nothing starts

  pub symbol_is : {s : Sign} {i j : ℕ} → Here text (a_symbol s) i j → TokenAt text (Symbol s) i j false
  symbol_is h = record { is = record { told = h }; bad_is = says_no (λ x. x) }

-- the first bytes of literals
abbrev opening : Class
opening = "\"" to "\"" ∷ "+" to "+" ∷ "-" to "-" ∷ "0" to "9" ∷ word_start

abbrev symbolic : Lexeme → Bool
symbolic an_ignorance = false
symbolic (a_boolean b) = false
symbolic an_integer = false
symbolic a_fraction = false
symbolic a_bits = false
symbolic a_blob = false
symbolic a_quoted = false
symbolic a_word = false
symbolic a_code_point = false
symbolic a_later = false
symbolic (a_symbol s) = true

literals_open : every (λ m. opens opening (rule m) || symbolic m) ≡ true
unfolding opens includes in_some
literals_open = refl

module _ (text : List ℕ) where
  no_symbol_lem : {i : ℕ} → NoSymbol text i → (m : Lexeme) {k : ℕ} → symbolic m ≡ true → Takes text (rule m) i k → ⊥
  no_symbol_lem f an_ignorance e t = false≢true e
  no_symbol_lem f (a_boolean b) e t = false≢true e
  no_symbol_lem f an_integer e t = false≢true e
  no_symbol_lem f a_fraction e t = false≢true e
  no_symbol_lem f a_bits e t = false≢true e
  no_symbol_lem f a_blob e t = false≢true e
  no_symbol_lem f a_quoted e t = false≢true e
  no_symbol_lem f a_word e t = false≢true e
  no_symbol_lem f a_code_point e t = false≢true e
  no_symbol_lem f a_later e t = false≢true e
  no_symbol_lem f (a_symbol s) e t = f.none s t

  not_opening : {i : ℕ} → NotOpening text i → (get_or text i 0 ≡ 0x2D → ⊥) → At text opening i → ⊥
  not_opening {i} n f a =
      let b = get_or text i 0 in
      ⊎_elim (λ x. n.no_quote (just_is 0x22 b x))
      (λ y. ⊎_elim (λ x. n.no_plus (just_is 0x2B b x))
      (λ z. ⊎_elim (λ x. f (just_is 0x2D b x)) (λ w. ⊎_elim (λ x. clash x n.no_digit) (λ x. clash x n.no_word) (in_cons _ _ b w)) (in_cons _ _ b z))
      (in_cons _ _ b y))
      (in_cons _ _ b a.1)

  pub none_starts : {i : ℕ} → i < length text → NotOpening text i → (get_or text i 0 ≡ 0x2D → ⊥) → NoSymbol text i → NoneAt text i
  none_starts {i} h n f g = nothing_starts text (record { none = go }) (λ x. n.no_colon (just_is 0x3A (get_or text i 0) x.1))
    where
      go : (m : Lexeme) {k : ℕ} → Takes text (rule m) i k → ⊥
      go m t =
          ⊎_elim (λ x. not_opening n f (opens_at text opening (rule m) x t)) (λ x. no_symbol_lem g m x t)
          (or_cases (opens opening (rule m)) (symbolic m) (for_every (λ m. opens opening (rule m) || symbolic m) literals_open m))

  -- a token at its first byte is the one that comes next
  pub comes_token : {at i : ℕ} (t : Token.Token) → Skips text at i → i < length text → StartsAt text i (Some t) → Comes text at (Next.Token t)
  comes_token {at} t s h (e, w) =
      (subst⁻¹ (Skips text at) e s, subst⁻¹ (λ (x : ℕ). x < length text) e h, subst⁻¹ (λ (x : ℕ). Is text t.kind x t.end) e w.is, subst⁻¹ (λ (x : ℕ). Says t.bad (Bad text t.kind x t.end)) e w.bad_is)

  pub comes_none : {at i : ℕ} → Skips text at i → i < length text → NoneAt text i → Comes text at (Next.NoToken i)
  comes_none s h w = (s, h, w.none)
