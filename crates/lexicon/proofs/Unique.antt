-- 01, 'two rules that match equally long don't occur', and so a place has one token at most. Every pair of rules but Integer and
-- Fraction is told apart by its first bytes; a Fraction is longer than every Integer from its first byte. Assumes nothing.
use mathlib.Core.Path.{◌≡◌, refl, sym, ap, subst, ◌∙◌}
use mathlib.Core.Logic.{◌⊎◌, inl, inr, ⊎_elim}
use mathlib.Core.Bool.{Bool, true, false, not, ◌&&◌, ◌||◌, cond, false≢true}
use mathlib.Core.List.{List, [], ◌∷◌}
use Prim.Native.Nat.{ℕ, ◌+◌, ◌<◌}
use native.Mathlib.Nat.{le_antisymm}
use native.Mathlib.Omega.{arith}
use lib.Dec.{eqb}
use lib.ListN.{get_or}
use Rattle.rules.specs.Class.{has, codes, any_of}
use Rattle.rules.specs.Rule.{one, many, lit, Takes, byte, both, stop, more}
use Rattle.rules.proofs.Bools.{and_left, and_right, or_cases, not_true}
use Rattle.rules.proofs.Classes.{apart, apart_span}
use Rattle.rules.proofs.Matches.{forward, ending}
use Rattle.rules.proofs.Plain.{row_same}
use Rattle.rules.proofs.Ways.{nullable, never, differ, differ_no, grows}
use Rattle.lexicon.specs.declared.Head.{Head}
use Rattle.lexicon.specs.declared.Head.TheVariants.{Array, Set, Bag, Mix, IntervalSet, IntervalBag, TupleArray, Relation, TupleBag, Article, Excuse, Heading, Renaming}
use Rattle.lexicon.specs.declared.Form.TheVariants.{Quoted, Word, HeadWord, CodePoint}
use Rattle.lexicon.specs.declared.Kind.{Kind}
use Rattle.lexicon.specs.declared.Kind.TheVariants.{Ignorance, Boolean, Integer, Fraction, Bits, Blob, Text, Later, Symbol, Colon, TwoColons}
use Rattle.lexicon.specs.Literals.{plus_minus, integer, fraction}
use Rattle.lexicon.specs.Symbols.{Colons}
use Rattle.lexicon.specs.Token.{Lexeme, an_ignorance, a_boolean, an_integer, a_fraction, a_bits, a_blob, a_quoted, a_word, a_code_point, a_later, a_symbol, rule, head_word, Here, Told, Is}
use Rattle.lexicon.proofs.Groups.{digits_forward}
use Rattle.lexicon.specs.Parts.{SomeNumeral}
use Rattle.lexicon.proofs.Numbers.{to_base}
use Rattle.lexicon.proofs.Integers.{of_integer}
use Rattle.lexicon.proofs.Fractions as Fractions
use Rattle.lexicon.proofs.Fractions.{symbol_ahead, point_apart, slash_apart, Significand, pointed, divided, of_significand, significand_start, ahead_most, some}
use Rattle.lexicon.proofs.Tokens.{one_of, is_one, every, for_every, begins, begins_with}

-- ---- Integer and Fraction

module _ (text : List ℕ) where
  -- a symbol takes a byte
  symbol_forward : {c i k : ℕ} → Fractions.Symbol text c i k → i < k
  symbol_forward s = omega (arith, forward s.skipped.takes, forward s.rest)

  -- the number of a significand is the longest, and the significand goes on
  past_number : {g j k : ℕ} → Significand text g j → SomeNumeral text g k → k < j
  past_number (pointed n s d) m =
      omega (arith, ahead_most text 0x2E point_apart (some text n) (symbol_ahead text s) m, symbol_forward s, digits_forward d)
  past_number (divided n s w) m =
      omega (arith, ahead_most text 0x2F slash_apart n (symbol_ahead text s) m, symbol_forward s, forward (to_base text w.is))

  -- so every Integer is shorter than a Fraction
  pub integer_below : {i j k : ℕ} → Takes text integer i k → Takes text fraction i j → k < j
  integer_below t (both s p) =
      let st = (significand_start text s).1 in
      omega (arith, past_number (of_significand text st s) (of_integer text st t), forward p)

  integer_fraction : {i j : ℕ} → Takes text integer i j → Takes text fraction i j → ⊥
  integer_fraction t u = omega (arith, integer_below t u)

-- ---- the other pairs

-- the two that share first bytes of any number
abbrev number : Lexeme → Bool
number = one_of (an_integer ∷ a_fraction ∷ [])

-- one lexeme, or both numbers, or told apart by the first five bytes
abbrev apart_or_same : Lexeme → Lexeme → Bool
apart_or_same l m = one_of (l ∷ []) m || (number l && number m || differ 5 (rule l) (rule m))

every_pair : every (λ l. every (λ m. apart_or_same l m)) ≡ true
unfolding differ apart apart_span
every_pair = refl

module _ (text : List ℕ) where
  numbers_same : (l m : Lexeme) {i j : ℕ} → number l ≡ true → number m ≡ true → Takes text (rule l) i j → Takes text (rule m) i j → l ≡ m
  numbers_same l m {i} {j} p q t u = go (which l p) (which m q)
    where
      which : (n : Lexeme) → number n ≡ true → (n ≡ an_integer) ⊎ (n ≡ a_fraction)
      which n e = ⊎_elim (λ x. inl x) (λ x. ⊎_elim (λ y. inr y) (λ y. absurd (false≢true y)) (is_one a_fraction [] n x)) (is_one an_integer (a_fraction ∷ []) n e)

      moved : (n o : Lexeme) → n ≡ o → Takes text (rule n) i j → Takes text (rule o) i j
      moved n o e t = subst (λ (x : Lexeme). Takes text (rule x) i j) e t

      go : (l ≡ an_integer) ⊎ (l ≡ a_fraction) → (m ≡ an_integer) ⊎ (m ≡ a_fraction) → l ≡ m
      go (inl x) (inl y) = x ∙ sym y
      go (inr x) (inr y) = x ∙ sym y
      go (inl x) (inr y) = absurd (integer_fraction text (moved l an_integer x t) (moved m a_fraction y u))
      go (inr x) (inl y) = absurd (integer_fraction text (moved m an_integer y u) (moved l a_fraction x t))

  -- two rules that match equally long don't occur
  pub no_equal_lem : (l m : Lexeme) {i j : ℕ} → Takes text (rule l) i j → Takes text (rule m) i j → l ≡ m
  no_equal_lem l m t u =
      ⊎_elim (λ x. ⊎_elim (λ y. sym y) (λ y. absurd (false≢true y)) (is_one l [] m x))
      (λ x.
      ⊎_elim (λ y. numbers_same l m (and_left (number l) (number m) y) (and_right (number l) (number m) y) t u) (λ y. absurd (differ_no text 5 (rule l) (rule m) y t u))
      (or_cases (number l && number m) _ x))
      (or_cases (one_of (l ∷ []) m) _ (for_every (λ m. apart_or_same l m) (for_every (λ l. every (λ m. apart_or_same l m)) every_pair l) m))

-- ---- head words

-- the same bytes
abbrev same : List ℕ → List ℕ → Bool
same [] [] = true
same [] (c ∷ cs) = false
same (b ∷ bs) [] = false
same (b ∷ bs) (c ∷ cs) = eqb b c && same bs cs

-- a spelling tells its head word
abbrev spelled : List Head → List ℕ → Head
spelled [] bs = Array
spelled (h ∷ hs) bs = cond (same (codes (head_word h)) bs) h (spelled hs bs)

abbrev heads : List Head
heads =
    Array ∷ Set ∷ Bag ∷ Mix ∷ IntervalSet ∷ IntervalBag ∷ TupleArray ∷ Relation ∷ TupleBag ∷ Article ∷ Excuse ∷ Heading ∷ Renaming ∷ []

-- no two have one spelling, computed
spelling : (h : Head) → spelled heads (codes (head_word h)) ≡ h
spelling Array = refl
spelling Set = refl
spelling Bag = refl
spelling Mix = refl
spelling IntervalSet = refl
spelling IntervalBag = refl
spelling TupleArray = refl
spelling Relation = refl
spelling TupleBag = refl
spelling Article = refl
spelling Excuse = refl
spelling Heading = refl
spelling Renaming = refl

-- so the bytes from i to j are one head word at most
pub one_head : (text : List ℕ) (h g : Head) {i j : ℕ} → Takes text (lit (head_word h)) i j → Takes text (lit (head_word g)) i j → h ≡ g
one_head text h g t u = sym (spelling h) ∙ ap (spelled heads) (row_same text (codes (head_word h)) (codes (head_word g)) t u) ∙ spelling g

-- ---- tokens

-- the token at a run of n colons: `::` where there are two, else `:`
abbrev run_kind : ℕ → Kind
run_kind n = cond (eqb n 2) TwoColons Colon

abbrev run_size : ℕ → ℕ
run_size n = cond (eqb n 2) 2 1

-- no rule begins with a colon, computed
no_colon_lem : begins (any_of ":") [] ≡ true
unfolding never apart apart_span
no_colon_lem = refl

module _ (text : List ℕ) where
  -- the kinds of a lexeme's tokens: an Integer's depends on its first byte, a bare word's on all
  abbrev KindOf : Lexeme → Kind → ℕ → ℕ → Type 0
  KindOf an_ignorance k i j = k ≡ Ignorance
  KindOf (a_boolean b) k i j = k ≡ Boolean b
  KindOf an_integer k i j = k ≡ Integer (has plus_minus (get_or text i 0))
  KindOf a_fraction k i j = k ≡ Fraction
  KindOf a_bits k i j = k ≡ Bits
  KindOf a_blob k i j = k ≡ Blob
  KindOf a_quoted k i j = k ≡ Text Quoted
  KindOf a_word k i j =
      ((k ≡ Text Word) × ((h : Head) → Takes text (lit (head_word h)) i j → ⊥)) ⊎ ((h : Head) × (k ≡ Text (HeadWord h)) × Takes text (lit (head_word h)) i j)
  KindOf a_code_point k i j = k ≡ Text CodePoint
  KindOf a_later k i j = k ≡ Later
  KindOf (a_symbol s) k i j = k ≡ Symbol s

  -- it and the bytes fix the kind
  kind_same : (l : Lexeme) (k h : Kind) (i j : ℕ) → KindOf l k i j → KindOf l h i j → k ≡ h
  kind_same an_ignorance k h i j p q = p ∙ sym q
  kind_same (a_boolean b) k h i j p q = p ∙ sym q
  kind_same an_integer k h i j p q = p ∙ sym q
  kind_same a_fraction k h i j p q = p ∙ sym q
  kind_same a_bits k h i j p q = p ∙ sym q
  kind_same a_blob k h i j p q = p ∙ sym q
  kind_same a_quoted k h i j p q = p ∙ sym q
  kind_same a_word k h i j (inl p) (inl q) = p.0 ∙ sym q.0
  kind_same a_word k h i j (inl p) (inr q) = absurd (p.1 q.0 q.2)
  kind_same a_word k h i j (inr p) (inl q) = absurd (q.1 p.0 p.2)
  kind_same a_word k h i j (inr p) (inr q) = p.1 ∙ ap (λ (x : Head). Text (HeadWord x)) (one_head text p.0 q.0 p.2 q.2) ∙ sym q.1
  kind_same a_code_point k h i j p q = p ∙ sym q
  kind_same a_later k h i j p q = p ∙ sym q
  kind_same (a_symbol s) k h i j p q = p ∙ sym q

  -- a token is a lexeme's, or of a run of n colons
  data View (k : Kind) (i j : ℕ) : Type 0 where
    of_rule : (l : Lexeme) → Here text l i j → KindOf l k i j → View k i j
    of_run : (n : ℕ) → 0 < n → Colons text i n → k ≡ run_kind n → j ≡ i + run_size n → View k i j

  view : (k : Kind) (i j : ℕ) → Told text k i j → View k i j
  view Ignorance i j t = of_rule an_ignorance t refl
  view (Boolean b) i j t = of_rule (a_boolean b) t refl
  view (Integer signed) i j t = of_rule an_integer t.0 (ap Integer t.1)
  view Fraction i j t = of_rule a_fraction t refl
  view Bits i j t = of_rule a_bits t refl
  view Blob i j t = of_rule a_blob t refl
  view (Text Quoted) i j t = of_rule a_quoted t refl
  view (Text Word) i j t = of_rule a_word t.0 (inl (refl, t.1))
  view (Text (HeadWord h)) i j t = of_rule a_word t.0 (inr (h, refl, t.1))
  view (Text CodePoint) i j t = of_rule a_code_point t refl
  view Later i j t = of_rule a_later t refl
  view (Symbol s) i j t = of_rule (a_symbol s) t refl
  view Colon i j t = ⊎_elim (λ c. of_run 1 (omega arith) c refl t.0) (λ c. of_run 3 (omega arith) c refl t.0) t.1
  view TwoColons i j t = of_run 2 (omega arith) t.1 refl t.0

  -- no lexeme begins where a run of colons does
  rule_run : (l : Lexeme) (n : ℕ) {i j : ℕ} → 0 < n → Colons text i n → Takes text (rule l) i j → ⊥
  rule_run l n {i} h c t = go c.takes refl
    where
      go : {e : ℕ} → Takes text (many (one (any_of ":"))) i e → e ≡ i + n → ⊥
      go (stop e) p = omega arith
      go (more (byte a e) u) p = false≢true (begins_with text (any_of ":") [] l no_colon_lem a t)

  -- a run has one length
  run_same_lem : (n m : ℕ) {i : ℕ} → Colons text i n → Colons text i m → n ≡ m
  run_same_lem n m c d = omega (arith, c.most d.takes, d.most c.takes)

  -- at a place stands one token at most
  pub one_token : {k h : Kind} {i j e : ℕ} → Is text k i j → Is text h i e → (k ≡ h) × (j ≡ e)
  one_token {k} {h} {i} {j} {e} x y = go (view k i j x.told) (view h i e y.told)
    where
      go : View k i j → View h i e → (k ≡ h) × (j ≡ e)
      go (of_rule l t p) (of_rule m u q) =
          let d : j ≡ e = le_antisymm (u.most l t.takes) (t.most m u.takes) in
          let o : m ≡ l = no_equal_lem text m l u.takes (ending d t.takes) in
          (kind_same l k h i j p (subst (λ (x : Lexeme). KindOf x h i j) o (subst (λ (x : ℕ). KindOf m h i x) (sym d) q)), d)
      go (of_rule l t p) (of_run m g d q f) = absurd (rule_run l m g d t.takes)
      go (of_run n g c p f) (of_rule m u q) = absurd (rule_run m n g c u.takes)
      go (of_run n g c p f) (of_run m g' d q f') =
          let o : n ≡ m = run_same_lem n m c d in
          (p ∙ ap run_kind o ∙ sym q, f ∙ ap (λ (x : ℕ). i + run_size x) o ∙ sym f')

  -- a token takes a byte at least
  pub token_forward : {k : Kind} {i j : ℕ} → Is text k i j → i < j
  token_forward {k} {i} {j} t = go (view k i j t.told)
    where
      size : (b : Bool) → 0 < cond b 2 1
      size true = omega arith
      size false = omega arith

      go : View k i j → i < j
      go (of_rule l h c) = grows (rule l) (not_true (nullable (rule l)) (for_every (λ m. not (nullable (rule m))) refl l)) h.takes
      go (of_run n h c p e) = omega (arith, e, size (eqb n 2))
