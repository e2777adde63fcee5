-- The token rules taken together: every lexeme has a number, so that a test over all of them computes; and two tests, which bytes
-- begin which lexemes, and which lexemes no other outreaches. Assumes nothing.
use mathlib.Core.Path.{◌≡◌, refl, sym, ap, subst, ◌∙◌}
use mathlib.Core.Logic.{◌⊎◌, inl, inr, ⊎_elim}
use mathlib.Core.Bool.{Bool, true, false, ◌&&◌, ◌||◌, false≢true}
use mathlib.Core.List.{List, [], ◌∷◌}
use Prim.Native.Nat.{ℕ, zero, suc, ◌≤◌}
use lib.Dec.{eqb}
use lib.ListN.{get_or}
use borrow.Author.Tests.{eqb-true}
use Rattle.rules.specs.Class.{Class}
use Rattle.rules.specs.Rule.{Takes, At, Longest}
use Rattle.rules.proofs.Bools.{and_left, and_right, or_cases}
use Rattle.rules.proofs.Classes.{apart, apart_span}
use Rattle.rules.proofs.Ways.{never, never_takes, covers, covers_all}
use Rattle.lexicon.specs.declared.Bound.TheVariants.{Open, Less, LessEqual}
use Rattle.lexicon.specs.declared.Sign.TheVariants.{RoundOpen, RoundClose, CurlyOpen, CurlyClose, SquareOpen, SquareClose, Comma, ArrowRight, ArrowLeft, Dots, Star}
use Rattle.lexicon.specs.Token.{Lexeme, an_ignorance, a_boolean, an_integer, a_fraction, a_bits, a_blob, a_quoted, a_word, a_code_point, a_later, a_symbol, rule, Here}

abbrev pub lexemes : List Lexeme
lexemes =
    an_ignorance ∷
    (a_boolean false) ∷
    (a_boolean true) ∷
    an_integer ∷
    a_fraction ∷
    a_bits ∷
    a_blob ∷
    a_quoted ∷
    a_word ∷
    a_code_point ∷
    a_later ∷
    (a_symbol RoundOpen) ∷
    (a_symbol RoundClose) ∷
    (a_symbol CurlyOpen) ∷
    (a_symbol CurlyClose) ∷
    (a_symbol SquareOpen) ∷
    (a_symbol SquareClose) ∷
    (a_symbol Comma) ∷
    (a_symbol ArrowRight) ∷
    (a_symbol ArrowLeft) ∷
    (a_symbol Dots) ∷
    (a_symbol (Star Open Open)) ∷
    (a_symbol (Star Open Less)) ∷
    (a_symbol (Star Open LessEqual)) ∷
    (a_symbol (Star Less Open)) ∷
    (a_symbol (Star Less Less)) ∷
    (a_symbol (Star Less LessEqual)) ∷
    (a_symbol (Star LessEqual Open)) ∷
    (a_symbol (Star LessEqual Less)) ∷
    (a_symbol (Star LessEqual LessEqual)) ∷
    []

abbrev pub code : Lexeme → ℕ
code an_ignorance = 0
code (a_boolean false) = 1
code (a_boolean true) = 2
code an_integer = 3
code a_fraction = 4
code a_bits = 5
code a_blob = 6
code a_quoted = 7
code a_word = 8
code a_code_point = 9
code a_later = 10
code (a_symbol RoundOpen) = 11
code (a_symbol RoundClose) = 12
code (a_symbol CurlyOpen) = 13
code (a_symbol CurlyClose) = 14
code (a_symbol SquareOpen) = 15
code (a_symbol SquareClose) = 16
code (a_symbol Comma) = 17
code (a_symbol ArrowRight) = 18
code (a_symbol ArrowLeft) = 19
code (a_symbol Dots) = 20
code (a_symbol (Star Open Open)) = 21
code (a_symbol (Star Open Less)) = 22
code (a_symbol (Star Open LessEqual)) = 23
code (a_symbol (Star Less Open)) = 24
code (a_symbol (Star Less Less)) = 25
code (a_symbol (Star Less LessEqual)) = 26
code (a_symbol (Star LessEqual Open)) = 27
code (a_symbol (Star LessEqual Less)) = 28
code (a_symbol (Star LessEqual LessEqual)) = 29

abbrev decode : ℕ → Lexeme
decode n = get_or lexemes n an_ignorance

decoded : (m : Lexeme) → decode (code m) ≡ m
decoded an_ignorance = refl
decoded (a_boolean false) = refl
decoded (a_boolean true) = refl
decoded an_integer = refl
decoded a_fraction = refl
decoded a_bits = refl
decoded a_blob = refl
decoded a_quoted = refl
decoded a_word = refl
decoded a_code_point = refl
decoded a_later = refl
decoded (a_symbol RoundOpen) = refl
decoded (a_symbol RoundClose) = refl
decoded (a_symbol CurlyOpen) = refl
decoded (a_symbol CurlyClose) = refl
decoded (a_symbol SquareOpen) = refl
decoded (a_symbol SquareClose) = refl
decoded (a_symbol Comma) = refl
decoded (a_symbol ArrowRight) = refl
decoded (a_symbol ArrowLeft) = refl
decoded (a_symbol Dots) = refl
decoded (a_symbol (Star Open Open)) = refl
decoded (a_symbol (Star Open Less)) = refl
decoded (a_symbol (Star Open LessEqual)) = refl
decoded (a_symbol (Star Less Open)) = refl
decoded (a_symbol (Star Less Less)) = refl
decoded (a_symbol (Star Less LessEqual)) = refl
decoded (a_symbol (Star LessEqual Open)) = refl
decoded (a_symbol (Star LessEqual Less)) = refl
decoded (a_symbol (Star LessEqual LessEqual)) = refl

-- one of a list
abbrev pub one_of : List Lexeme → Lexeme → Bool
one_of [] m = false
one_of (l ∷ ls) m = eqb (code m) (code l) || one_of ls m

pub is_one : (l : Lexeme) (ls : List Lexeme) (m : Lexeme) → one_of (l ∷ ls) m ≡ true → (m ≡ l) ⊎ (one_of ls m ≡ true)
is_one l ls m e =
    ⊎_elim (λ x. inl (sym (decoded m) ∙ ap decode (eqb-true (code m) (code l) x) ∙ decoded l)) (λ x. inr x) (or_cases (eqb (code m) (code l)) (one_of ls m) e)

-- a test of every lexeme
abbrev all : (Lexeme → Bool) → List Lexeme → Bool
all f [] = true
all f (m ∷ ms) = f m && all f ms

abbrev pub every : (Lexeme → Bool) → Bool
every f = all f lexemes

at_place : (f : Lexeme → Bool) (ms : List Lexeme) (d : Lexeme) → f d ≡ true → all f ms ≡ true → (k : ℕ) → f (get_or ms k d) ≡ true
at_place f [] d h e k = h
at_place f (m ∷ ms) d h e zero = and_left (f m) (all f ms) e
at_place f (m ∷ ms) d h e (suc k) = at_place f ms d h (and_right (f m) (all f ms) e) k

pub for_every : (f : Lexeme → Bool) → every f ≡ true → (m : Lexeme) → f m ≡ true
for_every f e m =
    subst (λ (x : Lexeme). f x ≡ true) (decoded m) (at_place f lexemes an_ignorance (and_left (f an_ignorance) _ e) e (code m))

-- ---- the bytes that begin a lexeme

-- only these lexemes begin with a byte of the class
abbrev pub begins : Class → List Lexeme → Bool
begins c ls = every (λ m. never c (rule m) || one_of ls m)

-- ---- how far a lexeme reaches

-- no match of another lexeme than these reaches further, told by the first bytes
abbrev pub outreaches : Lexeme → List Lexeme → Bool
outreaches l ls = every (λ m. covers 6 (rule l) (rule m) || one_of ls m)

module _ (text : List ℕ) where
  pub begins_with : (c : Class) (ls : List Lexeme) (m : Lexeme) {i j : ℕ} → begins c ls ≡ true → At text c i → Takes text (rule m) i j → one_of ls m ≡ true
  begins_with c ls m e a t =
      ⊎_elim (λ x. absurd (never_takes text c (rule m) x a t)) (λ x. x)
      (or_cases (never c (rule m)) (one_of ls m) (for_every (λ m. never c (rule m) || one_of ls m) e m))

  pub reaches_furthest : (l : Lexeme) (ls : List Lexeme) {i j : ℕ} → outreaches l ls ≡ true → Takes text (rule l) i j → ((m : Lexeme) (k : ℕ) → one_of ls m ≡ true → Takes text (rule m) i k → k ≤ j) → Here text l i j
  reaches_furthest l ls {i} {j} e t f = record { takes = t; most = most }
    where
      most : (m : Lexeme) {k : ℕ} → Takes text (rule m) i k → k ≤ j
      most m {k} u =
          ⊎_elim (λ x. covers_all text 6 (rule l) (rule m) x t u) (λ x. f m k x u)
          (or_cases (covers 6 (rule l) (rule m)) (one_of ls m) (for_every (λ m. covers 6 (rule l) (rule m) || one_of ls m) e m))

  -- where no other lexeme needs a look
  pub alone : (l : Lexeme) {i j : ℕ} → outreaches l (l ∷ []) ≡ true → Longest text (rule l) i j → Here text l i j
  alone l {i} {j} e t = reaches_furthest l (l ∷ []) e t.takes go
    where
      go : (m : Lexeme) (k : ℕ) → one_of (l ∷ []) m ≡ true → Takes text (rule m) i k → k ≤ j
      go m k x u = ⊎_elim (λ y. t.most (subst (λ (n : Lexeme). Takes text (rule n) i k) y u)) (λ y. absurd (false≢true y)) (is_one l [] m x)

ignorance_alone : outreaches an_ignorance (an_ignorance ∷ []) ≡ true
unfolding covers apart apart_span
ignorance_alone = refl
