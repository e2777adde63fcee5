-- The longest symbol: how far each reaches, told by the first bytes, and what rules the others out. Assumes nothing.
use mathlib.Core.Path.{◌≡◌, refl, sym, subst, ap, ◌∙◌}
use mathlib.Core.Logic.{⊎_elim}
use mathlib.Core.Bool.{Bool, true, false, false≢true}
use mathlib.Core.List.{List, [], ◌∷◌}
use Prim.Native.Nat.{ℕ, ◌+◌, ◌≤◌}
use native.Mathlib.Omega.{arith}
use lib.ListN.{get_or}
use Rattle.rules.specs.Class.{just, codes}
use Rattle.rules.specs.Test.{Says}
use Rattle.rules.specs.Rule.{one, lit, At, Takes, nothing, byte, both}
use Rattle.rules.proofs.Classes.{apart, apart_span}
use Rattle.rules.proofs.Matches.{starting, row_end}
use Rattle.rules.proofs.Tests.{there, not_there}
use Rattle.rules.proofs.Ways.{covers}
use Rattle.lexicon.specs.declared.Bound.{Bound}
use Rattle.lexicon.specs.declared.Bound.TheVariants.{Open, Less, LessEqual}
use Rattle.lexicon.specs.declared.Sign.{Sign}
use Rattle.lexicon.specs.declared.Sign.TheVariants.{RoundOpen, RoundClose, CurlyOpen, CurlyClose, SquareOpen, SquareClose, Comma, ArrowRight, ArrowLeft, Dots, Star}
use Rattle.lexicon.specs.Symbols.{side, symbol}
use Rattle.lexicon.specs.Token.{Lexeme, a_symbol, rule, Here}
use Rattle.lexicon.proofs.Tokens.{outreaches, one_of, is_one, reaches_furthest}
use Rattle.std.specs.Bool.{then_some}
use Rattle.token.specs.Answers.{NoSymbol, Symboled}
use Rattle.token.proofs.Bytes.{at_is}

-- ---- how far they reach

less_equal_far : (l : Bound) → outreaches (a_symbol (Star l LessEqual)) [] ≡ true
unfolding covers apart apart_span
less_equal_far Open = refl
less_equal_far Less = refl
less_equal_far LessEqual = refl

less_far : (l : Bound) → outreaches (a_symbol (Star l Less)) (a_symbol (Star l LessEqual) ∷ []) ≡ true
unfolding covers apart apart_span
less_far Open = refl
less_far Less = refl
less_far LessEqual = refl

open_far : (l : Bound) → outreaches (a_symbol (Star l Open)) (a_symbol (Star l Less) ∷ a_symbol (Star l LessEqual) ∷ []) ≡ true
unfolding covers apart apart_span
open_far Open = refl
open_far Less = refl
open_far LessEqual = refl

module _ (text : List ℕ) where
  -- a symbol that needs no look at what follows
  pub no_further_lem : (s : Sign) {i j : ℕ} → outreaches (a_symbol s) [] ≡ true → Takes text (symbol s) i j → Here text (a_symbol s) i j
  no_further_lem s e t = reaches_furthest text (a_symbol s) [] e t (λ m k x u. absurd (false≢true x))

  -- one byte
  pub single : (s : Sign) (i : ℕ) → outreaches (a_symbol s) [] ≡ true → Takes text (symbol s) i (i + 1) → Here text (a_symbol s) i (i + 1)
  single s i e t = no_further_lem s e t

  -- a match of a lexeme that is known
  pub taken_as : (l n : Lexeme) {i k : ℕ} → n ≡ l → Takes text (rule n) i k → Takes text (rule l) i k
  taken_as l n {i} {k} e t = subst (λ (z : Lexeme). Takes text (rule z) i k) e t

  -- ---- stars

  module _ (l : Bound) {i m : ℕ} (a : Takes text (lit (side l)) i m) (x : At text (just 0x2A) m) where
    star_then : (h : Bound) {k : ℕ} → Takes text (lit (side h)) (m + 1) k → Takes text (symbol (Star l h)) i k
    star_then h t = both a (both (byte x refl) t)

    -- the high side of a star from i stands behind this star
    high_side : (h : Bound) {k : ℕ} → Takes text (symbol (Star l h)) i k → Takes text (lit (side h)) (m + 1) k
    high_side h (both b (both (byte y e) t)) =
        starting (e ∙ ap (λ (n : ℕ). n + 1) (row_end (codes (side l)) b ∙ sym (row_end (codes (side l)) a))) t

    pub open_star : (At text (just 0x3C) (m + 1) → ⊥) → Here text (a_symbol (Star l Open)) i (m + 1)
    open_star f = reaches_furthest text (a_symbol (Star l Open)) (a_symbol (Star l Less) ∷ a_symbol (Star l LessEqual) ∷ []) (open_far l) (star_then Open (nothing refl)) go
      where
        less : (k : ℕ) → Takes text (lit "<") (m + 1) k → ⊥
        less k (byte y e) = f y

        less_equal : (k : ℕ) → Takes text (lit "<=") (m + 1) k → ⊥
        less_equal k (both (byte y e) t) = f y

        go : (n : Lexeme) (k : ℕ) → one_of (a_symbol (Star l Less) ∷ a_symbol (Star l LessEqual) ∷ []) n ≡ true → Takes text (rule n) i k → k ≤ m + 1
        go n k e t =
            ⊎_elim (λ q. absurd (less k (high_side Less (taken_as (a_symbol (Star l Less)) n q t))))
            (λ r. ⊎_elim (λ q. absurd (less_equal k (high_side LessEqual (taken_as (a_symbol (Star l LessEqual)) n q t)))) (λ q. absurd (false≢true q)) (is_one (a_symbol (Star l LessEqual)) [] n r))
            (is_one (a_symbol (Star l Less)) (a_symbol (Star l LessEqual) ∷ []) n e)

    pub less_star : At text (just 0x3C) (m + 1) → (At text (just 0x3D) (m + 2) → ⊥) → Here text (a_symbol (Star l Less)) i (m + 2)
    less_star y f = reaches_furthest text (a_symbol (Star l Less)) (a_symbol (Star l LessEqual) ∷ []) (less_far l) (star_then Less (byte y (omega arith))) go
      where
        equal : (k : ℕ) → Takes text (lit "<=") (m + 1) k → ⊥
        equal k (both (byte z e) (byte w d)) = f (subst (λ (n : ℕ). At text (just 0x3D) n) (e ∙ omega arith) w)

        go : (n : Lexeme) (k : ℕ) → one_of (a_symbol (Star l LessEqual) ∷ []) n ≡ true → Takes text (rule n) i k → k ≤ m + 2
        go n k e t =
            ⊎_elim (λ q. absurd (equal k (high_side LessEqual (taken_as (a_symbol (Star l LessEqual)) n q t)))) (λ q. absurd (false≢true q)) (is_one (a_symbol (Star l LessEqual)) [] n e)

    pub less_equal_star : At text (just 0x3C) (m + 1) → At text (just 0x3D) (m + 2) → Here text (a_symbol (Star l LessEqual)) i (m + 3)
    less_equal_star y z =
        no_further_lem (Star l LessEqual) (less_equal_far l) (star_then LessEqual (both (byte y refl) (starting (omega arith) (byte z (omega arith)))))

  -- ---- two bytes

  right_arrow_lem : {i : ℕ} → At text (just 0x2D) i → At text (just 0x3E) (i + 1) → Here text (a_symbol ArrowRight) i (i + 2)
  unfolding covers apart apart_span
  right_arrow_lem x y = no_further_lem ArrowRight refl (both (byte x refl) (byte y (omega arith)))

  pub left_arrow_lem : {i : ℕ} → At text (just 0x3C) i → At text (just 0x2D) (i + 1) → Here text (a_symbol ArrowLeft) i (i + 2)
  unfolding covers apart apart_span
  left_arrow_lem x y = no_further_lem ArrowLeft refl (both (byte x refl) (byte y (omega arith)))

  two_dots_lem : {i : ℕ} → At text (just 0x2E) i → At text (just 0x2E) (i + 1) → Here text (a_symbol Dots) i (i + 2)
  unfolding covers apart apart_span
  two_dots_lem x y = no_further_lem Dots refl (both (byte x refl) (byte y (omega arith)))

  -- ---- one byte

  pub round_open : {i : ℕ} → At text (just 0x28) i → Here text (a_symbol RoundOpen) i (i + 1)
  unfolding covers apart apart_span
  round_open x = no_further_lem RoundOpen refl (byte x refl)

  pub round_close_lem : {i : ℕ} → At text (just 0x29) i → Here text (a_symbol RoundClose) i (i + 1)
  unfolding covers apart apart_span
  round_close_lem x = no_further_lem RoundClose refl (byte x refl)

  pub curly_open : {i : ℕ} → At text (just 0x7B) i → Here text (a_symbol CurlyOpen) i (i + 1)
  unfolding covers apart apart_span
  curly_open x = no_further_lem CurlyOpen refl (byte x refl)

  pub curly_close_lem : {i : ℕ} → At text (just 0x7D) i → Here text (a_symbol CurlyClose) i (i + 1)
  unfolding covers apart apart_span
  curly_close_lem x = no_further_lem CurlyClose refl (byte x refl)

  pub square_open : {i : ℕ} → At text (just 0x5B) i → Here text (a_symbol SquareOpen) i (i + 1)
  unfolding covers apart apart_span
  square_open x = no_further_lem SquareOpen refl (byte x refl)

  pub square_close_lem : {i : ℕ} → At text (just 0x5D) i → Here text (a_symbol SquareClose) i (i + 1)
  unfolding covers apart apart_span
  square_close_lem x = no_further_lem SquareClose refl (byte x refl)

  pub comma : {i : ℕ} → At text (just 0x2C) i → Here text (a_symbol Comma) i (i + 1)
  unfolding covers apart apart_span
  comma x = no_further_lem Comma refl (byte x refl)

  -- ---- none

  -- the first byte of each
  abbrev pub First : ℕ → Sign → Type 0
  First b RoundOpen = b ≡ 0x28
  First b RoundClose = b ≡ 0x29
  First b CurlyOpen = b ≡ 0x7B
  First b CurlyClose = b ≡ 0x7D
  First b SquareOpen = b ≡ 0x5B
  First b SquareClose = b ≡ 0x5D
  First b Comma = b ≡ 0x2C
  First b ArrowRight = b ≡ 0x2D
  First b ArrowLeft = b ≡ 0x3C
  First b Dots = b ≡ 0x2E
  First b (Star Open h) = b ≡ 0x2A
  First b (Star Less h) = b ≡ 0x3C
  First b (Star LessEqual h) = b ≡ 0x3C

  pub first_byte_lem : (s : Sign) {i k : ℕ} → Takes text (symbol s) i k → First (get_or text i 0) s
  first_byte_lem RoundOpen {i} (byte x e) = at_is text 0x28 i x
  first_byte_lem RoundClose {i} (byte x e) = at_is text 0x29 i x
  first_byte_lem CurlyOpen {i} (byte x e) = at_is text 0x7B i x
  first_byte_lem CurlyClose {i} (byte x e) = at_is text 0x7D i x
  first_byte_lem SquareOpen {i} (byte x e) = at_is text 0x5B i x
  first_byte_lem SquareClose {i} (byte x e) = at_is text 0x5D i x
  first_byte_lem Comma {i} (byte x e) = at_is text 0x2C i x
  first_byte_lem ArrowRight {i} (both (byte x e) t) = at_is text 0x2D i x
  first_byte_lem ArrowLeft {i} (both (byte x e) t) = at_is text 0x3C i x
  first_byte_lem Dots {i} (both (byte x e) t) = at_is text 0x2E i x
  first_byte_lem (Star Open h) {i} (both (nothing d) (both (byte x e) t)) = ap (λ (n : ℕ). get_or text n 0) d ∙ at_is text 0x2A _ x
  first_byte_lem (Star Less h) {i} (both (byte x e) t) = at_is text 0x3C i x
  first_byte_lem (Star LessEqual h) {i} (both (both (byte x d) u) t) = at_is text 0x3C i x

  dash_none : (i : ℕ) → At text (just 0x2D) i → (At text (just 0x3E) (i + 1) → ⊥) → NoSymbol text i
  dash_none i x f = record { none = λ s {k} t. go s k t }
    where
      b : get_or text i 0 ≡ 0x2D
      b = at_is text 0x2D i x

      arrow : (k : ℕ) → Takes text (lit "->") i k → ⊥
      arrow k (both (byte y e) (byte z d)) = f (subst (λ (n : ℕ). At text (just 0x3E) n) e z)

      go : (s : Sign) (k : ℕ) → Takes text (symbol s) i k → ⊥
      go RoundOpen k t = omega (arith, first_byte_lem RoundOpen t, b)
      go RoundClose k t = omega (arith, first_byte_lem RoundClose t, b)
      go CurlyOpen k t = omega (arith, first_byte_lem CurlyOpen t, b)
      go CurlyClose k t = omega (arith, first_byte_lem CurlyClose t, b)
      go SquareOpen k t = omega (arith, first_byte_lem SquareOpen t, b)
      go SquareClose k t = omega (arith, first_byte_lem SquareClose t, b)
      go Comma k t = omega (arith, first_byte_lem Comma t, b)
      go ArrowRight k t = arrow k t
      go ArrowLeft k t = omega (arith, first_byte_lem ArrowLeft t, b)
      go Dots k t = omega (arith, first_byte_lem Dots t, b)
      go (Star Open h) k t = omega (arith, first_byte_lem (Star Open h) t, b)
      go (Star Less h) k t = omega (arith, first_byte_lem (Star Less h) t, b)
      go (Star LessEqual h) k t = omega (arith, first_byte_lem (Star LessEqual h) t, b)

  dot_none : (i : ℕ) → At text (just 0x2E) i → (At text (just 0x2E) (i + 1) → ⊥) → NoSymbol text i
  dot_none i x f = record { none = λ s {k} t. go s k t }
    where
      b : get_or text i 0 ≡ 0x2E
      b = at_is text 0x2E i x

      dots : (k : ℕ) → Takes text (lit "..") i k → ⊥
      dots k (both (byte y e) (byte z d)) = f (subst (λ (n : ℕ). At text (just 0x2E) n) e z)

      go : (s : Sign) (k : ℕ) → Takes text (symbol s) i k → ⊥
      go RoundOpen k t = omega (arith, first_byte_lem RoundOpen t, b)
      go RoundClose k t = omega (arith, first_byte_lem RoundClose t, b)
      go CurlyOpen k t = omega (arith, first_byte_lem CurlyOpen t, b)
      go CurlyClose k t = omega (arith, first_byte_lem CurlyClose t, b)
      go SquareOpen k t = omega (arith, first_byte_lem SquareOpen t, b)
      go SquareClose k t = omega (arith, first_byte_lem SquareClose t, b)
      go Comma k t = omega (arith, first_byte_lem Comma t, b)
      go ArrowRight k t = omega (arith, first_byte_lem ArrowRight t, b)
      go ArrowLeft k t = omega (arith, first_byte_lem ArrowLeft t, b)
      go Dots k t = dots k t
      go (Star Open h) k t = omega (arith, first_byte_lem (Star Open h) t, b)
      go (Star Less h) k t = omega (arith, first_byte_lem (Star Less h) t, b)
      go (Star LessEqual h) k t = omega (arith, first_byte_lem (Star LessEqual h) t, b)

  -- behind `<` stands neither `-` nor `*`, nor `=` and then `*`
  pub less_none : (i : ℕ) → At text (just 0x3C) i → (At text (just 0x2D) (i + 1) → ⊥) → (At text (just 0x2A) (i + 1) → ⊥) → (At text (just 0x3D) (i + 1) → At text (just 0x2A) (i + 2) → ⊥) → NoSymbol text i
  less_none i x f g h' = record { none = λ s {k} t. go s k t }
    where
      b : get_or text i 0 ≡ 0x3C
      b = at_is text 0x3C i x

      moved : (c : ℕ) {m n : ℕ} → m ≡ n → At text (just c) m → At text (just c) n
      moved c e a = subst (λ (n : ℕ). At text (just c) n) e a

      arrow : (k : ℕ) → Takes text (lit "<-") i k → ⊥
      arrow k (both (byte y e) (byte z d)) = f (moved 0x2D e z)

      less : (h : Bound) (k : ℕ) → Takes text (symbol (Star Less h)) i k → ⊥
      less h k (both (byte y e) (both (byte z d) t)) = g (moved 0x2A e z)

      less_equal : (h : Bound) (k : ℕ) → Takes text (symbol (Star LessEqual h)) i k → ⊥
      less_equal h k (both (both (byte y e) (byte {j = m} w d)) (both (byte z c) t)) =
          let q : m ≡ i + 2 = omega arith in h' (moved 0x3D e w) (moved 0x2A q z)

      go : (s : Sign) (k : ℕ) → Takes text (symbol s) i k → ⊥
      go RoundOpen k t = omega (arith, first_byte_lem RoundOpen t, b)
      go RoundClose k t = omega (arith, first_byte_lem RoundClose t, b)
      go CurlyOpen k t = omega (arith, first_byte_lem CurlyOpen t, b)
      go CurlyClose k t = omega (arith, first_byte_lem CurlyClose t, b)
      go SquareOpen k t = omega (arith, first_byte_lem SquareOpen t, b)
      go SquareClose k t = omega (arith, first_byte_lem SquareClose t, b)
      go Comma k t = omega (arith, first_byte_lem Comma t, b)
      go ArrowRight k t = omega (arith, first_byte_lem ArrowRight t, b)
      go ArrowLeft k t = arrow k t
      go Dots k t = omega (arith, first_byte_lem Dots t, b)
      go (Star Open h) k t = omega (arith, first_byte_lem (Star Open h) t, b)
      go (Star Less h) k t = less h k t
      go (Star LessEqual h) k t = less_equal h k t

  -- no symbol begins with another byte
  pub other_none : (i b : ℕ) → get_or text i 0 ≡ b → (b ≡ 0x28 → ⊥) → (b ≡ 0x29 → ⊥) → (b ≡ 0x7B → ⊥) → (b ≡ 0x7D → ⊥) → (b ≡ 0x5B → ⊥) → (b ≡ 0x5D → ⊥) → (b ≡ 0x2C → ⊥) → (b ≡ 0x2A → ⊥) → (b ≡ 0x3C → ⊥) → (b ≡ 0x2D → ⊥) → (b ≡ 0x2E → ⊥) → NoSymbol text i
  other_none i b e f₁ f₂ f₃ f₄ f₅ f₆ f₇ f₈ f₉ f₁₀ f₁₁ = record { none = λ s {k} t. go s k t }
    where
      go : (s : Sign) (k : ℕ) → Takes text (symbol s) i k → ⊥
      go RoundOpen k t = f₁ (sym e ∙ first_byte_lem RoundOpen t)
      go RoundClose k t = f₂ (sym e ∙ first_byte_lem RoundClose t)
      go CurlyOpen k t = f₃ (sym e ∙ first_byte_lem CurlyOpen t)
      go CurlyClose k t = f₄ (sym e ∙ first_byte_lem CurlyClose t)
      go SquareOpen k t = f₅ (sym e ∙ first_byte_lem SquareOpen t)
      go SquareClose k t = f₆ (sym e ∙ first_byte_lem SquareClose t)
      go Comma k t = f₇ (sym e ∙ first_byte_lem Comma t)
      go ArrowRight k t = f₁₀ (sym e ∙ first_byte_lem ArrowRight t)
      go ArrowLeft k t = f₉ (sym e ∙ first_byte_lem ArrowLeft t)
      go Dots k t = f₁₁ (sym e ∙ first_byte_lem Dots t)
      go (Star Open h) k t = f₈ (sym e ∙ first_byte_lem (Star Open h) t)
      go (Star Less h) k t = f₉ (sym e ∙ first_byte_lem (Star Less h) t)
      go (Star LessEqual h) k t = f₉ (sym e ∙ first_byte_lem (Star LessEqual h) t)

  -- ---- of two bytes, or none

  pub dash_says : {i : ℕ} {o : Bool} → At text (just 0x2D) i → Says o (Takes text (one (just 0x3E)) (i + 1) (i + 1 + 1)) → Symboled text i (then_some o (record { sign = ArrowRight; end = i + 2 }))
  dash_says {o = true} x s = right_arrow_lem x (there s refl)
  dash_says {o = false} x s = dash_none _ x (not_there s refl)

  pub dot_says : {i : ℕ} {o : Bool} → At text (just 0x2E) i → Says o (Takes text (one (just 0x2E)) (i + 1) (i + 1 + 1)) → Symboled text i (then_some o (record { sign = Dots; end = i + 2 }))
  dot_says {o = true} x s = two_dots_lem x (there s refl)
  dot_says {o = false} x s = dot_none _ x (not_there s refl)
