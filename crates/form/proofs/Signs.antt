-- Signs, colons and quoted Texts are the tokens where what stands behind them does not go on with them. Assumes nothing.
use mathlib.Core.Path.{◌≡◌, refl, subst}
use mathlib.Core.Logic.{⊎_elim}
use mathlib.Core.Bool.{true, false≢true}
use mathlib.Core.List.{List, [], ◌∷◌}
use Prim.Native.Nat.{ℕ, ◌+◌, ◌≤◌}
use native.Mathlib.Omega.{arith}
use lib.ListN.{length}
use Rattle.rules.specs.Class.{Class, any_of, codes}
use Rattle.rules.specs.Rule.{one, many, Takes, nothing, byte, both, stop, more, At, Fails}
use Rattle.rules.proofs.Classes.{apart, apart_span}
use Rattle.rules.proofs.Matches.{inside, starting, one_at, row_end}
use Rattle.rules.proofs.Chains.{longest}
use Rattle.rules.proofs.Ways.{never, begins_none, end_takes, covers}
use Rattle.lexicon.specs.declared.Bound.{Bound}
use Rattle.lexicon.specs.declared.Bound.TheVariants.{Open, Less, LessEqual}
use Rattle.lexicon.specs.declared.Sign.{Sign}
use Rattle.lexicon.specs.declared.Sign.TheVariants.{RoundOpen, RoundClose, CurlyOpen, CurlyClose, SquareOpen, SquareClose, Comma, ArrowRight, ArrowLeft, Dots, Star}
use Rattle.lexicon.specs.Literals.{quoted as quoted-rule}
use Rattle.lexicon.specs.Symbols.{side, symbol, Colons}
use Rattle.lexicon.specs.Token.{Lexeme, a_quoted, a_symbol, rule, Here}
use Rattle.lexicon.proofs.Segments.{quote, further, segment_single, further_single}
use Rattle.lexicon.proofs.Spaces.{byte_single}
use Rattle.lexicon.proofs.Tokens.{one_of, is_one, begins, begins_with, outreaches, reaches_furthest}
use Rattle.form.proofs.Bounded.{walls}

-- ---- signs

abbrev pub less : Class
less = any_of "<"

abbrev pub equals : Class
equals = any_of "="

abbrev pub colon : Class
colon = any_of ":"

-- the stars that go on where this one ends
abbrev longer_stars : Sign → List Lexeme
longer_stars RoundOpen = []
longer_stars RoundClose = []
longer_stars CurlyOpen = []
longer_stars CurlyClose = []
longer_stars SquareOpen = []
longer_stars SquareClose = []
longer_stars Comma = []
longer_stars ArrowRight = []
longer_stars ArrowLeft = []
longer_stars Dots = []
longer_stars (Star a Open) = a_symbol (Star a Less) ∷ a_symbol (Star a LessEqual) ∷ []
longer_stars (Star a Less) = a_symbol (Star a LessEqual) ∷ []
longer_stars (Star a LessEqual) = []

furthest : (s : Sign) → outreaches (a_symbol s) (longer_stars s) ≡ true
unfolding covers apart apart_span
furthest RoundOpen = refl
furthest RoundClose = refl
furthest CurlyOpen = refl
furthest CurlyClose = refl
furthest SquareOpen = refl
furthest SquareClose = refl
furthest Comma = refl
furthest ArrowRight = refl
furthest ArrowLeft = refl
furthest Dots = refl
furthest (Star Open Open) = refl
furthest (Star Open Less) = refl
furthest (Star Open LessEqual) = refl
furthest (Star Less Open) = refl
furthest (Star Less Less) = refl
furthest (Star Less LessEqual) = refl
furthest (Star LessEqual Open) = refl
furthest (Star LessEqual Less) = refl
furthest (Star LessEqual LessEqual) = refl

-- the bytes with which a sign would go on
abbrev pub goes_on : Sign → Class
goes_on RoundOpen = []
goes_on RoundClose = []
goes_on CurlyOpen = []
goes_on CurlyClose = []
goes_on SquareOpen = []
goes_on SquareClose = []
goes_on Comma = []
goes_on ArrowRight = []
goes_on ArrowLeft = []
goes_on Dots = []
goes_on (Star a Open) = less
goes_on (Star a Less) = equals
goes_on (Star a LessEqual) = []

module _ (text : List ℕ) where
  open_less : (a : Bound) {i j k : ℕ} → Takes text (symbol (Star a Open)) i j → Takes text (symbol (Star a Less)) i k → At text less j
  open_less a {j = j} (both t (both (byte b e) (nothing f))) (both u (both (byte c g) (byte d h))) =
      let x = row_end (codes (side a)) t in let y = row_end (codes (side a)) u in subst (At text less) (omega (arith, x, y, e, f, g)) d

  open_equal : (a : Bound) {i j k : ℕ} → Takes text (symbol (Star a Open)) i j → Takes text (symbol (Star a LessEqual)) i k → At text less j
  open_equal a {j = j} (both t (both (byte b e) (nothing f))) (both u (both (byte c g) (both (byte d h) v))) =
      let x = row_end (codes (side a)) t in let y = row_end (codes (side a)) u in subst (At text less) (omega (arith, x, y, e, f, g)) d

  less_equal_lem : (a : Bound) {i j k : ℕ} → Takes text (symbol (Star a Less)) i j → Takes text (symbol (Star a LessEqual)) i k → At text equals j
  less_equal_lem a {j = j} (both t (both (byte b e) (byte c f))) (both u (both (byte d g) (both (byte m h) (byte n l)))) =
      let x = row_end (codes (side a)) t in let y = row_end (codes (side a)) u in subst (At text equals) (omega (arith, x, y, e, f, g, h)) n

  goes_on_lem : (s : Sign) (m : Lexeme) {i j k : ℕ} → one_of (longer_stars s) m ≡ true → Takes text (symbol s) i j → Takes text (rule m) i k → At text (goes_on s) j
  goes_on_lem RoundOpen m e t u = absurd (false≢true e)
  goes_on_lem RoundClose m e t u = absurd (false≢true e)
  goes_on_lem CurlyOpen m e t u = absurd (false≢true e)
  goes_on_lem CurlyClose m e t u = absurd (false≢true e)
  goes_on_lem SquareOpen m e t u = absurd (false≢true e)
  goes_on_lem SquareClose m e t u = absurd (false≢true e)
  goes_on_lem Comma m e t u = absurd (false≢true e)
  goes_on_lem ArrowRight m e t u = absurd (false≢true e)
  goes_on_lem ArrowLeft m e t u = absurd (false≢true e)
  goes_on_lem Dots m e t u = absurd (false≢true e)
  goes_on_lem (Star a LessEqual) m e t u = absurd (false≢true e)
  goes_on_lem (Star a Less) m {i} {k = k} e t u =
      ⊎_elim (λ x. less_equal_lem a t (subst (λ (n : Lexeme). Takes text (rule n) i k) x u)) (λ x. absurd (false≢true x))
      (is_one (a_symbol (Star a LessEqual)) [] m e)
  goes_on_lem (Star a Open) m {i} {k = k} e t u =
      ⊎_elim (λ x. open_less a t (subst (λ (n : Lexeme). Takes text (rule n) i k) x u))
      (λ x. ⊎_elim (λ y. open_equal a t (subst (λ (n : Lexeme). Takes text (rule n) i k) y u)) (λ y. absurd (false≢true y))
      (is_one (a_symbol (Star a LessEqual)) [] m x))
      (is_one (a_symbol (Star a Less)) (a_symbol (Star a LessEqual) ∷ []) m e)

  -- a sign that does not go on is the token
  pub sign_here : (s : Sign) {i j : ℕ} → (At text (goes_on s) j → ⊥) → Takes text (symbol s) i j → Here text (a_symbol s) i j
  sign_here s n t = reaches_furthest text (a_symbol s) (longer_stars s) (furthest s) t (λ m k e u. absurd (n (goes_on_lem s m e t u)))

  -- ---- colons

  pub colons_one : {i : ℕ} → At text colon i → (At text colon (i + 1) → ⊥) → Colons text i 1
  colons_one a n = longest (byte_single colon) (more (one_at a) (stop refl)) (record { none = λ t. none n t })
    where
      none : {i k : ℕ} → (At text colon i → ⊥) → Takes text (one colon) i k → ⊥
      none n (byte b e) = n b

  pub colons_more : (n : ℕ) {i : ℕ} → At text colon i → Colons text (i + 1) n → Colons text i (n + 1)
  colons_more n {i} a c =
      let h : i + 1 + n ≡ i + (n + 1) = omega arith in
      record { takes = more (one_at a) (subst (λ (x : ℕ). Takes text (many (one colon)) (i + 1) x) h c.takes); most = λ t. go t }
    where
      go : {k : ℕ} → Takes text (many (one colon)) i k → k ≤ i + (n + 1)
      go (stop e) = omega (arith, e)
      go (more (byte b e) u) = let x = c.most (starting e u) in omega (arith, x)

-- ---- quoted

quote_alone : begins quote (a_quoted ∷ []) ≡ true
unfolding never apart apart_span
quote_alone = refl

walls_segment : never walls further ≡ true
unfolding never apart apart_span
walls_segment = refl

module _ (text : List ℕ) where
  -- no further segment stands behind it
  pub quoted_here : {i j : ℕ} → Fails text further j → Takes text quoted-rule i j → Here text a_quoted i j
  quoted_here {i} {j} f t = record { takes = t; most = λ m u. other m u }
    where
      first : {k : ℕ} → Takes text quoted-rule i k → At text quote i
      first (both (both (byte a e) u) v) = a

      most : {k : ℕ} → Takes text quoted-rule i j → Takes text quoted-rule i k → k ≤ j
      most (both t u) (both v w) = (longest (further_single text) u f).most (starting ((segment_single text).same v t) w)

      other : (m : Lexeme) {k : ℕ} → Takes text (rule m) i k → k ≤ j
      other m {k} u =
          ⊎_elim (λ x. most t (subst (λ (n : Lexeme). Takes text (rule n) i k) x u)) (λ x. absurd (false≢true x))
          (is_one a_quoted [] m (begins_with text quote (a_quoted ∷ []) m quote_alone (first t) u))

  pub walled : {j : ℕ} → At text walls j → Fails text further j
  walled a = begins_none text walls further walls_segment a

  pub ended : {j : ℕ} → length text ≤ j → Fails text further j
  ended h = record { none = λ t. end_takes text further refl h t }

  -- at the end every match is the longest
  pub end_here : (l : Lexeme) {i j : ℕ} → length text ≤ j → i ≤ length text → Takes text (rule l) i j → Here text l i j
  end_here l {j = j} h k t = record { takes = t; most = λ m u. go (inside u k) }
    where
      go : {x : ℕ} → x ≤ length text → x ≤ j
      go p = omega (arith, p, h)
