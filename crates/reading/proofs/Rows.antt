-- Rows of tokens of a text: one token comes next, so rows from one place are one row, as far as they reach. Assumes nothing.
use mathlib.Core.Path.{◌≡◌, refl, ap, subst}
use mathlib.Core.List.{List, [], ◌∷◌, ◌++◌}
use Prim.Native.Nat.{ℕ, zero, suc, ◌≤◌, ◌<◌}
use native.Mathlib.Omega.{arith}
use lib.ListN.{length}
use Rattle.rules.specs.Every.{Every, none, also}
use Rattle.rules.proofs.Matches.{forward}
use Rattle.lexicon.specs.declared.Token as Token
use Rattle.lexicon.specs.declared.Next.{Next}
use Rattle.lexicon.specs.Token.{Comes}
use Rattle.lexicon.proofs.Unique.{token_forward}
use Rattle.lexicon.proofs.Determined.{one_answer}
use Rattle.grammar.specs.Tokens.{Tok}
use Rattle.reading.specs.Tokens.{seen, Follow, nothing, next}

-- what every token of a row has, every one of each part has
pub every_part : {P : Tok → Type 0} (xs ys : List Tok) → Every P (xs ++ ys) → Every P xs × Every P ys
every_part [] ys e = (none, e)
every_part (x ∷ xs) ys (also p e) = let z = every_part xs ys e in (also p z.0, z.1)

-- ---- numbers in their order

pub data Order (m n : ℕ) : Type 0 where
  equal : m ≡ n → Order m n
  less : m < n → Order m n
  more : n < m → Order m n

pub order : (m n : ℕ) → Order m n
order zero zero = equal refl
order zero (suc n) = less (omega arith)
order (suc m) zero = more (omega arith)
order (suc m) (suc n) = further (order m n)
  where
    further : Order m n → Order (suc m) (suc n)
    further (equal e) = equal (ap suc e)
    further (less h) = less (omega (arith, h))
    further (more h) = more (omega (arith, h))

module _ (bytes : List ℕ) where
  -- ---- one token comes next

  abbrev token_or : Token.Token → Next → Token.Token
  token_or d (Next.Token t) = t
  token_or d (Next.End p) = d
  token_or d (Next.NoToken p) = d

  abbrev which : Next → ℕ
  which (Next.Token t) = 0
  which (Next.End p) = 1
  which (Next.NoToken p) = 2

  abbrev place_of : Next → ℕ
  place_of (Next.Token t) = t.first
  place_of (Next.End p) = p
  place_of (Next.NoToken p) = p

  pub pick : {p : ℕ} {t u : Token.Token} → Comes bytes p (Next.Token t) → Comes bytes p (Next.Token u) → t ≡ u
  pick {p} {t} {u} c d = ap (token_or t) (one_answer bytes p (Next.Token t) (Next.Token u) c d)

  alike : (p : ℕ) (r s : Next) → Comes bytes p r → Comes bytes p s → which r ≡ which s
  alike p r s c d = ap which (one_answer bytes p r s c d)

  pub same_place : (p : ℕ) (r s : Next) → Comes bytes p r → Comes bytes p s → place_of r ≡ place_of s
  same_place p r s c d = ap place_of (one_answer bytes p r s c d)

  pub no_end : (p : ℕ) {t : Token.Token} {q : ℕ} → Comes bytes p (Next.Token t) → Comes bytes p (Next.End q) → ⊥
  no_end p {t} {q} c d = omega (arith, alike p (Next.Token t) (Next.End q) c d)

  pub no_none : (p : ℕ) {t : Token.Token} {q : ℕ} → Comes bytes p (Next.Token t) → Comes bytes p (Next.NoToken q) → ⊥
  no_none p {t} {q} c d = omega (arith, alike p (Next.Token t) (Next.NoToken q) c d)

  pub none_end : (p : ℕ) {x q : ℕ} → Comes bytes p (Next.NoToken x) → Comes bytes p (Next.End q) → ⊥
  none_end p {x} {q} c d = omega (arith, alike p (Next.NoToken x) (Next.End q) c d)

  -- ---- rows

  pub comes_forward : {p : ℕ} {t : Token.Token} → Comes bytes p (Next.Token t) → p ≤ t.first
  comes_forward c = forward c.0.takes

  pub row_forward : {p q : ℕ} {ts : List Tok} → Follow bytes p ts q → p ≤ q
  row_forward nothing = omega arith
  row_forward (next c f) = omega (arith, comes_forward c, token_forward bytes c.2, row_forward f)

  -- rows of the same length are the same
  pub one_row : {p q r : ℕ} {ts us : List Tok} → Follow bytes p ts q → Follow bytes p us r → length ts ≡ length us → (ts ≡ us) × (q ≡ r)
  one_row nothing nothing e = (refl, refl)
  one_row nothing (next d g) e = absurd (omega (arith, e))
  one_row (next c f) nothing e = absurd (omega (arith, e))
  one_row (next {q = q} {t = t} {ts = ts} c f) (next {t = u} d g) e =
      let same : t ≡ u = pick c d in
      let o = one_row (subst (λ (x : Token.Token). Follow bytes x.end ts q) same f) g (omega (arith, e)) in
      ((λ i. seen (same i) ∷ o.0 i), o.1)

  -- a longer row has the token that comes behind a shorter one
  pub row_beyond : {s p q : ℕ} {ts us : List Tok} {t : Token.Token} → Follow bytes s ts p → Comes bytes p (Next.Token t) → Follow bytes s us q → length ts < length us → t.end ≤ q
  row_beyond f c nothing h = absurd (omega (arith, h))
  row_beyond {q = q} nothing c (next {ts = us} d g) h = row_forward (subst (λ (x : Token.Token). Follow bytes x.end us q) (pick d c) g)
  row_beyond {p = p} (next {t = x} {ts = ts} e f) c (next {t = y} d g) h =
      row_beyond (subst (λ (z : Token.Token). Follow bytes z.end ts p) (pick e d) f) c g (omega (arith, h))

  pub append : {p q r : ℕ} {ts us : List Tok} → Follow bytes p ts q → Follow bytes q us r → Follow bytes p (ts ++ us) r
  append nothing g = g
  append (next c f) g = next c (append f g)

  -- a row at one of its tokens
  pub record Split (p : ℕ) (xs : List Tok) (w : Tok) (ys : List Tok) (q : ℕ) : Type 0 where
    pub at : ℕ
    pub token : Token.Token
    pub before : Follow bytes p xs at
    pub comes : Comes bytes at (Next.Token token)
    pub is : seen token ≡ w
    pub behind : Follow bytes token.end ys q

  pub split : {p q : ℕ} (xs : List Tok) (w : Tok) (ys : List Tok) → Follow bytes p (xs ++ (w ∷ ys)) q → Split p xs w ys q
  split {p} [] w ys (next {t = t} c f) = record { at = p; token = t; before = nothing; comes = c; is = refl; behind = f }
  split (x ∷ xs) w ys (next c f) =
      let s = split xs w ys f in
      record { at = s.at; token = s.token; before = next c s.before; comes = s.comes; is = s.is; behind = s.behind }
