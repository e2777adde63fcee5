-- Disjoint classes: the test that no byte is in both, and what it tells; inclusion; a byte by the bounds of its span. Assumes nothing.
use mathlib.Core.Path.{◌≡◌, subst, sym}
use mathlib.Core.Logic.{◌⊎◌, inl, inr, ⊎_elim}
use mathlib.Core.Bool.{Bool, true, false, ◌&&◌, ◌||◌, false≢true}
use mathlib.Core.List.{[], ◌∷◌}
use Prim.Native.Nat.{ℕ, ◌≤◌}
use native.Mathlib.Omega.{arith}
use borrow.Author.Tests.{leb-true, ltb-true, le-leb}
use lib.Dec.{leb, ltb}
use Rattle.rules.specs.Class.{Span, Class, ◌upto◌, has, In, just}
use Rattle.rules.proofs.Bools.{and_left, and_right, and_both, or_cases, or_left, or_right}

unfoldable pub apart_span : Span → Class → Bool
apart_span s [] = true
apart_span s (t ∷ c) = (ltb s.high t.low || ltb t.high s.low) && apart_span s c

unfoldable pub apart : Class → Class → Bool
apart [] d = true
apart (s ∷ c) d = apart_span s d && apart c d

low≤ : (s : Span) (b : ℕ) → (leb s.low b && leb b s.high) ≡ true → s.low ≤ b
low≤ s b e = leb-true _ _ (and_left (leb s.low b) _ e)

≤high : (s : Span) (b : ℕ) → (leb s.low b && leb b s.high) ≡ true → b ≤ s.high
≤high s b e = leb-true _ _ (and_right (leb s.low b) _ e)

apart_span_lem : (s : Span) (d : Class) (b : ℕ) → apart_span s d ≡ true → s.low ≤ b → b ≤ s.high → In d b → ⊥
unfolding apart_span has
apart_span_lem s [] b a l h i = false≢true i
apart_span_lem s (t ∷ d) b a l h i =
    ⊎_elim
    (λ e.
    ⊎_elim (λ x. omega (arith, ltb-true s.high t.low x, low≤ t b e)) (λ x. omega (arith, ltb-true t.high s.low x, ≤high t b e))
    (or_cases (ltb s.high t.low) _ (and_left (ltb s.high t.low || ltb t.high s.low) _ a)))
    (λ e. apart_span_lem s d b (and_right (ltb s.high t.low || ltb t.high s.low) _ a) l h e)
    (or_cases (leb t.low b && leb b t.high) _ i)

pub apart_no : (c d : Class) (b : ℕ) → apart c d ≡ true → In c b → In d b → ⊥
unfolding apart has
apart_no [] d b a i j = false≢true i
apart_no (s ∷ c) d b a i j =
    ⊎_elim (λ e. apart_span_lem s d b (and_left (apart_span s d) _ a) (low≤ s b e) (≤high s b e) j)
    (λ e. apart_no c d b (and_right (apart_span s d) _ a) e j)
    (or_cases (leb s.low b && leb b s.high) _ i)

-- the class of one byte has that byte
pub in_just : (b : ℕ) → In (just b) b
unfolding has
in_just b = or_left _ _ (and_both (leb b b) (leb b b) (le-leb b b (omega arith)) (le-leb b b (omega arith)))

pub is_just : (a b : ℕ) → b ≡ a → In (just a) b
is_just a b e = subst (In (just a)) (sym e) (in_just a)

-- and no other
pub just_is : (a b : ℕ) → In (just a) b → b ≡ a
unfolding has
just_is a b i =
    ⊎_elim (λ e. omega (arith, leb-true a b (and_left (leb a b) (leb b a) e), leb-true b a (and_right (leb a b) (leb b a) e)))
    (λ e. absurd (false≢true e))
    (or_cases (leb a b && leb b a) false i)

-- ---- inclusion, each span in one of the other class's

unfoldable pub in_some : Span → Class → Bool
in_some s [] = false
in_some s (t ∷ d) = leb t.low s.low && leb s.high t.high || in_some s d

unfoldable pub includes : Class → Class → Bool
includes [] d = true
includes (s ∷ c) d = in_some s d && includes c d

in_some_lem : (s : Span) (d : Class) (b : ℕ) → in_some s d ≡ true → s.low ≤ b → b ≤ s.high → In d b
unfolding in_some has
in_some_lem s [] b e l h = absurd (false≢true e)
in_some_lem s (t ∷ d) b e l h =
    ⊎_elim
    (λ x.
    or_left (leb t.low b && leb b t.high) (has d b)
    (and_both (leb t.low b) (leb b t.high)
    (le-leb t.low b (omega (arith, leb-true t.low s.low (and_left (leb t.low s.low) (leb s.high t.high) x))))
    (le-leb b t.high (omega (arith, leb-true s.high t.high (and_right (leb t.low s.low) (leb s.high t.high) x))))))
    (λ x. or_right (leb t.low b && leb b t.high) (has d b) (in_some_lem s d b x l h))
    (or_cases (leb t.low s.low && leb s.high t.high) (in_some s d) e)

pub includes_in : (c d : Class) (b : ℕ) → includes c d ≡ true → In c b → In d b
unfolding includes has
includes_in [] d b e i = absurd (false≢true i)
includes_in (s ∷ c) d b e i =
    ⊎_elim (λ x. in_some_lem s d b (and_left (in_some s d) _ e) (low≤ s b x) (≤high s b x))
    (λ x. includes_in c d b (and_right (in_some s d) _ e) x)
    (or_cases (leb s.low b && leb b s.high) (has c b) i)

-- ---- the spans one by one

pub in_cons : (s : Span) (c : Class) (b : ℕ) → In (s ∷ c) b → In (s ∷ []) b ⊎ In c b
unfolding has
in_cons s c b i =
    ⊎_elim (λ x. inl (or_left (leb s.low b && leb b s.high) false x)) (λ x. inr x)
    (or_cases (leb s.low b && leb b s.high) (has c b) i)

-- ---- a byte by the bounds of its span

-- the first span of a class has the byte
pub in_first_lem : (low high : ℕ) (c : Class) (b : ℕ) → low ≤ b → b ≤ high → In (low upto high ∷ c) b
unfolding has
in_first_lem low high c b l h = or_left (leb low b && leb b high) (has c b) (and_both (leb low b) (leb b high) (le-leb low b l) (le-leb b high h))

-- or a later one
pub in_later : (low high : ℕ) (c : Class) (b : ℕ) → In c b → In (low upto high ∷ c) b
unfolding has
in_later low high c b i = or_right (leb low b && leb b high) (has c b) i

between : (low high b : ℕ) → In (low upto high ∷ []) b → (leb low b && leb b high) ≡ true
unfolding has
between low high b i = ⊎_elim (λ e. e) (λ e. absurd (false≢true e)) (or_cases (leb low b && leb b high) false i)

pub low_in : (low high b : ℕ) → In (low upto high ∷ []) b → low ≤ b
low_in low high b i = leb-true low b (and_left (leb low b) (leb b high) (between low high b i))

pub in_high : (low high b : ℕ) → In (low upto high ∷ []) b → b ≤ high
in_high low high b i = leb-true b high (and_right (leb low b) (leb b high) (between low high b i))
