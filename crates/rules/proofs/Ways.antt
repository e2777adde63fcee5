-- The first byte of a match, computed: the ways into a rule, each a class and what is then left of the rule.
-- Three tests are computed on them: that a rule never begins with a byte of a class, that no match of one rule reaches
-- further than a match of another, and that no text is a match of both. Assumes nothing.
use mathlib.Core.Path.{◌≡◌, refl, subst, sym}
use mathlib.Core.Logic.{◌⊎◌, inl, inr, ⊎_elim}
use mathlib.Core.Bool.{Bool, true, false, not, ◌&&◌, ◌||◌, cond, false≢true}
use mathlib.Core.List.{List, [], ◌∷◌, ◌++◌}
use Prim.Native.Nat.{ℕ, zero, suc, ◌+◌, ◌≤◌, ◌<◌}
use native.Mathlib.Decide.{dec_le}
use native.Mathlib.Omega.{arith}
use lib.ListN.{length}
use Rattle.rules.specs.Class.{Class}
use Rattle.rules.specs.Rule.{Rule, empty, one, ◌then◌, ◌or◌, many, Takes, nothing, byte, both, left, right, stop, more, At, Fails}
use Rattle.rules.proofs.Bools.{and_left, and_right, and_both, or_cases, or_left, or_right, clash, not_both}
use Rattle.rules.proofs.Classes.{apart, apart_no, includes, includes_in}
use Rattle.rules.proofs.Matches.{forward}
use Rattle.rules.proofs.Chains.{Single}

pub record Way : Type 0 where
  pub class : Class
  pub rest : Rule

-- the rule takes no byte at all
abbrev pub nullable : Rule → Bool
nullable empty = true
nullable (one c) = false
nullable (a then b) = nullable a && nullable b
nullable (a or b) = nullable a || nullable b
nullable (many r) = true

abbrev follow : Rule → List Way → List Way
follow b [] = []
follow b (w ∷ ws) = record { class = w.class; rest = w.rest then b } ∷ follow b ws

abbrev pub ways : Rule → List Way
ways empty = []
ways (one c) = record { class = c; rest = empty } ∷ []
ways (a then b) = follow b (ways a) ++ cond (nullable a) (ways b) []
ways (a or b) = ways a ++ ways b
ways (many r) = follow (many r) (ways r)

module _ (text : List ℕ) where
  abbrev pub Through : List Way → ℕ → ℕ → Type 0
  Through [] i j = ⊥
  Through (w ∷ ws) i j = (At text w.class i × Takes text w.rest (i + 1) j) ⊎ Through ws i j

  first : (ws vs : List Way) (i j : ℕ) → Through ws i j → Through (ws ++ vs) i j
  first [] vs i j t = absurd t
  first (w ∷ ws) vs i j (inl t) = inl t
  first (w ∷ ws) vs i j (inr t) = inr (first ws vs i j t)

  second : (ws vs : List Way) (i j : ℕ) → Through vs i j → Through (ws ++ vs) i j
  second [] vs i j t = t
  second (w ∷ ws) vs i j t = inr (second ws vs i j t)

  followed : {b : Rule} (ws : List Way) (i : ℕ) {m j : ℕ} → Through ws i m → Takes text b m j → Through (follow b ws) i j
  followed [] i t u = absurd t
  followed (w ∷ ws) i (inl t) u = inl (t.0, both t.1 u)
  followed (w ∷ ws) i (inr t) u = inr (followed ws i t u)

  -- a match takes nothing, or its first byte by one of the ways
  abbrev pub Entered : Rule → ℕ → ℕ → Type 0
  Entered r i j = ((i ≡ j) × (nullable r ≡ true)) ⊎ Through (ways r) i j

  then_enter : (a b : Rule) (i m j : ℕ) → Entered a i m → Entered b m j → Takes text b m j → Entered (a then b) i j
  then_enter a b i m j (inr t) y u = inr (first (follow b (ways a)) _ i j (followed (ways a) i t u))
  then_enter a b i m j (inl x) (inl y) u = inl (omega arith, and_both (nullable a) (nullable b) x.1 y.1)
  then_enter a b i m j (inl x) (inr t) u =
      inr (second (follow b (ways a)) _ i j
      (subst (λ (v : Bool). Through (cond v (ways b) []) i j) (sym x.1) (subst (λ (n : ℕ). Through (ways b) n j) (sym x.0) t)))

  or_first : (a b : Rule) (i j : ℕ) → Entered a i j → Entered (a or b) i j
  or_first a b i j (inl x) = inl (x.0, or_left (nullable a) (nullable b) x.1)
  or_first a b i j (inr t) = inr (first (ways a) (ways b) i j t)

  or_second : (a b : Rule) (i j : ℕ) → Entered b i j → Entered (a or b) i j
  or_second a b i j (inl x) = inl (x.0, or_right (nullable a) (nullable b) x.1)
  or_second a b i j (inr t) = inr (second (ways a) (ways b) i j t)

  many_enter : (r : Rule) (i m j : ℕ) → Entered r i m → Entered (many r) m j → Takes text (many r) m j → Entered (many r) i j
  many_enter r i m j (inr t) y u = inr (followed (ways r) i t u)
  many_enter r i m j (inl x) y u = subst (λ (n : ℕ). Entered (many r) n j) (sym x.0) y

  pub enter : {r : Rule} {i j : ℕ} → Takes text r i j → Entered r i j
  enter (nothing e) = inl (e, refl)
  enter (byte a e) = inr (inl (a, nothing (sym e)))
  enter (both {a} {b} {i} {m} {j} t u) = then_enter a b i m j (enter t) (enter u) u
  enter (left {a} {b} {i} {j} t) = or_first a b i j (enter t)
  enter (right {a} {b} {i} {j} t) = or_second a b i j (enter t)
  enter (stop e) = inl (e, refl)
  enter (more {r} {i} {m} {j} t u) = many_enter r i m j (enter t) (enter u) u

-- ---- the rule never begins with a byte of the class

abbrev none_in : Class → List Way → Bool
none_in d [] = true
none_in d (w ∷ ws) = apart d w.class && none_in d ws

unfoldable pub never : Class → Rule → Bool
never d r = not (nullable r) && none_in d (ways r)

-- ---- a match of r reaches at least as far as any match of s: the bytes that both can begin with are followed for n bytes

abbrev pairs : (Rule → Rule → Bool) → Way → List Way → Bool
pairs f w [] = true
pairs f w (v ∷ vs) = elim (apart w.class v.class) [ true ↦ true | false ↦ f w.rest v.rest ] && pairs f w vs

abbrev all_pairs : (Rule → Rule → Bool) → List Way → List Way → Bool
all_pairs f [] vs = true
all_pairs f (w ∷ ws) vs = pairs f w vs && all_pairs f ws vs

abbrev none : List Way → Bool
none [] = true
none (w ∷ ws) = false

unfoldable pub covers : ℕ → Rule → Rule → Bool
covers zero r s = false
covers (suc n) r s = (not (nullable r) || none (ways s)) && all_pairs (covers n) (ways r) (ways s)

-- ---- no text is a match of both rules

unfoldable pub differ : ℕ → Rule → Rule → Bool
differ zero r s = false
differ (suc n) r s = not (nullable r && nullable s) && all_pairs (differ n) (ways r) (ways s)

module _ (text : List ℕ) where
  none_in_lem : (d : Class) (ws : List Way) (i j : ℕ) → none_in d ws ≡ true → At text d i → Through text ws i j → ⊥
  none_in_lem d [] i j e a t = t
  none_in_lem d (w ∷ ws) i j e a (inl t) = apart_no d w.class _ (and_left (apart d w.class) _ e) a.1 t.0.1
  none_in_lem d (w ∷ ws) i j e a (inr t) = none_in_lem d ws i j (and_right (apart d w.class) _ e) a t

  pub never_takes : (d : Class) (r : Rule) {i j : ℕ} → never d r ≡ true → At text d i → Takes text r i j → ⊥
  unfolding never
  never_takes d r {i} {j} e a t = go (enter text t)
    where
      go : Entered text r i j → ⊥
      go (inl x) = not_both (nullable r) x.1 (and_left (not (nullable r)) _ e)
      go (inr t) = none_in_lem d (ways r) i j (and_right (not (nullable r)) _ e) a t

  -- no match where a byte stands that begins none
  pub begins_none : (d : Class) (r : Rule) {i : ℕ} → never d r ≡ true → At text d i → Fails text r i
  begins_none d r e a = record { none = λ t. never_takes d r e a t }

  -- where no byte stands, only a rule that takes none takes anything
  pub end_takes : (r : Rule) {i j : ℕ} → nullable r ≡ false → length text ≤ i → Takes text r i j → ⊥
  end_takes r {i} {j} e h t = go (ways r) (enter text t)
    where
      thru : (ws : List Way) → Through text ws i j → ⊥
      thru [] t = t
      thru (w ∷ ws) (inl t) = omega (arith, t.0.0)
      thru (w ∷ ws) (inr t) = thru ws t

      go : (ws : List Way) → ((i ≡ j) × (nullable r ≡ true)) ⊎ Through text ws i j → ⊥
      go ws (inl x) = clash x.1 e
      go ws (inr t) = thru ws t

  -- what a test of every pair of ways tells: P, which the test of two rests tells
  module _ (f : Rule → Rule → Bool) (i e j : ℕ) (P : Type 0)
      (h : (r s : Rule) → f r s ≡ true → Takes text r (i + 1) e → Takes text s (i + 1) j → P) where
    pair_tells : (w : Way) (vs : List Way) → pairs f w vs ≡ true → At text w.class i → Takes text w.rest (i + 1) e → Through text vs i j → P
    pair_tells w [] p a t u = absurd u
    pair_tells w (v ∷ vs) p a t (inl u) = go (apart w.class v.class) refl (and_left (elim (apart w.class v.class) [ true ↦ true | false ↦ f w.rest v.rest ]) (pairs f w vs) p)
      where
        go : (b : Bool) → apart w.class v.class ≡ b → elim b [ true ↦ true | false ↦ f w.rest v.rest ] ≡ true → P
        go true q x = absurd (apart_no w.class v.class _ q a.1 u.0.1)
        go false q x = h w.rest v.rest x t u.1
    pair_tells w (v ∷ vs) p a t (inr u) =
        pair_tells w vs (and_right (elim (apart w.class v.class) [ true ↦ true | false ↦ f w.rest v.rest ]) (pairs f w vs) p) a t u

    pairs_tell : (ws vs : List Way) → all_pairs f ws vs ≡ true → Through text ws i e → Through text vs i j → P
    pairs_tell [] vs p t u = absurd t
    pairs_tell (w ∷ ws) vs p (inl t) u = pair_tells w vs (and_left (pairs f w vs) _ p) t.0 t.1 u
    pairs_tell (w ∷ ws) vs p (inr t) u = pairs_tell ws vs (and_right (pairs f w vs) _ p) t u

  none_through : (vs : List Way) (i j : ℕ) → none vs ≡ true → Through text vs i j → ⊥
  none_through [] i j e t = t
  none_through (v ∷ vs) i j e t = false≢true e

  pub covers_all : (n : ℕ) (r s : Rule) {i e j : ℕ} → covers n r s ≡ true → Takes text r i e → Takes text s i j → j ≤ e
  unfolding covers
  covers_all zero r s c t u = absurd (false≢true c)
  covers_all (suc n) r s {i} {e} {j} c t u = go (enter text t) (enter text u) (λ r' s' c' t' u'. covers_all n r' s' c' t' u')
    where
      go : Entered text r i e → Entered text s i j → ((r s : Rule) → covers n r s ≡ true → Takes text r (i + 1) e → Takes text s (i + 1) j → j ≤ e) → j ≤ e
      go x (inl y) h = omega (arith, y.0, forward t)
      go (inr x) (inr y) h = pairs_tell (covers n) i e j (j ≤ e) h (ways r) (ways s) (and_right (not (nullable r) || none (ways s)) _ c) x y
      go (inl x) (inr y) h =
          ⊎_elim (λ q. absurd (not_both (nullable r) x.1 q)) (λ q. absurd (none_through (ways s) i j q y))
          (or_cases (not (nullable r)) (none (ways s)) (and_left (not (nullable r) || none (ways s)) _ c))

  -- a match by one of the ways takes a byte
  through_forward : (ws : List Way) (i j : ℕ) → Through text ws i j → i < j
  through_forward [] i j t = absurd t
  through_forward (w ∷ ws) i j (inl t) = omega (arith, forward t.1)
  through_forward (w ∷ ws) i j (inr t) = through_forward ws i j t

  pub differ_no : (n : ℕ) (r s : Rule) {i j : ℕ} → differ n r s ≡ true → Takes text r i j → Takes text s i j → ⊥
  unfolding differ
  differ_no zero r s d t u = false≢true d
  differ_no (suc n) r s {i} {j} d t u = go (enter text t) (enter text u) (λ r' s' d' t' u'. differ_no n r' s' d' t' u')
    where
      go : Entered text r i j → Entered text s i j → ((r s : Rule) → differ n r s ≡ true → Takes text r (i + 1) j → Takes text s (i + 1) j → ⊥) → ⊥
      go (inl x) (inl y) h = not_both (nullable r && nullable s) (and_both (nullable r) (nullable s) x.1 y.1) (and_left (not (nullable r && nullable s)) _ d)
      go (inl x) (inr y) h = omega (arith, x.0, through_forward (ways s) i j y)
      go (inr x) (inl y) h = omega (arith, y.0, through_forward (ways r) i j x)
      go (inr x) (inr y) h = pairs_tell (differ n) i j j ⊥ h (ways r) (ways s) (and_right (not (nullable r && nullable s)) _ d) x y

-- ---- the first byte of every match is of the class

abbrev all_in : Class → List Way → Bool
all_in c [] = true
all_in c (w ∷ ws) = includes w.class c && all_in c ws

unfoldable pub opens : Class → Rule → Bool
opens c r = not (nullable r) && all_in c (ways r)

module _ (text : List ℕ) where
  all_in_lem : (c : Class) (ws : List Way) (i j : ℕ) → all_in c ws ≡ true → Through text ws i j → At text c i
  all_in_lem c [] i j e t = absurd t
  all_in_lem c (w ∷ ws) i j e (inl t) = (t.0.0, includes_in w.class c _ (and_left (includes w.class c) _ e) t.0.1)
  all_in_lem c (w ∷ ws) i j e (inr t) = all_in_lem c ws i j (and_right (includes w.class c) _ e) t

  pub opens_at : (c : Class) (r : Rule) {i j : ℕ} → opens c r ≡ true → Takes text r i j → At text c i
  unfolding opens
  opens_at c r {i} {j} e t = go (enter text t)
    where
      go : Entered text r i j → At text c i
      go (inl x) = absurd (not_both (nullable r) x.1 (and_left (not (nullable r)) _ e))
      go (inr u) = all_in_lem c (ways r) i j (and_right (not (nullable r)) _ e) u

-- a match of a rule that takes a byte begins within the text
pub begins_within : {text : List ℕ} (r : Rule) → nullable r ≡ false → {i j : ℕ} → Takes text r i j → i < length text
begins_within {text} r n {i} t = go (dec_le (length text) i)
  where
    go : Dec (length text ≤ i) → i < length text
    go (yes h) = absurd (end_takes text r n h t)
    go (no h) = omega (arith, h)

-- where no match reaches further than another, each place has one at most
pub single : {text : List ℕ} (n : ℕ) {r : Rule} → covers n r r ≡ true → Single text r
single {text} n {r} e = record { same = λ t u. omega (arith, covers_all text n r r e t u, covers_all text n r r e u t) }

-- a rule that takes no fewer than one byte goes forward
pub grows : {text : List ℕ} (r : Rule) {i j : ℕ} → nullable r ≡ false → Takes text r i j → i < j
grows {text} r {i} {j} e t = go (enter text t)
  where
    go : Entered text r i j → i < j
    go (inl x) = absurd (clash x.1 e)
    go (inr x) = through_forward text (ways r) i j x
