-- Texts that are alike but for dividing space, by places: the places that stand for each other, piece by piece. Assumes nothing.
use mathlib.Core.Path.{◌≡◌, refl, sym, subst, ap, ◌∙◌}
use mathlib.Core.Bool.{Bool, true, false, cond}
use mathlib.Core.List.{List, [], ◌∷◌, ◌++◌}
use Prim.Native.Nat.{ℕ, ◌+◌, ◌≤◌, ◌<◌}
use native.Mathlib.Nat.{le_antisymm}
use native.Mathlib.Omega.{arith}
use borrow.Author.Tests.{leb-true, le-leb}
use lib.Dec.{leb}
use lib.ListN.{length, get_or, drop, length-drop, length-append}
use Rattle.rules.specs.Class.{In}
use Rattle.rules.specs.Rule.{Takes, byte, both, At, Longest, Fails}
use Rattle.rules.specs.Plain.{between}
use Rattle.rules.proofs.Matches.{longest_same, forward}
use Rattle.rules.proofs.Plain.{placed, byte_is, byte_stands}
use Rattle.rules.proofs.Chains.{snoc, reaches}
use Rattle.rules.proofs.Ways.{never_takes, end_takes, grows}
use Rattle.lexicon.specs.Space.{blank, sp}
use Rattle.lexicon.proofs.Spaces.{blank_single, blank_forward}
use Rattle.form.proofs.Amid.{behind, all_between}
use Rattle.layout.specs.Relaid.{quote, quotes, ordinary, Alike, ends, same_byte, same_quotes, stretch}
use Rattle.layout.proofs.Cut.{sp_many, ordinary_sp, ordinary_quotes, quote_sp, quotes_single, fails_there}
use Rattle.layout.proofs.Back.{no_blank}

-- ---- stretches

-- a stretch has its full length just where no blank begins behind it
pub sp_full : {text : List ℕ} {i j : ℕ} → Longest text sp i j → Fails text blank j
sp_full {text} {i} {j} s = record { none = λ b. go s.takes b }
  where
    go : {k : ℕ} → Takes text sp i j → Takes text blank j k → ⊥
    go (both t u) b = omega (arith, s.most (both t (snoc u b)), blank_forward b)

pub full_sp : {text : List ℕ} {i j : ℕ} → Takes text sp i j → Fails text blank j → Longest text sp i j
full_sp t f = record { takes = t; most = λ u. forward (reaches blank_single (sp_many t) f (sp_many u)) }

-- ---- pieces and rows of them

module _ (text other : List ℕ) where
  -- one piece, from i to j in the text and from k to l in the other
  pub data Step : ℕ → ℕ → ℕ → ℕ → Type 0 where
    same : {i k : ℕ} → At text ordinary i → k < length other → get_or text i 0 ≡ get_or other k 0 → Step i k (i + 1) (k + 1)
    quoted : {i j k l : ℕ} → Takes text quotes i j → Takes other quotes k l → between text i j ≡ between other k l → Step i k j l
    gap : {i j k l : ℕ} → Longest text sp i j → Longest other sp k l → Step i k j l

  pub data Path : ℕ → ℕ → ℕ → ℕ → Type 0 where
    here : {i k j l : ℕ} → i ≡ j → k ≡ l → Path i k j l
    step : {i k m n j l : ℕ} → Step i k m n → Path m n j l → Path i k j l

  -- up to both ends
  abbrev pub Ahead : ℕ → ℕ → Type 0
  Ahead i k = Path i k (length text) (length other)

-- ---- from the definition

-- bytes that stand from a place on end within the text
within : (text a y : List ℕ) (i : ℕ) → i ≤ length text → drop i text ≡ a ++ y → i + length a ≤ length text
within text a y i h e = omega (arith, h, length-drop i text, ap length e, length-append a y)

-- no blank begins where none begins in what stands there
fails_at : (text : List ℕ) (i : ℕ) {s : List ℕ} → i ≤ length text → drop i text ≡ s → Fails s blank 0 → Fails text blank i
fails_at text i h e f = fails_there text i h (subst (λ (l : List ℕ). Fails l blank 0) (sym e) f)

at_end_lem : (text : List ℕ) (i : ℕ) → i ≤ length text → drop i text ≡ [] → i ≡ length text
at_end_lem text i h e = omega (arith, h, length-drop i text, ap length e)

module _ (text other : List ℕ) where
  pub path : {s t : List ℕ} → Alike s t → (i k : ℕ) → i ≤ length text → k ≤ length other → drop i text ≡ s → drop k other ≡ t → Ahead text other i k
  path ends i k h g e f = here (at_end_lem text i h e) (at_end_lem other k g f)
  path (same_byte {b = b} {s = s} {t = t} x a) i k h g e f =
      let u = byte_stands text ordinary i x e in
      let v = byte_stands other ordinary k x f in
      step (same u v.0 (byte_is text i e ∙ sym (byte_is other k f)))
      (path a (i + 1) (k + 1) (omega (arith, u.0)) (omega (arith, v.0)) (behind text (b ∷ []) s i e) (behind other (b ∷ []) t k f))
  path (same_quotes {q = q} {s = s} {t = t} m a) i k h g e f =
      step (quoted (placed text m i s e) (placed other m k t f) (all_between text q s i e ∙ sym (all_between other q t k f)))
      (path a (i + length q) (k + length q) (within text q s i h e) (within other q t k g f) (behind text q s i e) (behind other q t k f))
  path (stretch {a = x} {b = y} {s = s} {t = t} m f n a) i k h g e o =
      let p = within text x s i h e in
      let q = within other y t k g o in
      step (gap (full_sp (placed text m i s e) (fails_at text (i + length x) p (behind text x s i e) f))
      (full_sp (placed other n k t o) (fails_at other (k + length y) q (behind other y t k o) (no_blank a f))))
      (path a (i + length x) (k + length y) p q (behind text x s i e) (behind other y t k o))

-- ---- rows of pieces are fixed

first_or_later : (p i k n : ℕ) → (p ≤ i → k ≡ n) → cond (leb p i) k n ≡ n
first_or_later p i k n f = go (leb p i) refl
  where
    go : (b : Bool) → leb p i ≡ b → cond b k n ≡ n
    go true e = f (leb-true p i e)
    go false e = refl

module _ {text other : List ℕ} where
  -- from one text to the other and back
  turned_step : {i k j l : ℕ} → Step text other i k j l → Step other text k i l j
  turned_step (same a b e) = same (b, subst (In ordinary) e a.1) a.0 (sym e)
  turned_step (quoted t u e) = quoted u t (sym e)
  turned_step (gap t u) = gap u t

  pub turned : {i k j l : ℕ} → Path text other i k j l → Path other text k i l j
  turned (here e f) = here f e
  turned (step x r) = step (turned_step x) (turned r)

  -- the same way from places that are given in another way, and two ways one behind the other
  path_from : {i k j l m n : ℕ} → (i ≡ j) × (k ≡ l) → Path text other j l m n → Path text other i k m n
  path_from {k = k} {j = j} {m = m} {n = n} e q = subst (λ (x : ℕ). Path text other x k m n) (sym e.0) (subst (λ (x : ℕ). Path text other j x m n) (sym e.1) q)

  pub joined_path : {i k m n j l : ℕ} → Path text other i k m n → Path text other m n j l → Path text other i k j l
  joined_path (here e f) q = path_from (e, f) q
  joined_path (step x p) q = step x (joined_path p q)

  -- one piece begins at a place
  one_step : {i k j l m n : ℕ} → Step text other i k j l → Step text other i k m n → (j ≡ m) × (l ≡ n)
  one_step (same a b e) (same c d f) = (refl, refl)
  one_step (same a b e) (quoted t u f) = absurd (never_takes text ordinary quotes ordinary_quotes a t)
  one_step (same a b e) (gap t u) = absurd (never_takes text ordinary sp ordinary_sp a t.takes)
  one_step (quoted t u f) (same a b e) = absurd (never_takes text ordinary quotes ordinary_quotes a t)
  one_step (quoted t u e) (quoted v w f) = ((quotes_single text).same t v, (quotes_single other).same u w)
  one_step (quoted (both (byte x y) z) u f) (gap t v) = absurd (never_takes text quote sp quote_sp x t.takes)
  one_step (gap t u) (same a b e) = absurd (never_takes text ordinary sp ordinary_sp a t.takes)
  one_step (gap t v) (quoted (both (byte x y) z) u f) = absurd (never_takes text quote sp quote_sp x t.takes)
  one_step (gap t u) (gap v w) = (longest_same t v, longest_same u w)

  -- and takes a byte at least of each text
  pub step_grows : {i k j l : ℕ} → Step text other i k j l → (i < j) × (k < l)
  step_grows (same a b e) = (omega arith, omega arith)
  step_grows (quoted t u e) = (grows quotes refl t, grows quotes refl u)
  step_grows (gap t u) = (grows sp refl t.takes, grows sp refl u.takes)

  -- none begins at the end
  no_step : {i k j l : ℕ} → length text ≤ i → Step text other i k j l → ⊥
  no_step h (same a b e) = omega (arith, h, a.0)
  no_step h (quoted t u e) = end_takes text quotes refl h t
  no_step h (gap t u) = end_takes text sp refl h t.takes

  pub path_forward : {i k j l : ℕ} → Path text other i k j l → (i ≤ j) × (k ≤ l)
  path_forward (here e f) = (omega arith, omega arith)
  path_forward (step x r) = let a = step_grows x in let b = path_forward r in (omega (arith, a.0, b.0), omega (arith, a.1, b.1))

  -- no further in the one text is no further in the other
  pub monotone : {i k j l m n : ℕ} → Path text other i k j l → Path text other i k m n → m ≤ j → n ≤ l
  monotone (here e f) (here g h) p = omega arith
  monotone (here e f) (step x r) p = let a = step_grows x in let b = path_forward r in absurd (omega (arith, a.0, b.0))
  monotone (step x r) (here g h) p = let a = path_forward (step x r) in omega (arith, a.1)
  monotone (step x r) (step y q) p = monotone r (path_from (one_step x y) q) p

  pub one_place : {i k j l m : ℕ} → Path text other i k j l → Path text other i k j m → l ≡ m
  one_place p q = le_antisymm (monotone q p (omega arith)) (monotone p q (omega arith))

  -- the rest of a way, behind a place on it
  pub rest_path : {i k m n j l : ℕ} → Path text other i k m n → Path text other i k j l → m ≤ j → Path text other m n j l
  rest_path (here e f) q h = path_from (sym e, sym f) q
  rest_path (step x p) (here e f) h = absurd (omega (arith, e, h, (step_grows x).0, (path_forward p).0))
  rest_path (step x p) (step y q) h = rest_path p (path_from (one_step x y) q) h

  -- the end stands for the end
  pub ends_there : {i k : ℕ} → length text ≤ i → Ahead text other i k → k ≡ length other
  ends_there h (here e f) = f
  ends_there h (step x r) = absurd (no_step h x)

  -- ---- the place in the other text that stands for a place of this one

  unfoldable pub place_of : {i k j l : ℕ} → Path text other i k j l → ℕ → ℕ
  place_of (here {k = k} e f) p = k
  place_of (step {i = i} {k = k} x r) p = cond (leb p i) k (place_of r p)

  pub place_is : {i k p q : ℕ} (w : Ahead text other i k) → Path text other i k p q → place_of w p ≡ q
  unfolding place_of
  place_is (here e f) (here g h) = h
  place_is (here e f) (step x r) = absurd (no_step (omega (arith, e)) x)
  place_is {p = p} {q = q} (step {i = i} {k = k} x r) (here g h) = subst (λ (b : Bool). cond b k (place_of r p) ≡ q) (sym (le-leb p i (omega (arith, g)))) h
  place_is {p = p} {q = q} (step {i = i} {k = k} x r) (step y s) =
      let e = place_is r (path_from (one_step x y) s) in
      let a = step_grows y in let b = path_forward s in
      ap (λ (n : ℕ). cond (leb p i) k n) e ∙ first_or_later p i k q (λ h. absurd (omega (arith, h, a.0, b.0)))
