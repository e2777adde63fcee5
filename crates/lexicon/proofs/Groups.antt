-- Digit groups, once over the digit's class and the unit's width: what `[[d ** n]+]+ % [_ | <sp>]` takes is a row of units with
-- at most one joint between two; the row's digits are fixed by its ends; and a row that is shorter than another goes on with a
-- joint and a unit. Assumes nothing.
use mathlib.Core.Path.{◌≡◌, refl, subst, sym, ap, ◌∙◌}
use mathlib.Core.Bool.{true}
use mathlib.Core.List.{List, ◌++◌, append_assoc}
use Prim.Native.Nat.{ℕ, zero, suc, ◌+◌, ◌*◌, ◌≤◌, ◌<◌}
use native.Mathlib.Decide.{dec_le}
use native.Mathlib.Nat.{not-suc-le-zero, le_of_suc-le-suc, le_antisymm, add-zero, mul-one, mul-suc}
use native.Mathlib.Omega.{arith}
use lib.ListN.{length, length-append}
use Rattle.rules.specs.Class.{Class, In, any_of}
use Rattle.rules.specs.Rule.{Rule, one, ◌then◌, many, plus, opt, At, Takes, nothing, byte, both, left, right, stop, more, Longest, Fails}
use Rattle.rules.specs.Every.{Every, none, also}
use Rattle.rules.proofs.Every.{every_append}
use Rattle.rules.proofs.Classes.{apart, apart_span}
use Rattle.rules.proofs.Matches.{forward, starting, ending}
use Rattle.rules.proofs.Chains.{Single, join, many_of_times}
use Rattle.rules.proofs.Ways.{never, never_takes}
use Rattle.lexicon.specs.Space.{blank, sp}
use Rattle.lexicon.specs.Literals.{joint, unit, groups}
use Rattle.lexicon.specs.Values.{Digits, last_unit, next_unit, read}
use Rattle.lexicon.specs.Parts.{Further, Ended}
use Rattle.lexicon.proofs.Spaces.{skips_same, landed}

-- no byte of the class begins a joint
pub record Clear (c : Class) : Type 0 where
  pub no_joint : never c joint ≡ true
  pub no_blank : never c blank ≡ true

pub underscore_space : never (any_of "_") sp ≡ true
unfolding never apart apart_span
underscore_space = refl

pub underscore_blank : never (any_of "_") blank ≡ true
unfolding never apart apart_span
underscore_blank = refl

module _ {text : List ℕ} where
  pub unit_end : (n : ℕ) (c : Class) {i j : ℕ} → Takes text (unit n c) i j → j ≡ i + n
  unit_end zero c (nothing e) = omega arith
  unit_end (suc n) c (both (byte a e) u) = let x = unit_end n c u in omega arith

  pub unit_single : (n : ℕ) (c : Class) → Single text (unit n c)
  unit_single n c = record { same = λ u v. unit_end n c u ∙ sym (unit_end n c v) }

  -- it does not come next where it does not come up to there
  pub unit_missed : (n : ℕ) (c : Class) {i : ℕ} → (Takes text (unit n c) i (i + n) → ⊥) → Fails text (unit n c) i
  unit_missed n c f = record { none = λ u. f (ending (unit_end n c u) u) }

  -- where each match of a rule is a row of another's, a row of them is one too
  rows_joined : {r s : Rule} → ((i j : ℕ) → Takes text r i j → Takes text (many s) i j) → {i j : ℕ} → Takes text (many r) i j → Takes text (many s) i j
  rows_joined f (stop e) = stop e
  rows_joined f (more u us) = join (f _ _ u) (rows_joined f us)

  -- a row of units is one of their bytes
  pub units_run : (n : ℕ) {c : Class} {i j : ℕ} → Takes text (many (unit n c)) i j → Takes text (many (one c)) i j
  units_run n = rows_joined (λ i j u. many_of_times n u)

  pub unit_at : (n : ℕ) {c : Class} {i j : ℕ} → Takes text (unit (suc n) c) i j → At text c i
  unit_at n (both (byte a e) u) = a

  -- a unit is read byte by byte
  pub unit_byte : (n : ℕ) (c : Class) (i : ℕ) {j : ℕ} → Takes text (unit n c) i j → (k : ℕ) → k < n → At text c (i + k)
  unit_byte zero c i u k h = absurd (not-suc-le-zero h)
  unit_byte (suc n) c i (both (byte a e) u) zero h = subst (λ (k : ℕ). At text c k) (sym (add-zero i)) a
  unit_byte (suc n) c i (both (byte a e) u) (suc k) h =
      subst (λ (x : ℕ). At text c x) (omega arith) (unit_byte n c (i + 1) (starting e u) k (le_of_suc-le-suc h))

  -- and ends within the text
  pub unit_inside : (n : ℕ) (c : Class) {i j : ℕ} → Takes text (unit (suc n) c) i j → j ≤ length text
  unit_inside n c {i} u = omega (arith, unit_end (suc n) c u, (unit_byte (suc n) c i u n (omega arith)).0)

  -- so many bytes of the class are one
  pub byte_unit : (n : ℕ) (c : Class) (i : ℕ) {j : ℕ} → j ≡ i + n → ((k : ℕ) → k < n → At text c (i + k)) → Takes text (unit n c) i j
  byte_unit zero c i e a = nothing (sym (e ∙ add-zero i))
  byte_unit (suc n) c i {j} e a =
      both (byte (subst (λ (x : ℕ). At text c x) (add-zero i) (a 0 (omega arith))) refl)
      (byte_unit n c (i + 1) {j = j} (omega (arith, e)) (λ k h. subst (λ (x : ℕ). At text c x) (omega arith) (a (suc k) (omega (arith, h)))))

  -- two joints from one place, each followed by a digit, end in one place
  joint_same : {c : Class} → Clear c → {m k l : ℕ} → Takes text (opt joint) m k → At text c k → Takes text (opt joint) m l → At text c l → k ≡ l
  joint_same cl (right (nothing e)) a (right (nothing f)) b = sym e ∙ f
  joint_same {c} cl (right (nothing e)) a (left t) b = absurd (never_takes text c joint cl.no_joint a (starting e t))
  joint_same {c} cl (left t) a (right (nothing f)) b = absurd (never_takes text c joint cl.no_joint b (starting f t))
  joint_same cl (left (left (byte x e))) a (left (left (byte y f))) b = e ∙ sym f
  joint_same cl (left (left (byte x e))) a (left (right t)) b = absurd (never_takes text (any_of "_") sp underscore_space x t)
  joint_same cl (left (right t)) a (left (left (byte x e))) b = absurd (never_takes text (any_of "_") sp underscore_space x t)
  joint_same {c} cl (left (right t)) a (left (right u)) b =
      skips_same (landed c cl.no_blank (left t) a) (landed c cl.no_blank (left u) b)

  -- and the longest one there
  pub joint_end : (c : Class) {i k m : ℕ} → Clear c → Takes text (opt joint) i k → At text c k → Longest text (opt joint) i m → k ≡ m
  joint_end c {i} {k} {m} cl t a l = go t l.takes (l.most t)
    where
      go : Takes text (opt joint) i k → Takes text (opt joint) i m → k ≤ m → k ≡ m
      go (right (nothing e)) (right (nothing f)) h = sym e ∙ f
      go (right (nothing e)) (left u) h = absurd (never_takes text c joint cl.no_joint a (starting e u))
      go (left (left (byte x e))) (right (nothing f)) h = absurd (omega arith)
      go (left (left (byte x e))) (left (left (byte y f))) h = e ∙ sym f
      go (left (left (byte x e))) (left (right u)) h = absurd (never_takes text (any_of "_") sp underscore_space x u)
      go (left (right u)) (right (nothing f)) h = le_antisymm h (omega (arith, forward u))
      go (left (right u)) (left (left (byte x e))) h = absurd (never_takes text (any_of "_") sp underscore_space x u)
      go (left (right u)) (left (right v)) h = le_antisymm h ((landed c cl.no_blank (left u) a).most (left v))

-- ---- rows of units

module _ {text : List ℕ} {n : ℕ} {c : Class} where
  pub snoc_digits : {i j m e : ℕ} {ds : List ℕ} → Digits text n c i j ds → Takes text (opt joint) j m → Takes text (unit n c) m e → Digits text n c i e (ds ++ read text m n)
  snoc_digits (last_unit u) t v = next_unit u t (last_unit v)
  snoc_digits {m = m} (next_unit {i = i} {ds = ds} u s d) t v =
      rw append_assoc (next_unit u s (snoc_digits d t v))

  -- a row begins with a unit
  pub digits_unit : {i j : ℕ} {ds : List ℕ} → Digits text n c i j ds → (e : ℕ) × Takes text (unit n c) i e
  digits_unit (last_unit u) = (_, u)
  digits_unit (next_unit u s d) = (_, u)

  pub digits_forward : {i j : ℕ} {ds : List ℕ} → Digits text n c i j ds → i + n ≤ j
  digits_forward (last_unit u) = omega (arith, unit_end n c u)
  digits_forward (next_unit u s d) = let x = unit_end n c u in let y = forward s in let z = digits_forward d in omega arith

-- ---- the bytes of a row

pub read_length : (text : List ℕ) (i n : ℕ) → length (read text i n) ≡ n
read_length text i zero = refl
read_length text i (suc n) = omega (arith, read_length text (i + 1) n)

module _ {text : List ℕ} where
  unit_in : (n : ℕ) (c : Class) {i j : ℕ} → Takes text (unit n c) i j → Every (In c) (read text i n)
  unit_in zero c u = none
  unit_in (suc n) c (both (byte a e) u) = also a.1 (unit_in n c (starting e u))

module _ {text : List ℕ} (n : ℕ) {c : Class} where
  -- all are digits
  pub digits_in : {i j : ℕ} {ds : List ℕ} → Digits text n c i j ds → Every (In c) ds
  digits_in (last_unit u) = unit_in n c u
  digits_in (next_unit u s d) = every_append (unit_in n c u) (digits_in d)

  -- they are whole units
  pub digits_whole : {i j : ℕ} {ds : List ℕ} → Digits text n c i j ds → (k : ℕ) × (length ds ≡ n * k)
  digits_whole (last_unit {i = i} u) = (1, read_length text i n ∙ sym (mul-one n))
  digits_whole (next_unit {i = i} {ds = ds} u s d) =
      let r = digits_whole d in
      (suc r.0, omega (arith, length-append (read text i n) ds, read_length text i n, r.1, mul-suc n r.0))

  -- and no more than the bytes where they stand
  pub digits_short : {i j : ℕ} {ds : List ℕ} → Digits text n c i j ds → i + length ds ≤ j
  digits_short (last_unit {i = i} u) = omega (arith, read_length text i n, unit_end n c u)
  digits_short (next_unit {i = i} {ds = ds} u s d) =
      omega (arith, length-append (read text i n) ds, read_length text i n, unit_end n c u, forward s, digits_short d)

-- for units of at least one byte, of digits that begin no joint
module _ (text : List ℕ) (n : ℕ) (c : Class) (cl : Clear c) where
  abbrev pub Row : ℕ → ℕ → List ℕ → Type 0
  Row i j ds = Digits text (suc n) c i j ds

  pub digits_at : {i j : ℕ} {ds : List ℕ} → Row i j ds → At text c i
  digits_at (last_unit u) = unit_at n u
  digits_at (next_unit u s d) = unit_at n u

  units_same : {i j k : ℕ} → Takes text (unit (suc n) c) i j → Takes text (unit (suc n) c) i k → j ≡ k
  units_same u v = unit_end (suc n) c u ∙ sym (unit_end (suc n) c v)

  row_from : {i j : ℕ} {ds : List ℕ} {k : ℕ} → i ≡ k → Row i j ds → Row k j ds
  row_from {j = j} {ds = ds} e d = subst (λ (x : ℕ). Row x j ds) e d

  -- what follows a unit begins in one place
  next_same : {i m l k o j e : ℕ} {ds es : List ℕ} → Takes text (unit (suc n) c) i m → Takes text (unit (suc n) c) i l → Takes text (opt joint) m k → Row k j ds → Takes text (opt joint) l o → Row o e es → o ≡ k
  next_same u v s d t f = joint_same cl (starting (units_same v u) t) (digits_at f) s (digits_at d)

  -- the digits are fixed by the ends
  pub digits_same : {i j : ℕ} {ds es : List ℕ} → Row i j ds → Row i j es → ds ≡ es
  digits_same (last_unit u) (last_unit v) = refl
  digits_same (last_unit u) (next_unit v s d) =
      let x = units_same u v in let y = forward s in let z = digits_forward d in absurd (omega arith)
  digits_same (next_unit v s d) (last_unit u) =
      let x = units_same u v in let y = forward s in let z = digits_forward d in absurd (omega arith)
  digits_same (next_unit {i = i} u s d) (next_unit v t f) =
      ap (λ (l : List ℕ). read text i (suc n) ++ l) (digits_same d (row_from (next_same u v s d t f) f))

  -- a shorter row goes on
  pub digits_cut : {i j k : ℕ} {ds es : List ℕ} → Row i j ds → Row i k es → j < k → Further text (suc n) c j
  digits_cut (last_unit u) (last_unit v) h = let x = units_same u v in absurd (omega arith)
  digits_cut (last_unit u) (next_unit v s d) h = further d (starting (units_same v u) s)
    where
      further : {j k l : ℕ} {ds : List ℕ} → Row k l ds → Takes text (opt joint) j k → Further text (suc n) c j
      further (last_unit w) s = record { from = _; end = _; joined = s; next = w }
      further (next_unit w t d) s = record { from = _; end = _; joined = s; next = w }
  digits_cut (next_unit v s d) (last_unit u) h =
      let x = units_same u v in let y = forward s in let z = digits_forward d in absurd (omega arith)
  digits_cut (next_unit u s d) (next_unit v t f) h = digits_cut d (row_from (next_same u v s d t f) f) h

  -- so a row that does not go on is the longest
  pub digits_most : {i j k : ℕ} {ds es : List ℕ} → Row i j ds → Ended text (suc n) c j → Row i k es → k ≤ j
  digits_most {j = j} {k = k} d f e = go (dec_le k j)
    where
      go : Dec (k ≤ j) → k ≤ j
      go (yes h) = h
      go (no h) = absurd (f.stops (digits_cut d e (omega (arith, h))))

-- ---- the rule

module _ (text : List ℕ) (n : ℕ) (c : Class) where
  abbrev pub SomeRow : ℕ → ℕ → Type 0
  SomeRow i j = (ds : List ℕ) × Digits text n c i j ds

  pub to_row : {i j : ℕ} → Takes text (groups n c) i j → SomeRow i j
  to_row (both (both u us) rest) = first (later rest) u us
    where
      first : {i m e j : ℕ} → ((x : ℕ) → Takes text (unit n c) x e → SomeRow x j) → Takes text (unit n c) i m → Takes text (many (unit n c)) m e → SomeRow i j
      first {i} f u (stop e) = f i (ending e u)
      first f u (more v us) = let r = first f v us in (_, next_unit u (right (nothing refl)) r.1)

      go : {x e k j : ℕ} → Takes text (unit n c) x e → Takes text joint e k → SomeRow k j → SomeRow x j
      go u t r = (_, next_unit u (left t) r.1)

      later : {e j : ℕ} → Takes text (many (joint then plus (unit n c))) e j → (x : ℕ) → Takes text (unit n c) x e → SomeRow x j
      later (stop e) x u = (_, last_unit (ending e u))
      later (more (both t (both v us)) rest) x u = go u t (first (λ y w. later rest y w) v us)

  pub of_row : {i j : ℕ} {ds : List ℕ} → Digits text n c i j ds → Takes text (groups n c) i j
  of_row (last_unit u) = both (both u (stop refl)) (stop refl)
  of_row (next_unit u s d) = go u s (of_row d)
    where
      go : {i m k j : ℕ} → Takes text (unit n c) i m → Takes text (opt joint) m k → Takes text (groups n c) k j → Takes text (groups n c) i j
      go u (right (nothing e)) (both (both v us) rest) = both (both u (more (starting (sym e) v) us)) rest
      go u (left t) (both (both v us) rest) = both (both u (stop refl)) (more (both t (both v us)) rest)
