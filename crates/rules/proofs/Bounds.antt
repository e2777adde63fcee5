-- Two tests that are computed on a rule: that each of its bytes is of a class, and that the last is. Assumes nothing.
use mathlib.Core.Path.{◌≡◌, refl, sym, ◌∙◌}
use mathlib.Core.Logic.{◌⊎◌, inl, inr}
use mathlib.Core.Bool.{Bool, true, false, not, ◌&&◌, ◌||◌}
use mathlib.Core.List.{List}
use Prim.Native.Nat.{ℕ, ◌+◌, ◌≤◌, ◌<◌}
use native.Mathlib.Decide.{dec_le}
use native.Mathlib.Omega.{arith}
use lib.ListN.{get_or}
use Rattle.rules.specs.Class.{Class}
use Rattle.rules.specs.Rule.{Rule, empty, one, ◌then◌, ◌or◌, many, At, Takes, nothing, byte, both, left, right, stop, more}
use Rattle.rules.proofs.Bools.{and_left, and_right, or_cases, not_both}
use Rattle.rules.proofs.Classes.{includes, includes_in}
use Rattle.rules.proofs.Chains.{join}
use Rattle.rules.proofs.Matches.{forward, move_at}
use Rattle.rules.proofs.Ways.{nullable, grows}

-- ---- every byte is of the class

abbrev pub all_of : Class → Rule → Bool
all_of c empty = true
all_of c (one d) = includes d c
all_of c (r then s) = all_of c r && all_of c s
all_of c (r or s) = all_of c r && all_of c s
all_of c (many r) = all_of c r

module _ {text : List ℕ} (c : Class) where
  pub all_of_lem : {r : Rule} {i j : ℕ} → Takes text r i j → all_of c r ≡ true → Takes text (many (one c)) i j
  all_of_lem (nothing e) h = stop e
  all_of_lem (byte {c = d} {i = i} a e) h = more (byte (a.0, includes_in d c (get_or text i 0) h a.1) e) (stop refl)
  all_of_lem (both {a = r} t u) h = join (all_of_lem t (and_left (all_of c r) _ h)) (all_of_lem u (and_right (all_of c r) _ h))
  all_of_lem (left {a = r} t) h = all_of_lem t (and_left (all_of c r) _ h)
  all_of_lem (right {a = r} t) h = all_of_lem t (and_right (all_of c r) _ h)
  all_of_lem (stop e) h = stop e
  all_of_lem (more t u) h = join (all_of_lem t h) (all_of_lem u h)

  -- the byte at a place among them
  pub among_all : {i j k : ℕ} → Takes text (many (one c)) i j → i ≤ k → k < j → At text c k
  among_all (stop e) h l = absurd (omega (arith, e, h, l))
  among_all {i} {j} {k} (more {m = m} (byte a e) t) h l = go (dec_le m k) (λ x. among_all t x l)
    where
      go : Dec (m ≤ k) → (m ≤ k → At text c k) → At text c k
      go (yes x) f = f x
      go (no x) f = move_at text c (omega (arith, e, h, x)) a

-- ---- the last byte is of the class

-- of a match that takes a byte
abbrev pub lasts : Class → Rule → Bool
lasts c empty = true
lasts c (one d) = includes d c
lasts c (r then s) = lasts c s && (not (nullable s) || lasts c r)
lasts c (r or s) = lasts c r && lasts c s
lasts c (many r) = lasts c r

-- and every match takes one
abbrev pub closes : Class → Rule → Bool
closes c r = not (nullable r) && lasts c r

module _ (text : List ℕ) (c : Class) where
  -- the byte before j is of the class, and stands at i or behind it
  pub record Last (i j : ℕ) : Type 0 where
    pub place : ℕ
    pub behind : i ≤ place
    pub before : j ≡ place + 1
    pub byte_is : At text c place

  abbrev Ended : ℕ → ℕ → Type 0
  Ended i j = (i ≡ j) ⊎ Last i j

  -- two matches, one behind the other
  later : {i m j : ℕ} → i ≤ m → Last m j → Last i j
  later h l = record { place = l.place; behind = omega (arith, h, l.behind); before = l.before; byte_is = l.byte_is }

  two_ended : {i m j : ℕ} → i ≤ m → Ended i m → Ended m j → Ended i j
  two_ended h x (inr l) = inr (later h l)
  two_ended h (inl e) (inl f) = inl (e ∙ f)
  two_ended h (inr l) (inl f) = inr (record { place = l.place; behind = l.behind; before = sym f ∙ l.before; byte_is = l.byte_is })

  ended : {r : Rule} {i j : ℕ} → Takes text r i j → lasts c r ≡ true → Ended i j
  ended (nothing e) h = inl e
  ended (byte {c = d} {i = i} a e) h = inr (record { place = i; behind = omega arith; before = e; byte_is = (a.0, includes_in d c (get_or text i 0) h a.1) })
  ended {i = i} {j = j} (both {a = r} {b = s} {m = m} t u) h =
      go (or_cases (not (nullable s)) (lasts c r) (and_right (lasts c s) _ h)) (ended u (and_left (lasts c s) _ h)) (λ x. ended t x)
    where
      go : (not (nullable s) ≡ true) ⊎ (lasts c r ≡ true) → Ended m j → (lasts c r ≡ true → Ended i m) → Ended i j
      go x (inr l) f = inr (later (forward t) l)
      go (inr x) (inl e) f = two_ended (forward t) (f x) (inl e)
      go (inl x) (inl e) f = absurd (never (nullable s) refl x)
        where
          never : (b : Bool) → nullable s ≡ b → not b ≡ true → ⊥
          never true y z = not_both true refl z
          never false y z = omega (arith, e, grows s y u)
  ended (left {a = r} t) h = ended t (and_left (lasts c r) _ h)
  ended (right {a = r} t) h = ended t (and_right (lasts c r) _ h)
  ended (stop e) h = inl e
  ended (more t u) h = two_ended (forward t) (ended t h) (ended u h)

  pub closes_at : (r : Rule) {i j : ℕ} → closes c r ≡ true → Takes text r i j → Last i j
  closes_at r {i} {j} e t = go (nullable r) refl (and_left (not (nullable r)) _ e) (ended t (and_right (not (nullable r)) _ e))
    where
      go : (b : Bool) → nullable r ≡ b → not b ≡ true → Ended i j → Last i j
      go b y z (inr l) = l
      go true y z (inl f) = absurd (not_both true refl z)
      go false y z (inl f) = absurd (omega (arith, f, grows r y t))
