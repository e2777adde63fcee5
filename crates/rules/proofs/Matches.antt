-- First laws of matching. Assumes nothing.
use mathlib.Core.Path.{◌≡◌, refl, subst}
use mathlib.Core.List.{List, [], ◌∷◌}
use Prim.Native.Nat.{ℕ, ◌+◌, ◌≤◌}
use native.Mathlib.Nat.{le_antisymm}
use native.Mathlib.Omega.{arith}
use lib.ListN.{length}
use Rattle.rules.specs.Class.{Class}
use Rattle.rules.specs.Rule.{Rule, one, ◌then◌, row, Takes, nothing, byte, both, left, right, stop, more, At, Longest, Fails}

module _ {text : List ℕ} where
  -- a match goes forward
  pub forward : {r : Rule} {i j : ℕ} → Takes text r i j → i ≤ j
  forward (nothing e) = omega arith
  forward (byte a e) = omega arith
  forward (both t u) = let x = forward t in let y = forward u in omega arith
  forward (left t) = forward t
  forward (right t) = forward t
  forward (stop e) = omega arith
  forward (more t u) = let x = forward t in let y = forward u in omega arith

  -- and ends within the text, if it begins there
  pub inside : {r : Rule} {i j : ℕ} → Takes text r i j → i ≤ length text → j ≤ length text
  inside (nothing e) h = omega arith
  inside (byte a e) h = omega arith
  inside (both t u) h = inside u (inside t h)
  inside (left t) h = inside t h
  inside (right t) h = inside t h
  inside (stop e) h = omega arith
  inside (more t u) h = inside u (inside t h)

  -- one byte
  pub byte_at : {c : Class} {i j : ℕ} → Takes text (one c) i j → At text c i
  byte_at (byte a e) = a

  pub byte_end : {c : Class} {i j : ℕ} → Takes text (one c) i j → j ≡ i + 1
  byte_end (byte a e) = e

  -- the same match from, or to, a place that is given in another way
  pub starting : {r : Rule} {i j k : ℕ} → i ≡ j → Takes text r i k → Takes text r j k
  starting {r} {k = k} e t = subst (λ (x : ℕ). Takes text r x k) e t

  pub ending : {r : Rule} {i j k : ℕ} → j ≡ k → Takes text r i j → Takes text r i k
  ending {r} {i} e t = subst (λ (x : ℕ). Takes text r i x) e t

  pub one_at : {c : Class} {i : ℕ} → At text c i → Takes text (one c) i (i + 1)
  one_at a = byte a refl

  -- a sequence fails where its first part does
  pub fails_first : {a b : Rule} {i : ℕ} → Fails text a i → Fails text (a then b) i
  fails_first {a} {b} {i} f = record { none = go }
    where
      go : {j : ℕ} → Takes text (a then b) i j → ⊥
      go (both t u) = f.none t

  -- a row of bytes ends where its length says
  pub row_end : (bs : List ℕ) {i j : ℕ} → Takes text (row bs) i j → j ≡ i + length bs
  row_end [] (nothing e) = omega arith
  row_end (b ∷ []) (byte a e) = omega arith
  row_end (b ∷ c ∷ bs) (both (byte a e) t) = let x = row_end (c ∷ bs) t in omega arith

-- a byte at a place that is given in another way
pub move_at : (text : List ℕ) (c : Class) {i j : ℕ} → i ≡ j → At text c i → At text c j
move_at text c e a = subst (λ (x : ℕ). At text c x) e a

-- the longest match is one
pub longest_same : {text : List ℕ} {r : Rule} {i j k : ℕ} → Longest text r i j → Longest text r i k → j ≡ k
longest_same s t = le_antisymm (t.most s.takes) (s.most t.takes)
