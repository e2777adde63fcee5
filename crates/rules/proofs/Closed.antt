-- A row of matches up to a closing byte, which begins no match: it ends in one place only. Assumes nothing.
use mathlib.Core.Path.{◌≡◌, subst}
use mathlib.Core.Bool.{true}
use mathlib.Core.List.{List}
use Prim.Native.Nat.{ℕ, ◌+◌}
use native.Mathlib.Nat.{le_antisymm}
use native.Mathlib.Omega.{arith}
use Rattle.rules.specs.Class.{Class}
use Rattle.rules.specs.Rule.{Rule, one, ◌then◌, many, Takes, byte, both, stop, more, At, Longest, Fails}
use Rattle.rules.proofs.Matches.{forward, one_at}
use Rattle.rules.proofs.Chains.{Single, reaches}
use Rattle.rules.proofs.Ways.{never, begins_none}

module _ {text : List ℕ} where
  -- from one place to one place only
  pub agree : {r : Rule} → Single text r → {i j : ℕ} → Takes text r i j → Longest text r i j
  agree single t = record { takes = t; most = λ u. let e = single.same u t in omega arith }

module _ {text : List ℕ} (r : Rule) (c : Class) (single : Single text r) (free : never c r ≡ true) where
  -- two rows from one place, each with the closing byte at its end, end in one place
  row_same : {i j k : ℕ} → Takes text (many r) i j → At text c j → Takes text (many r) i k → At text c k → j ≡ k
  row_same t a u b =
      le_antisymm (forward (reaches single u (begins_none text c r free b) t)) (forward (reaches single t (begins_none text c r free a) u))

  pub closed_single : Single text (many r then one c)
  closed_single = record { same = go }
    where
      go : {i j k : ℕ} → Takes text (many r then one c) i j → Takes text (many r then one c) i k → j ≡ k
      go (both t (byte a e)) (both u (byte b f)) = let x = row_same t a u b in omega arith

  -- the row has come to the closing byte
  pub closes : {i j : ℕ} → Takes text (many r) i j → At text c j → Longest text (many r then one c) i (j + 1)
  closes t a = agree closed_single (both t (one_at a))

  -- the row does not go on, and not to the closing byte
  pub never_closes : {i j : ℕ} → Takes text (many r) i j → Fails text r j → (At text c j → ⊥) → Fails text (many r then one c) i
  never_closes {i} {j} t f n = record { none = go }
    where
      same : {k : ℕ} → Takes text (many r) k j → At text c k → ⊥
      same (stop e) a = n (subst (λ (x : ℕ). At text c x) e a)
      same (more s d) a = (begins_none text c r free a).none s

      go : {k : ℕ} → Takes text (many r then one c) i k → ⊥
      go (both u (byte a e)) = same (reaches single t f u) a
