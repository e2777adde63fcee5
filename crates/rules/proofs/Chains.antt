-- Repeated matches of one rule: joined, extended at the end, and compared where from each place the rule has one match at most.
-- Assumes nothing.
use mathlib.Core.Path.{◌≡◌, refl, subst, sym, ◌∙◌}
use mathlib.Core.List.{List}
use Prim.Native.Nat.{ℕ, zero, suc}
use Rattle.rules.specs.Rule.{Rule, many, plus, opt, times, Takes, nothing, both, left, right, stop, more, Fails, Longest}
use Rattle.rules.proofs.Matches.{forward}

module _ {text : List ℕ} {r : Rule} where
  pub move : {i j k : ℕ} → i ≡ j → Takes text (many r) j k → Takes text (many r) i k
  move {k = k} e t = subst (λ (x : ℕ). Takes text (many r) x k) (sym e) t

  pub join : {i j k : ℕ} → Takes text (many r) i j → Takes text (many r) j k → Takes text (many r) i k
  join (stop e) d = move e d
  join (more s c) d = more s (join c d)

  pub snoc : {i j k : ℕ} → Takes text (many r) i j → Takes text r j k → Takes text (many r) i k
  snoc c s = join c (more s (stop refl))

  -- so many in a row are a row
  pub many_of_times : (n : ℕ) {i j : ℕ} → Takes text (times n r) i j → Takes text (many r) i j
  many_of_times zero (nothing e) = stop e
  many_of_times (suc n) (both s t) = more s (many_of_times n t)

  -- `[r+]?` is `r*`
  pub many_of_opt : {i j : ℕ} → Takes text (opt (plus r)) i j → Takes text (many r) i j
  many_of_opt (left (both t u)) = more t u
  many_of_opt (right (nothing e)) = stop e

  pub opt_of_many : {i j : ℕ} → Takes text (many r) i j → Takes text (opt (plus r)) i j
  opt_of_many (stop e) = right (nothing e)
  opt_of_many (more t u) = left (both t u)

-- what takes each match of a rule takes a row of them
pub each : {text : List ℕ} {r s : Rule} → ((i j : ℕ) → Takes text r i j → Takes text s i j) → {i j : ℕ} → Takes text (many r) i j → Takes text (many s) i j
each f (stop e) = stop e
each f (more t c) = more (f _ _ t) (each f c)

-- the rule has at most one match from each place
pub record Single (text : List ℕ) (r : Rule) : Type 0 where
  pub same : {i j k : ℕ} → Takes text r i j → Takes text r i k → j ≡ k

module _ {text : List ℕ} {r : Rule} (single : Single text r) where
  -- a chain that ends where the rule has no match has every other chain's end on its way
  pub reaches : {i j k : ℕ} → Takes text (many r) i j → Fails text r j → Takes text (many r) i k → Takes text (many r) k j
  reaches (stop e) f (stop e') = stop (sym e' ∙ e)
  reaches (stop e) f (more {m = m} s d) = absurd (f.none (subst (λ (x : ℕ). Takes text r x m) e s))
  reaches (more s c) f (stop e) = move (sym e) (more s c)
  reaches (more s c) f (more t d) = reaches c f (move (single.same s t) d)

  -- so it is the longest
  pub longest : {i j : ℕ} → Takes text (many r) i j → Fails text r j → Longest text (many r) i j
  longest c f = record { takes = c; most = λ d. forward (reaches c f d) }
