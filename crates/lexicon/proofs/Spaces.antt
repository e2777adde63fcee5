-- Dividing space ends in one place only, and what stands there decides what may follow. Assumes nothing.
use mathlib.Core.Path.{◌≡◌, refl, subst, sym, ◌∙◌}
use mathlib.Core.Bool.{true}
use mathlib.Core.List.{List}
use Prim.Native.Nat.{ℕ, ◌<◌}
use native.Mathlib.Omega.{arith}
use lib.ListN.{get_or}
use Rattle.rules.specs.Class.{Class, In}
use Rattle.rules.specs.Rule.{one, ◌then◌, many, opt, At, Takes, nothing, byte, both, left, right, Fails}
use Rattle.rules.proofs.Classes.{apart, apart_span, apart_no}
use Rattle.rules.proofs.Matches.{forward, starting, longest_same}
use Rattle.rules.proofs.Chains.{Single, reaches, snoc, many_of_opt, opt_of_many}
use Rattle.rules.proofs.Ways.{never, begins_none}
use Rattle.rules.proofs.Closed.{closed_single}
use Rattle.lexicon.specs.Bytes.{dividing}
use Rattle.lexicon.specs.Space.{grave, not_grave, blank, sp, Skips}

dividing_grave : apart dividing grave ≡ true
unfolding apart apart_span
dividing_grave = refl

grave_not : never grave (one not_grave) ≡ true
unfolding never apart apart_span
grave_not = refl

-- a byte of the class stands first behind the dividing space at i
pub record Ahead (text : List ℕ) (c : Class) (i : ℕ) : Type 0 where
  pub place : ℕ
  pub skipped : Skips text i place
  pub stands : At text c place

module _ {text : List ℕ} where
  -- ---- a comment ends at the first grave accent behind its opening

  pub byte_single : (c : Class) → Single text (one c)
  byte_single c = record { same = go }
    where
      go : {i j k : ℕ} → Takes text (one c) i j → Takes text (one c) i k → j ≡ k
      go (byte a e) (byte b f) = omega arith

  body_single : Single text (many (one not_grave) then one grave)
  body_single = closed_single (one not_grave) grave (byte_single not_grave) grave_not

  pub blank_single : Single text blank
  blank_single = record { same = go }
    where
      go : {i j k : ℕ} → Takes text blank i j → Takes text blank i k → j ≡ k
      go (left (byte a e)) (left (byte b f)) = omega arith
      go {i} (left (byte a e)) (right (both (byte b f) u)) = absurd (apart_no dividing grave (get_or text i 0) dividing_grave a.1 b.1)
      go {i} (right (both (byte b f) u)) (left (byte a e)) = absurd (apart_no dividing grave (get_or text i 0) dividing_grave a.1 b.1)
      go (right (both (byte a e) c)) (right (both (byte b f) d)) = body_single.same c (starting (f ∙ sym e) d)

  -- every blank takes a byte at least
  pub blank_forward : {i j : ℕ} → Takes text blank i j → i < j
  blank_forward (left (byte a e)) = omega arith
  blank_forward (right (both (byte a e) u)) = let x = forward u in omega arith

  -- ---- where dividing space ends

  pub skips : {i j : ℕ} → Takes text (many blank) i j → Fails text blank j → Skips text i j
  skips c f = record { takes = opt_of_many c; most = λ d. forward (reaches blank_single c f (many_of_opt d)) }

  pub skips_fails : {i j : ℕ} → Skips text i j → Fails text blank j
  skips_fails s =
      record { none = λ b. let x = s.most (opt_of_many (snoc (many_of_opt s.takes) b)) in let y = blank_forward b in absurd (omega arith) }

  pub skips_same : {i j k : ℕ} → Skips text i j → Skips text i k → j ≡ k
  skips_same s t = longest_same s t

  -- space that is left part of the way ends where the whole ends
  pub skips_on : {i u k : ℕ} → Takes text (opt sp) i u → Skips text i k → Skips text u k
  skips_on p s = skips (reaches blank_single (many_of_opt s.takes) (skips_fails s) (many_of_opt p)) (skips_fails s)

  -- space that is followed by a byte which begins none has ended
  pub landed : (c : Class) {i u : ℕ} → never c blank ≡ true → Takes text (opt sp) i u → At text c u → Skips text i u
  landed c e p a = skips (many_of_opt p) (begins_none text c blank e a)

  pub landed_here : (c : Class) {i : ℕ} → never c blank ≡ true → At text c i → Skips text i i
  landed_here c e a = landed c e (right (nothing refl)) a

  pub ahead_apart : (c d : Class) {i : ℕ} → apart c d ≡ true → Ahead text c i → Ahead text d i → ⊥
  ahead_apart c d e a b =
      apart_no c d (get_or text a.place 0) e a.stands.1
      (subst (λ (x : ℕ). In d (get_or text x 0)) (skips_same b.skipped a.skipped) b.stands.1)
