-- Laws of searching: what is found of a rule whose first byte is known. Assumes nothing.
use mathlib.Core.Path.{◌≡◌, refl, subst}
use mathlib.Core.Bool.{Bool, true, false}
use mathlib.Core.List.{List}
use Prim.Native.Nat.{ℕ, ◌+◌, ◌≤◌, ◌<◌}
use lib.ListN.{length}
use native.Mathlib.Omega.{arith}
use Rattle.rules.specs.Test.{Says}
use Rattle.rules.specs.Class.{Class}
use Rattle.rules.specs.Rule.{Rule, one, ◌then◌, ◌or◌, opt, Takes, nothing, both, left, right, Longest, Fails}
use Rattle.rules.proofs.Matches.{forward, byte_at, byte_end, fails_first}
use Rattle.rules.proofs.Tests.{there, not_there}
use Rattle.rules.proofs.Ways.{nullable, never, never_takes, begins_none, end_takes}
use Rattle.std.proofs.Common.{Option, Some, None}
use Rattle.lexicon.specs.Found.{Finds}

module _ {text : List ℕ} where
  -- a test of the byte at i decides a rule of one byte
  pub byte_longest : {c : Class} {i : ℕ} → Takes text (one c) i (i + 1) → Longest text (one c) i (i + 1)
  byte_longest a = record { takes = a; most = λ t. omega (arith, byte_end t) }

  pub byte_found : {c : Class} {i : ℕ} {o : Bool} → Says o (Takes text (one c) i (i + 1)) → o ≡ true → Longest text (one c) i (i + 1)
  byte_found s e = byte_longest (s.true_holds e)

  pub byte_missed : {c : Class} {i : ℕ} {o : Bool} → Says o (Takes text (one c) i (i + 1)) → o ≡ false → Fails text (one c) i
  byte_missed s e = record { none = λ t. not_there s e (byte_at t) }

  -- and where a byte stands the next place is within the text
  pub room : {c : Class} {i : ℕ} {o : Bool} → Says o (Takes text (one c) i (i + 1)) → o ≡ true → i < length text
  room s e = (there s e).0

  pub then_missed : {c : Class} {r : Rule} {i : ℕ} {o : Bool} → Says o (Takes text (one c) i (i + 1)) → o ≡ false → Fails text (one c then r) i
  then_missed s e = fails_first (byte_missed s e)

-- what the rule r takes from i the rule s takes from k, and the other way
pub record Same (text : List ℕ) (r : Rule) (i : ℕ) (s : Rule) (k : ℕ) : Type 0 where
  pub there : {j : ℕ} → Takes text r i j → Takes text s k j
  pub back : {j : ℕ} → Takes text s k j → Takes text r i j

module _ {text : List ℕ} where
  -- so what is found of the one is found of the other
  pub found : {r s : Rule} {i k : ℕ} (f : Option ℕ) → Same text r i s k → Finds text s k f → Finds text r i f
  found (Some j) e l = record { takes = e.back l.takes; most = λ t. l.most (e.there t) }
  found None e l = record { none = λ t. l.none (e.there t) }

  -- after its first byte a rule is what is left of it
  pub first : {c : Class} {r : Rule} {i : ℕ} → Takes text (one c) i (i + 1) → Same text (one c then r) i r (i + 1)
  first {c} {r} {i} a = record { there = λ t. go t; back = λ t. both a t }
    where
      go : {j : ℕ} → Takes text (one c then r) i j → Takes text r (i + 1) j
      go {j} (both t u) = subst (λ (m : ℕ). Takes text r m j) (byte_end t) u

  -- a byte that a test found, and then the rest of the rule
  pub then_found : {c : Class} (r : Rule) {i : ℕ} {o : Bool} (f : Option ℕ) → Says o (Takes text (one c) i (i + 1)) → o ≡ true → Finds text r (i + 1) f → Finds text (one c then r) i f
  then_found r f s e l = found f (first (s.true_holds e)) l

  pub then_longest : {c : Class} {r : Rule} {i j : ℕ} → Takes text (one c) i (i + 1) → Longest text r (i + 1) j → Longest text (one c then r) i j
  then_longest {j = j} a l = found (Some j) (first a) l

  pub then_fails : {c : Class} {r : Rule} {i : ℕ} → Takes text (one c) i (i + 1) → Fails text r (i + 1) → Fails text (one c then r) i
  then_fails a f = found None (first a) f

  pub whole : {r : Rule} {i : ℕ} → Same text r i r i
  whole = record { there = λ t. t; back = λ t. t }

  -- of a choice one side is left where the other never begins with the byte
  pub this : {c : Class} {r s q : Rule} {i k : ℕ} → never c s ≡ true → Takes text (one c) i (i + 1) → Same text r i q k → Same text (r or s) i q k
  this {c} {r} {s} {q} {i} {k} n a e = record { there = λ t. go t; back = λ t. left (e.back t) }
    where
      go : {j : ℕ} → Takes text (r or s) i j → Takes text q k j
      go (left t) = e.there t
      go (right t) = absurd (never_takes text c s n (byte_at a) t)

  pub past : {c : Class} {r s q : Rule} {i k : ℕ} → never c r ≡ true → Takes text (one c) i (i + 1) → Same text s i q k → Same text (r or s) i q k
  past {c} {r} {s} {q} {i} {k} n a e = record { there = λ t. go t; back = λ t. right (e.back t) }
    where
      go : {j : ℕ} → Takes text (r or s) i j → Takes text q k j
      go (left t) = absurd (never_takes text c r n (byte_at a) t)
      go (right t) = e.there t

  -- beyond the end nothing is found
  pub fails_end : {r : Rule} {i : ℕ} → nullable r ≡ false → length text ≤ i → Fails text r i
  fails_end {r} e h = record { none = λ t. end_takes text r e h t }

  -- a rule that never begins with the byte is not found
  pub fails : {c : Class} {r : Rule} {i : ℕ} → never c r ≡ true → Takes text (one c) i (i + 1) → Fails text r i
  fails {c} {r} n a = begins_none text c r n (byte_at a)

  -- the sequence of three rules is one whichever two are taken together
  pub regroup : {a b r : Rule} {i : ℕ} → Same text ((a then b) then r) i (a then b then r) i
  regroup {a} {b} {r} {i} = record { there = there; back = back }
    where
      there : {j : ℕ} → Takes text ((a then b) then r) i j → Takes text (a then b then r) i j
      there (both (both t u) v) = both t (both u v)

      back : {j : ℕ} → Takes text (a then b then r) i j → Takes text ((a then b) then r) i j
      back (both t (both u v)) = both (both t u) v

  pub longest_from : {r : Rule} {i j k : ℕ} → i ≡ k → Longest text r i j → Longest text r k j
  longest_from {r} {i} {j} e l = subst (λ (x : ℕ). Longest text r x j) e l

  -- what may be left out
  pub opt_longest : {r : Rule} {i j : ℕ} → Longest text r i j → Longest text (opt r) i j
  opt_longest {r} {i} {j} l = record { takes = left l.takes; most = go }
    where
      go : {k : ℕ} → Takes text (opt r) i k → k ≤ j
      go (left t) = l.most t
      go (right (nothing e)) = omega (arith, forward l.takes)

  pub opt_missed : {r : Rule} {i : ℕ} → Fails text r i → Longest text (opt r) i i
  opt_missed {r} {i} f = record { takes = right (nothing refl); most = go }
    where
      go : {k : ℕ} → Takes text (opt r) i k → k ≤ i
      go (left t) = absurd (f.none t)
      go (right (nothing e)) = omega arith
