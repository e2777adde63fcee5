-- The rest of a line ends behind its newline, or at the end of the text. Assumes nothing.
use mathlib.Core.Path.{◌≡◌, refl}
use mathlib.Core.Bool.{Bool, false}
use mathlib.Core.List.{List}
use Prim.Native.Nat.{ℕ, ◌+◌, ◌≤◌}
use native.Mathlib.Omega.{arith}
use Rattle.rules.specs.Test.{Says}
use Rattle.rules.specs.Rule.{one, ◌then◌, many, opt, Takes, nothing, byte, both, left, right, stop, more, Longest}
use Rattle.rules.proofs.Classes.{apart, apart_span, apart_no}
use Rattle.rules.proofs.Chains.{reaches, snoc}
use Rattle.rules.proofs.Matches.{byte_end, one_at, move_at}
use Rattle.rules.proofs.Tests.{refuted}
use Rattle.lexicon.specs.Front.{newline, not_newline}
use Rattle.lexicon.proofs.Spaces.{byte_single}

module _ {text : List ℕ} {at i : ℕ} (bytes : Longest text (many (one not_newline)) at i) where
  pub line_ended : Takes text (one newline) i (i + 1) → Longest text (many (one not_newline) then opt (one newline)) at (i + 1)
  line_ended t = record { takes = both bytes.takes (left t); most = most }
    where
      most : {k : ℕ} → Takes text (many (one not_newline) then opt (one newline)) at k → k ≤ i + 1
      most (both d (left (byte a e))) = omega (arith, bytes.most d)
      most (both d (right (nothing e))) = omega (arith, bytes.most d)

  -- where another byte stood it would go on with the line
  pub line_unended : {o : Bool} → Says o (Takes text (one newline) i (i + 1)) → o ≡ false → Longest text (many (one not_newline) then opt (one newline)) at i
  unfolding apart apart_span
  line_unended s f = record { takes = both bytes.takes (right (nothing refl)); most = most }
    where
      -- no newline stands within it or behind it
      inner : {m k : ℕ} → Takes text (many (one not_newline)) m i → Takes text (one newline) m k → ⊥
      inner (stop e) (byte a x) = refuted s f (one_at (move_at text newline e a))
      inner (more (byte b y) t) (byte a x) = apart_no not_newline newline _ refl b.1 a.1

      most : {k : ℕ} → Takes text (many (one not_newline) then opt (one newline)) at k → k ≤ i
      most (both d (left u)) = absurd (inner (reaches (byte_single not_newline) bytes.takes record { none = λ t. omega (arith, bytes.most (snoc bytes.takes t), byte_end t) } d) u)
      most (both d (right (nothing e))) = omega (arith, bytes.most d)
