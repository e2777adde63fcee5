-- A buffer that is enough: the count that the refusal 8 tells; and for every piece, from a bound on the bytes of a value that is not bad.
-- Assumes nothing.
use mathlib.Core.Path.{◌≡◌}
use mathlib.Core.List.{List}
use Prim.Native.Nat.{ℕ, ◌*◌, ◌≤◌}
use native.Mathlib.Omega.{arith}
use lib.ListN.{length}
use Rattle.reading.specs.declared.Answer.{Answer}
use Rattle.reading.specs.Answers.{answer}
use Rattle.reading.specs.declared.Rules.{Rules}
use Rattle.values.specs.Bytes.{Call, BadPiece, PieceBytes, BytesAnswers, too_long, not_utf8, not_the_literal, bad, no_room, accepted}

-- a value has at most k bytes for each byte of its literal
pub record Bounded (call : Call) (k : ℕ) : Type 0 where
  pub at_most : (piece : List ℕ) → ((p : ℕ) → BadPiece call piece p → ⊥) → {bs : List ℕ} → PieceBytes call piece bs → length bs ≤ k * length piece

-- with a buffer k times as long as the piece no answer is the refusal 8
pub enough_room : {call : Call} {k : ℕ} → Bounded call k → (rules : Rules) (piece lent : List ℕ) → k * length piece ≤ length lent →
    {a : Answer} {t : List ℕ} → BytesAnswers call rules piece lent a t → a.number ≡ 8 → ⊥
enough_room bounded rules piece lent r (too_long h) e = omega (arith, e)
enough_room bounded rules piece lent r (not_utf8 h b) e = omega (arith, e)
enough_room bounded rules piece lent r (not_the_literal h w n) e = omega (arith, e)
enough_room bounded rules piece lent r (bad h w x b) e = omega (arith, e)
enough_room bounded rules piece lent r (no_room h w x g t l) e = omega (arith, r, l, bounded.at_most piece g t)
enough_room bounded rules piece lent r (accepted h w x g t l) e = omega (arith, e)

-- a piece that gets 8 is accepted with a buffer of count bytes
pub told_room : {call : Call} (rules : Rules) (piece lent : List ℕ) {a : Answer} {t : List ℕ} → BytesAnswers call rules piece lent a t → a.number ≡ 8 →
    (longer : List ℕ) → a.count ≤ length longer → (u : List ℕ) × BytesAnswers call rules piece longer (answer 0 (length piece) a.count) u
told_room rules piece lent (too_long h) e longer r = absurd (omega (arith, e))
told_room rules piece lent (not_utf8 h b) e longer r = absurd (omega (arith, e))
told_room rules piece lent (not_the_literal h w n) e longer r = absurd (omega (arith, e))
told_room rules piece lent (bad h w x b) e longer r = absurd (omega (arith, e))
told_room rules piece lent (no_room h w x g t l) e longer r = (_, accepted h w x g t r)
told_room rules piece lent (accepted h w x g t l) e longer r = absurd (omega (arith, e))
