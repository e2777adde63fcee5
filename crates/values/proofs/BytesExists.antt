-- Every piece and lent buffer have an answer of a call whose literals are settled and a buffer at the end, and only one. Assumes nothing.
use mathlib.Core.Path.{◌≡◌}
use mathlib.Core.Logic.{◌⊎◌, inl, inr}
use mathlib.Core.List.{List}
use Prim.Native.Nat.{ℕ, ◌≤◌}
use native.Mathlib.Omega.{arith}
use lib.ListN.{length}
use Rattle.std.specs.Prelude.{Result, Ok, Err}
use Rattle.lexicon.specs.declared.NotUtf8.{NotUtf8}
use Rattle.lexicon.specs.Utf8.{WellFormed, Encoded}
use Rattle.decisions.proofs.Tests.{settled, at_most}
use Rattle.decisions.proofs.Cuts.{takes}
use Rattle.decisions.proofs.Utf8.{encoded}
use Rattle.reading.specs.declared.Answer.{Answer}
use Rattle.reading.specs.declared.Rules.{Rules}
use Rattle.values.specs.Exactly.{Exactly}
use Rattle.values.specs.Bytes.{Call, BadPiece, BytesAnswers, too_long, not_utf8, not_the_literal, bad, no_room, accepted}
use Rattle.values.proofs.BytesDetermined.{Good, Settled, one_answer}

module _ (call : Call) (values : Settled call) (rules : Rules) (piece lent : List ℕ) where
  abbrev pub Answered : Type 0
  Answered = (a : Answer) × (t : List ℕ) × BytesAnswers call rules piece lent a t

  abbrev Asked : Type 0
  Asked = Exactly call.literal piece

  -- some answer
  pub some_answer : Answered
  some_answer = long (settled (at_most (length piece) rules.text))
    where
      room : length piece ≤ rules.text → WellFormed piece → Asked → (g : Good call piece) →
          (length g.bytes ≤ length lent) ⊎ (length g.bytes ≤ length lent → ⊥) → Answered
      room h w x g (inl l) = (_, _, accepted h w x g.not_bad g.are l)
      room h w x g (inr l) = (_, _, no_room h w x g.not_bad g.are (omega (arith, l)))

      valued : length piece ≤ rules.text → WellFormed piece → Asked →
          ((p : ℕ) × BadPiece call piece p) ⊎ Good call piece → Answered
      valued h w x (inl b) = (_, _, bad h w x b.1)
      valued h w x (inr g) = room h w x g (settled (at_most (length g.bytes) (length lent)))

      found : length piece ≤ rules.text → WellFormed piece → Asked ⊎ (Asked → ⊥) → Answered
      found h w (inl x) = valued h w x (values.bad_or_good piece x)
      found h w (inr n) = (_, _, not_the_literal h w n)

      formed : length piece ≤ rules.text → (r : Result (Unit {0}) NotUtf8) → Encoded piece r → Answered
      formed h (Ok _) w = found h w (settled (takes piece call.literal 0 (length piece)))
      formed h (Err p) b = (_, _, not_utf8 h b)

      long : (length piece ≤ rules.text) ⊎ (length piece ≤ rules.text → ⊥) → Answered
      long (inl h) = formed h (encoded piece).0 (encoded piece).1
      long (inr n) = (_, _, too_long (omega (arith, n)))

  -- and it is the one
  pub exactly_one : (a : Answer) × (t : List ℕ) × BytesAnswers call rules piece lent a t ×
      ((b : Answer) (u : List ℕ) → BytesAnswers call rules piece lent b u → (a ≡ b) × (t ≡ u))
  exactly_one = let x = some_answer in (x.0, x.1, x.2, λ b u y. one_answer call rules piece lent values x.2 y)
