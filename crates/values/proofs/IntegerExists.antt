-- Every piece has an answer, and only one. Assumes nothing.
use mathlib.Core.Path.{◌≡◌}
use mathlib.Core.Logic.{◌⊎◌, inl, inr}
use mathlib.Core.List.{List}
use Prim.Native.Nat.{ℕ, suc, ◌-◌, ◌≤◌, ◌^◌}
use native.Mathlib.Omega.{arith}
use lib.IntN.{ℤ, pos, negsuc}
use lib.ListN.{length}
use Rattle.std.specs.Prelude.{Result, Ok, Err}
use Rattle.lexicon.specs.declared.NotUtf8.{NotUtf8}
use Rattle.lexicon.specs.Utf8.{WellFormed, Encoded}
use Rattle.lexicon.specs.Literals.{integer}
use Rattle.lexicon.specs.Values.{IntegerOf}
use Rattle.decisions.proofs.Tests.{settled, at_most}
use Rattle.decisions.proofs.Cuts.{takes}
use Rattle.decisions.proofs.Utf8.{encoded}
use Rattle.reading.specs.declared.Rules.{Rules}
use Rattle.values.specs.declared.IntegerAnswer.{IntegerAnswer}
use Rattle.values.specs.Exactly.{Exactly}
use Rattle.values.specs.Integer.{Within, IntegerAnswers, too_long, not_utf8, not_integer, outside, accepted}
use Rattle.values.proofs.IntegerDetermined.{has_integer, one_answer}

within_or_not : (z : ℤ) → Within z ⊎ (Within z → ⊥)
within_or_not (pos n) = settled (at_most n (2 ^ 63 - 1))
within_or_not (negsuc n) = settled (at_most (suc n) (2 ^ 63))

module _ (rules : Rules) (piece : List ℕ) where
  abbrev pub Answered : Type 0
  Answered = (a : IntegerAnswer) × IntegerAnswers rules piece a

  -- some answer
  pub some_answer : Answered
  some_answer = long (settled (at_most (length piece) rules.text))
    where
      sized : length piece ≤ rules.text → WellFormed piece → Exactly integer piece → (z : ℤ) → IntegerOf piece 0 (length piece) z → Within z ⊎ (Within z → ⊥) → Answered
      sized h w x z v (inl o) = (_, accepted h w x v o)
      sized h w x z v (inr o) = (_, outside h w x v o)

      found : length piece ≤ rules.text → WellFormed piece → Exactly integer piece ⊎ (Exactly integer piece → ⊥) → Answered
      found h w (inl x) = let v = has_integer piece x in sized h w x v.0 v.1 (within_or_not v.0)
      found h w (inr n) = (_, not_integer h w n)

      formed : length piece ≤ rules.text → (r : Result (Unit {0}) NotUtf8) → Encoded piece r → Answered
      formed h (Ok _) w = found h w (settled (takes piece integer 0 (length piece)))
      formed h (Err p) b = (_, not_utf8 h b)

      long : (length piece ≤ rules.text) ⊎ (length piece ≤ rules.text → ⊥) → Answered
      long (inl h) = formed h (encoded piece).0 (encoded piece).1
      long (inr n) = (_, too_long (omega (arith, n)))

  -- and it is the one
  pub exactly_one : (a : IntegerAnswer) × IntegerAnswers rules piece a × ((b : IntegerAnswer) → IntegerAnswers rules piece b → a ≡ b)
  exactly_one = let x = some_answer in (x.0, x.1, λ b y. one_answer rules piece x.1 y)
