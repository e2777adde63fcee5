-- The answer of the Integer call, number, place, count and value for every piece: 01, 'Table of refusals', 'The value
-- calls test 2, 3, 9, 5, then 10 or 8'. An Integer has no bad value. Assumes nothing.
use Rattle.std.specs.Prelude.{List, ℕ, suc, ◌-◌, ◌≤◌, ◌<◌, ◌^◌, ℤ, pos, negsuc, length}
use Rattle.lexicon.specs.Utf8.{WellFormed, BadAt}
use Rattle.lexicon.specs.Literals.{integer}
use Rattle.lexicon.specs.Values.{IntegerOf}
use Rattle.reading.specs.declared.Rules.{Rules}
use Rattle.values.specs.declared.IntegerAnswer.{IntegerAnswer}
use Rattle.values.specs.Exactly.{Exactly}

-- −2^63 to 2^63 − 1, where `negsuc n` is −(n + 1)
abbrev pub Within : ℤ → Type 0
Within (pos n) = n ≤ 2 ^ 63 - 1
Within (negsuc n) = suc n ≤ 2 ^ 63

-- number, place and value; the count of an Integer is 0
abbrev pub answer : ℕ → ℕ → ℤ → IntegerAnswer
answer n p z = record { number = n; place = p; count = 0; value = z }

-- 01: 'A refused Integer has value 0'
abbrev pub refusal : ℕ → ℕ → IntegerAnswer
refusal n p = answer n p (pos 0)

module _ (rules : Rules) (piece : List ℕ) where
  pub data IntegerAnswers : IntegerAnswer → Type 0 where
    too_long : rules.text < length piece → IntegerAnswers (refusal 2 0)
    not_utf8 : {p : ℕ} → length piece ≤ rules.text → BadAt piece p → IntegerAnswers (refusal 3 p)
    not_integer : length piece ≤ rules.text → WellFormed piece → (Exactly integer piece → ⊥) →
        IntegerAnswers (refusal 9 0)
    outside : {z : ℤ} → length piece ≤ rules.text → WellFormed piece → Exactly integer piece →
        IntegerOf piece 0 (length piece) z → (Within z → ⊥) → IntegerAnswers (refusal 10 0)
    accepted : {z : ℤ} → length piece ≤ rules.text → WellFormed piece → Exactly integer piece →
        IntegerOf piece 0 (length piece) z → Within z → IntegerAnswers (answer 0 (length piece) z)
