-- The refusals, with the numbers that 01 and 02 give them, and the answer of each: 01, 'Count is 0 except under 8'.
-- Assumes nothing.
use Rattle.std.specs.Prelude.{ℕ}
use Rattle.reading.specs.declared.Answer.{Answer}
use Rattle.reading.specs.declared.Refusal.{Refusal}
use Rattle.reading.specs.declared.Refused.{Refused}
use Rattle.reading.specs.Answers.{answer}

abbrev pub number_of : Refusal → ℕ
number_of Refusal.Level = 1
number_of Refusal.TooLong = 2
number_of Refusal.NotUtf8 = 3
number_of Refusal.NoToken = 4
number_of Refusal.BadValue = 5
number_of Refusal.WrongPlace = 6
number_of Refusal.NewerForm = 7
number_of Refusal.NoRoom = 8
number_of Refusal.NotTheLiteral = 9
number_of Refusal.OutOfRange = 10
number_of Refusal.TooDeep = 11
number_of Refusal.NotTheMark = 12
number_of Refusal.OtherVersion = 13
number_of Refusal.NotTheFile = 14
number_of Refusal.RetiredArrow = 15

-- the answer of a refusal but for 8, which has a count
abbrev pub answer_of : Refused → Answer
answer_of r = answer (number_of r.refusal) r.place 0
