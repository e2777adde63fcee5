-- `blob_value::mark::digit_value` meets its contract. Assumes nothing.
use Rattle.blob_value.proofs.Marks.{value_digit, value_pad, value_sextet}
use borrow.Author.Rules.{rules}
use Rattle.blob_value.proofs.mark.digit_value.Goals as goal

pub returns-then-radix-lt64 : goal.returns-then-radix-lt64
returns-then-radix-lt64 c = search (value_digit, rules)

pub returns-then-b-eq61 : goal.returns-then-b-eq61
returns-then-b-eq61 c = search (value_pad, rules)

pub returns : goal.returns
returns c = search (value_sextet, rules)
