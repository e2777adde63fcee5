-- `eight::plain` meets its contract: each byte is plain. Assumes nothing.
use Rattle.std.proofs.Common.{rules, ℕ, refl}
use Rattle.rules.specs.Class.{has}
use Rattle.rules.proofs.Bools.{below}
use Rattle.lexicon.specs.Literals.{plain_byte}
use Rattle.eight.proofs.Lanes.{Lane, it, always, ◌and◌, ◌xor◌, ◌plus◌, tells, lanes_tell}
use Rattle.eight.proofs.plain.Goals as goal

-- the low bits, and the high bit of those that are not k
abbrev v : Lane
v = it and always 0x7F

abbrev no : ℕ → Lane
no k = (v xor always k) plus always 0x7F

pub returns : goal.returns
unfolding has below tells
returns c = lanes_tell ((v plus always 0x60) and ((no 0x22 and no 0x5C) and no 0x60) and (it xor always 0x80) and always 0x80) (always 0x80) plain_byte refl _ c.eight.result c.is_some_and.result c.eight.ensures (search rules)
