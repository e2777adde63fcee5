-- `eight::no_grave` meets its contract: no byte is the grave accent. Assumes nothing.
use Rattle.std.proofs.Common.{rules, refl}
use Rattle.rules.specs.Class.{has}
use Rattle.rules.proofs.Bools.{below}
use Rattle.lexicon.specs.Space.{not_grave}
use Rattle.eight.proofs.Lanes.{Lane, it, always, ◌and◌, ◌or◌, ◌xor◌, ◌plus◌, tells, lanes_tell}
use Rattle.eight.proofs.no_grave.Goals as goal

-- 0 for the grave accent, and the sum whose high bit says that the low bits are not 0
abbrev x : Lane
x = it xor always 0x60

abbrev sum : Lane
sum = (x and always 0x7F) plus always 0x7F

pub returns : goal.returns
unfolding has below tells
returns c = lanes_tell ((sum or x) and always 0x80) (always 0x80) not_grave refl _ c.eight.result c.is_some_and.result c.eight.ensures (search rules)
