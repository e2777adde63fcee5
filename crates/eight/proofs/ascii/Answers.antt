-- `eight::ascii` meets its contract: the high bit of each byte is 0. Assumes nothing.
use Rattle.std.proofs.Common.{rules, refl, [], ◌∷◌}
use Rattle.rules.specs.Class.{◌upto◌, has}
use Rattle.rules.proofs.Bools.{below}
use Rattle.eight.proofs.Lanes.{it, always, ◌and◌, tells, lanes_tell}
use Rattle.eight.proofs.ascii.Goals as goal

pub returns : goal.returns
unfolding has below tells
returns c = lanes_tell (it and always 0x80) (always 0) (0x00 upto 0x7F ∷ []) refl _ c.eight.result c.is_some_and.result c.eight.ensures (search rules)
