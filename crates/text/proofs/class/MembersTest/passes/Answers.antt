-- `text::class::Members::passes` meets its contract: the set's bit in the byte's class tells it. Assumes nothing.
use Rattle.std.proofs.Common.{rules}
use Rattle.text.proofs.Sets.{in_table}
use Rattle.text.proofs.class.MembersTest.passes.Goals as goal

pub returns : goal.returns
returns c = in_table c.args.self.now.set c.args.self.now.table c.ranges.b.fits (search rules)
