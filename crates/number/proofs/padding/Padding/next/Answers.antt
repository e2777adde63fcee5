-- `number::padding::Padding::next` meets its contract. Assumes nothing.
use Rattle.std.proofs.Common.{rules}
use Rattle.lexicon.proofs.Paddings.{state_pad}
use Rattle.number.proofs.Sums.{followed_character, followed_unfit}
use Rattle.number.proofs.padding.Padding.next.Goals as goal

pub returns-then-b-eq61 : goal.returns-then-b-eq61
returns-then-b-eq61 c = search (state_pad, rules)

pub returns-in-Start : goal.returns-in-Start
returns-in-Start c = followed_character c.if-b-eq61.false c.in-Start.is

pub returns-in_default : goal.returns-in_default
returns-in_default c = followed_unfit c.if-b-eq61.false c.in_default.not-Start c.in_default.not-Character
