-- `space::front::mark` meets its contract: each byte of the mark stands there, or the first that does not refuses it. Assumes nothing.
use Rattle.text.proofs.Searches.{byte_longest, byte_missed, then_longest, then_missed, then_fails, opt_longest, opt_missed}
use Rattle.space.proofs.front.mark.Goals as goal

pub returns-then-not-stands : goal.returns-then-not-stands
returns-then-not-stands c = opt_missed (then_missed c.stands.ensures c.if-not-stands.true)

pub returns-then-not-stands-2 : goal.returns-then-not-stands-2
returns-then-not-stands-2 c = opt_missed (then_fails (c.stands.ensures.true_holds c.if-not-stands.false) (then_missed c.stands-2.ensures c.if-not-stands-2.true))

pub returns-then-not-stands-3 : goal.returns-then-not-stands-3
returns-then-not-stands-3 c = opt_missed (then_fails (c.stands.ensures.true_holds c.if-not-stands.false) (then_fails (c.stands-2.ensures.true_holds c.if-not-stands-2.false) (byte_missed c.stands-3.ensures c.if-not-stands-3.true)))

pub returns : goal.returns
returns c = opt_longest (then_longest (c.stands.ensures.true_holds c.if-not-stands.false) (then_longest (c.stands-2.ensures.true_holds c.if-not-stands-2.false) (byte_longest (c.stands-3.ensures.true_holds c.if-not-stands-3.false))))
