-- `stored::check` meets its contract. Assumes nothing.
use Rattle.rules.proofs.Tests.{refuted}
use Rattle.stored.proofs.Heads.{long_enough}
use Rattle.stored.proofs.Calls.{twelve, thirteen, fourteen, checked}
use Rattle.stored.proofs.check.Goals as goal

pub returns-then-unmarked : goal.returns-then-unmarked
returns-then-unmarked c = twelve c.refused.ensures (c.unmarked.ensures.true_holds c.if-unmarked.true)

pub other_version-requires : goal.other_version-requires
other_version-requires c = long_enough c.args.file.now (refuted c.unmarked.ensures c.if-unmarked.false)

pub returns-then-other_version : goal.returns-then-other_version
returns-then-other_version c = thirteen c.refused-then-other_version.ensures (refuted c.unmarked.ensures c.if-unmarked.false) (c.other_version.ensures.true_holds c.if-other_version.true)

pub returns-then-not-stored : goal.returns-then-not-stored
returns-then-not-stored c = fourteen c.refused-then-not-stored.ensures (refuted c.unmarked.ensures c.if-unmarked.false) (refuted c.other_version.ensures c.if-other_version.false)
    (refuted c.stored.ensures c.if-not-stored.true)

pub returns : goal.returns
returns c = checked c.accepted.ensures (c.stored.ensures.true_holds c.if-not-stored.false)
