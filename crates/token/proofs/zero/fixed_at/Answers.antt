-- `token::zero::fixed_at` meets its contract: one comparison a spelling.
-- Assumes nothing.
use Rattle.token.proofs.Dispatch.{ignorance_is, false_is, true_is, later_is, spelled_none}
use Rattle.token.proofs.zero.fixed_at.Goals as goal

pub spells-requires : goal.spells-requires
spells-requires c = tt

pub returns-then-spells : goal.returns-then-spells
returns-then-spells c = ignorance_is _ (c.spells.ensures.true_holds c.if-spells.true)

pub spells-requires-2 : goal.spells-requires-2
spells-requires-2 c = tt

pub returns-then-spells-2 : goal.returns-then-spells-2
returns-then-spells-2 c = false_is _ (c.spells-2.ensures.true_holds c.if-spells-2.true)

pub spells-requires-3 : goal.spells-requires-3
spells-requires-3 c = tt

pub returns-then-spells-3 : goal.returns-then-spells-3
returns-then-spells-3 c = true_is _ (c.spells-3.ensures.true_holds c.if-spells-3.true)

pub spells-requires-4 : goal.spells-requires-4
spells-requires-4 c = tt

pub returns-then-spells-4 : goal.returns-then-spells-4
returns-then-spells-4 c = later_is _ (c.spells-4.ensures.true_holds c.if-spells-4.true)

pub returns : goal.returns
returns c = record {
  no_ignorance = spelled_none _ "0sIGNORANCE" _ c.spells.result c.spells.ensures c.if-spells.false;
  no_false = spelled_none _ "0bFALSE" _ c.spells-2.result c.spells-2.ensures c.if-spells-2.false;
  no_true = spelled_none _ "0bTRUE" _ c.spells-3.result c.spells-3.ensures c.if-spells-3.false;
  no_later = spelled_none _ "0L" _ c.spells-4.result c.spells-4.ensures c.if-spells-4.false;
}
