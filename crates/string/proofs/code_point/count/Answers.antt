-- `string::code_point::count` meets its contract: the bytes up to `i` are digits, and `code` is their number up to the limit.
-- Assumes nothing.
use mathlib.Core.Bool.{not}
use borrow.Author.Rules.{rules}
use mathlib.Core.Path.{◌≡◌, ap}
use native.Mathlib.Omega.{arith}
use lib.ListN.{get_or}
use Rattle.rules.specs.Class.{has}
use Rattle.lexicon.specs.Bytes.{members}
use Rattle.text.proofs.Sets.{in_table}
use Rattle.string.proofs.Numbers.{counting_none, counting_more, counting_ends, counting_all}
use Rattle.string.proofs.code_point.count.Goals as goal

pub loop-i-init : goal.loop-i-init
loop-i-init c = counting_none _ _ _

pub overflow_cast-b : goal.overflow_cast-b
overflow_cast-b c = omega (arith, c.type_inv.text c.loop-i.i)

pub returns-then-not-holds : goal.returns-then-not-holds
returns-then-not-holds c =
    let digit : c.holds.result ≡ has (members c.digit_set-set.result) (get_or c.args.text.now c.loop-i.i 0) = in_table c.digit_set-set.result c.classes-classes.ensures (c.type_inv.text c.loop-i.i).fits c.holds.ensures in
    counting_ends c.loop-i.invariant c.digit_set-set.ensures digit (ap not c.if-not-holds.true)

pub loop-i-preserved : goal.loop-i-preserved
loop-i-preserved c =
    let digit : c.holds.result ≡ has (members c.digit_set-set.result) (get_or c.args.text.now c.loop-i.i 0) = in_table c.digit_set-set.result c.classes-classes.ensures (c.type_inv.text c.loop-i.i).fits c.holds.ensures in
    counting_more c.loop-i.invariant c.radix-n.ensures c.loop-i-test.true digit (ap not c.if-not-holds.false) c.limited-code.ensures

pub returns : goal.returns
returns c = search (counting_all, rules)
