-- `number::groups::units` meets its contract. Assumes nothing.
use native.Mathlib.Omega.{arith}
use Rattle.rules.specs.Rule.{one, many, Longest}
use Rattle.rules.proofs.Matches.{forward}
use Rattle.lexicon.specs.Bytes.{members}
use Rattle.number.proofs.Units.{units_room, all_units, byte_units}
use Rattle.number.proofs.groups.units.Goals as goal

pub returns-then-width-eq1 : goal.returns-then-width-eq1
returns-then-width-eq1 c = let a = c.args in
    let row : Longest a.text.now (many (one (members a.set))) a.at c.run-end.result = c.run-end.ensures in
    byte_units a.text.now (members a.set) a.width a.at c.run-end.result row c.if-width-eq1.true

pub overflow_sub-result : goal.overflow_sub-result
overflow_sub-result c = let a = c.args in
    let row : Longest a.text.now (many (one (members a.set))) a.at c.run-end.result = c.run-end.ensures in
    forward row.takes

pub overflow_mul-result : goal.overflow_mul-result
overflow_mul-result c = let a = c.args in
    let row : Longest a.text.now (many (one (members a.set))) a.at c.run-end.result = c.run-end.ensures in
    omega (arith, units_room a.text.now (members a.set) a.width a.at c.run-end.result row)

pub overflow_add-result : goal.overflow_add-result
overflow_add-result c = let a = c.args in
    let row : Longest a.text.now (many (one (members a.set))) a.at c.run-end.result = c.run-end.ensures in
    omega (arith, units_room a.text.now (members a.set) a.width a.at c.run-end.result row)

pub returns : goal.returns
returns c = let a = c.args in
    let row : Longest a.text.now (many (one (members a.set))) a.at c.run-end.result = c.run-end.ensures in
    all_units a.text.now (members a.set) a.width a.at c.run-end.result row c.requires.0
