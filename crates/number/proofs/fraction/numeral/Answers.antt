-- `number::fraction::numeral` meets its contract. Assumes nothing.
use Rattle.number.proofs.Fractions.{fraction_none, significand_no_number, fraction_no_power, fraction_power}
use Rattle.number.proofs.Integers.{integer_none, integer_longest}
use Rattle.number.proofs.fraction.numeral.Goals as goal

pub returns-in_err-base : goal.returns-in_err-base
returns-in_err-base c = rw c.from_residual.ensures
    (fraction_none _ (significand_no_number _ c.start.ensures c.in_err-base.ensures), integer_none _ c.start.ensures c.in_err-base.ensures)

pub returns-in_default : goal.returns-in_default
returns-in_default c = (
  fraction_none _ (c.in_default.ensures.of c.start.ensures c.in_ok-base.ensures),
  integer_longest _ c.start.ensures c.in_ok-base.ensures,
)

pub returns-in_default-power : goal.returns-in_default-power
returns-in_default-power c = let l = c.in-Some.ensures.of c.start.ensures c.in_ok-base.ensures in fraction_no_power _ l.0 l.1 c.in_default-power.ensures

pub returns : goal.returns
returns c = let l = c.in-Some.ensures.of c.start.ensures c.in_ok-base.ensures in
    let p = c.in-Some-power.ensures in fraction_power _ l.0 l.1 p.0 p.1
