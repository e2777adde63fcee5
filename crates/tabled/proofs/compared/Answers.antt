-- `tabled::compared` meets its contract. Assumes nothing.
use Rattle.std.proofs.lemmas.Bool.Decides.{Decides-eqb}
use Rattle.std.proofs.lemmas.Slice.Eq.{slice_eq-Decides}
use Rattle.rules.proofs.Bools.{clash}
use Rattle.tabled.proofs.Judged.{is_refused, is_shown, is_other}
use Rattle.tabled.proofs.compared.Goals as goal

pub returns-then-answer-ne0 : goal.returns-then-answer-ne0
returns-then-answer-ne0 c = is_refused c.args.table.now c.requires c.read-answer.ensures c.if-answer-ne0.true

pub returns-then-eq : goal.returns-then-eq
returns-then-eq c = is_shown c.args.table.now c.requires c.read-answer.ensures c.if-answer-ne0.false
    ((slice_eq-Decides Decides-eqb _ _ _ c.eq.ensures).0 c.if-eq.true)

pub returns : goal.returns
returns c = is_other c.args.table.now c.requires c.read-answer.ensures c.if-answer-ne0.false c.from.ensures
    (λ e. clash ((slice_eq-Decides Decides-eqb _ _ _ c.eq.ensures).1 e) c.if-eq.false)
