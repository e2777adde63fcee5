-- `leaf::bare::kept` meets its contract. Assumes nothing.
use mathlib.Core.Path.{sym, ap, ◌∙◌}
use mathlib.Core.Bool.{not}
use Rattle.form.specs.Bare as Bare
use Rattle.leaf.specs.declared.bare.Where.{Where}
use Rattle.leaf.specs.Bare.{where_of}
use Rattle.leaf.proofs.bare.kept.Goals as goal

pub returns-in-Outside : goal.returns-in-Outside
returns-in-Outside c = ap not c.dropped.ensures
    ∙ sym (ap (λ (w : Where). Bare.kept (where_of w) c.args.b) c.in-Outside.is)
