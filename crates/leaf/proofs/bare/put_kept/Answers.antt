-- `leaf::bare::put_kept` meets its contract. Assumes nothing.
use mathlib.Core.Path.{sym, ap, ◌∙◌}
use mathlib.Core.Bool.{Bool, cond}
use mathlib.Core.List.{[], ◌∷◌}
use Rattle.buffer.proofs.Appending.{appends_nothing}
use Rattle.leaf.proofs.bare.put_kept.Goals as goal

pub returns-else-kept : goal.returns-else-kept
returns-else-kept c = appends_nothing (ap (λ (o : Bool). cond o (c.args.b ∷ []) []) (sym c.kept.ensures ∙ c.if-kept.false))
