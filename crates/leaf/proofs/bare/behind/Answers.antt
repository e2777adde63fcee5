-- `leaf::bare::behind` meets its contract. Assumes nothing.
use mathlib.Core.Path.{◌≡◌, sym, ap, ◌∙◌}
use Prim.Native.Nat.{ℕ}
use Rattle.rules.proofs.Choices.{chosen, passed_by}
use Rattle.form.specs.Bare as Bare
use Rattle.leaf.specs.declared.bare.Where.{Where}
use Rattle.leaf.specs.Bare.{where_of}
use Rattle.leaf.proofs.bare.behind.Goals as goal

at_told : {v w : Where} (b : ℕ) → v ≡ w → Bare.behind (where_of w) b ≡ Bare.behind (where_of v) b
at_told b e = sym (ap (λ (w : Where). Bare.behind (where_of w) b) e)

pub returns-in-Outside : goal.returns-in-Outside
returns-in-Outside c = c.opened.ensures ∙ at_told _ c.in-Outside.is

pub returns-then-b-eq-QUOTE : goal.returns-then-b-eq-QUOTE
returns-then-b-eq-QUOTE c = sym (chosen c.args.b 34 _ _ c.if-b-eq-QUOTE.true) ∙ at_told _ c.in-Quotes.is

pub returns-else-b-eq-QUOTE : goal.returns-else-b-eq-QUOTE
returns-else-b-eq-QUOTE c = sym (passed_by c.args.b 34 _ _ c.if-b-eq-QUOTE.false) ∙ at_told _ c.in-Quotes.is

pub returns-then-b-eq-GRAVE : goal.returns-then-b-eq-GRAVE
returns-then-b-eq-GRAVE c = sym (chosen c.args.b 96 _ _ c.if-b-eq-GRAVE.true) ∙ at_told _ c.in-Comment.is

pub returns-else-b-eq-GRAVE : goal.returns-else-b-eq-GRAVE
returns-else-b-eq-GRAVE c = sym (passed_by c.args.b 96 _ _ c.if-b-eq-GRAVE.false) ∙ at_told _ c.in-Comment.is
