-- `text_value::value::shape_of` meets its contract. Assumes nothing.
use mathlib.Core.Logic.{inl}
use Rattle.rules.specs.Rule.{left}
use Rattle.rules.proofs.Matches.{ending}
use Rattle.lexicon.specs.Bad.{BadQuoted}
use Rattle.piece.specs.Fits.{not_the_literal, bad}
use Rattle.text_value.proofs.Texts.{quoted_other, whole_bad}
use Rattle.text_value.proofs.value.shape_of.Goals as goal

pub returns-then-end-piece : goal.returns-then-end-piece
returns-then-end-piece c = not_the_literal (quoted_other _ c.in-Some.ensures.0 c.if-end-piece.true)

pub returns-then-bad : goal.returns-then-bad
returns-then-bad c = let y = c.in-Some.ensures in
    bad (left (ending c.if-end-piece.false y.0.takes)) (inl (c.first_bad.ensures.bad (whole_bad _ (BadQuoted c.args.piece.now) y c.if-end-piece.false c.if-bad.true)))
