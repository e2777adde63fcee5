-- `text_value::value::coded` meets its contract. Assumes nothing.
use mathlib.Core.Path.{refl}
use mathlib.Core.Logic.{inr}
use Rattle.rules.specs.Rule.{right}
use Rattle.rules.proofs.Matches.{ending}
use Rattle.lexicon.specs.Bad.{BadCode}
use Rattle.lexicon.proofs.Answers.{shorter}
use Rattle.piece.specs.Fits.{not_the_literal, bad}
use Rattle.text_value.proofs.Texts.{code_other, whole_bad}
use Rattle.text_value.proofs.value.coded.Goals as goal

pub returns-in_default : goal.returns-in_default
returns-in_default c = not_the_literal (code_other _ c.requires.0 c.requires.1 c.in_default.ensures.none)

pub returns-then-end-piece : goal.returns-then-end-piece
returns-then-end-piece c = not_the_literal (code_other _ c.requires.0 c.requires.1 (shorter c.in-Some.ensures.0 c.if-end-piece.true))

pub returns-then-bad : goal.returns-then-bad
returns-then-bad c = let y = c.in-Some.ensures in
    bad (right (right (ending c.if-end-piece.false y.0.takes))) (inr (refl, whole_bad _ (BadCode c.args.piece.now) y c.if-end-piece.false c.if-bad.true))
