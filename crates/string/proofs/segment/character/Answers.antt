-- `string::segment::character` meets its contract: its first byte decides, or a well-formed sequence is one.
-- Assumes nothing.
use mathlib.Core.Path.{refl, ◌∙◌, ap}
use native.Mathlib.Omega.{arith}
use Rattle.rules.specs.Class.{has}
use Rattle.lexicon.specs.Literals.{plain_byte}
use Rattle.text.proofs.Gets.{got, not_got}
use Rattle.text.proofs.Searches.{fails_end}
use Rattle.string.proofs.Characters.{ascii_found, found_C2, other}
use Rattle.string.proofs.segment.character.Goals as goal

pub returns-in_err-b : goal.returns-in_err-b
returns-in_err-b c = rw c.from_residual.ensures (fails_end refl (not_got _ _ c.in_err-b.ensures.lookup))

pub returns-in-194 : goal.returns-in-194
returns-in-194 c = let g = got _ _ c.in_ok-b.field-0 c.in_ok-b.ensures.lookup in
    rw c.then_some.ensures (found_C2 _ c.args.at g.0 (omega arith) c.within.ensures)

pub returns-in-0-to-127 : goal.returns-in-0-to-127
returns-in-0-to-127 c = let g = got _ _ c.in_ok-b.field-0 c.in_ok-b.ensures.lookup in
    rw c.then_some-in-0-to-127.ensures (ascii_found _ c.args.at g.0 (omega arith) (c.is_plain.ensures ∙ ap (has plain_byte) g.1))

pub returns-in_default : goal.returns-in_default
returns-in_default c = let g = got _ _ c.in_ok-b.field-0 c.in_ok-b.ensures.lookup in other _ c.args.at c.sequence.result (omega arith) (λ e. omega arith) c.sequence.ensures
