-- `string::segment::angled` meets its contract: a code point is closed only at its longest match.
-- Assumes nothing.
use mathlib.Core.Path.{refl}
use native.Mathlib.Omega.{arith}
use Rattle.rules.proofs.Matches.{inside}
use Rattle.rules.proofs.Ways.{begins_within}
use Rattle.lexicon.specs.Literals.{code_point_of}
use Rattle.string.proofs.Escapes.{angled_none, angled_found}
use Rattle.string.proofs.segment.angled.Goals as goal

pub returns-in_err-end : goal.returns-in_err-end
returns-in_err-end c = rw c.from_residual.ensures (angled_none _ c.in_err-end.ensures)

pub overflow_add-end : goal.overflow_add-end
overflow_add-end c = let t = c.in_ok-end.ensures.0.takes in omega (arith, inside t (omega (arith, begins_within code_point_of refl t)))

pub returns : goal.returns
returns c = rw c.then_some.ensures (angled_found _ _ _ c.in_ok-end.ensures c.stands.ensures)
