-- `string::quoted::segments` meets its contract: the segments up to `end` are a row, and `bad` is the first bad escape in them, if there is one.
-- Assumes nothing.
use mathlib.Core.Path.{refl}
use native.Mathlib.Omega.{arith}
use Rattle.rules.proofs.Matches.{forward}
use Rattle.rules.proofs.Ways.{begins_within}
use Rattle.lexicon.specs.Literals.{segment}
use Rattle.string.proofs.Segments.{segment_strict}
use Rattle.string.proofs.FirstBad.{segments_start, segments_on, segments_none, segments_end}
use Rattle.string.proofs.quoted.segments.Goals as goal

pub returns-in_err-end : goal.returns-in_err-end
returns-in_err-end c = rw c.from_residual.ensures (segments_none _ c.in_err-end.ensures)

pub loop-further-init : goal.loop-further-init
loop-further-init c = segments_start _ c.in_ok-end.ensures

pub loop-further-smaller : goal.loop-further-smaller
loop-further-smaller c = let y = c.in-Some.ensures in
    omega (arith, begins_within segment refl y.0.0.takes, (segment_strict _).less y.0.0.takes, forward c.space.ensures.takes)

pub loop-further-preserved : goal.loop-further-preserved
loop-further-preserved c = rw c.or-bad.ensures (segments_on _ c.loop-further.invariant c.space.ensures c.in-Some.ensures)

pub returns : goal.returns
returns c = segments_end _ _ c.loop-further.invariant c.space.ensures c.in_default.ensures
