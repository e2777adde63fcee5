-- `stored::file::File::write` meets its contract. Assumes nothing.
use mathlib.Core.Path.{refl, ◌∙◌}
use native.Mathlib.Omega.{arith}
use Rattle.buffer.proofs.Appending.{appends_none}
use Rattle.stored.proofs.Loops.{put_more, put_all}
use Rattle.stored.proofs.file.File.write.Goals as goal

pub loop-at-init : goal.loop-at-init
loop-at-init c = record { wrote = λ text v h. appends_none _; same_buffer = refl }

pub loop-at-preserved : goal.loop-at-preserved
loop-at-preserved c = record {
  wrote = λ text v h. put_more h c.loop-at.at (omega (arith, c.len-at-end.ensures)) (c.byte.ensures text v h) (c.loop-at.invariant.wrote text v h) c.put.ensures;
  same_buffer = c.put.ensures.same_buffer ∙ c.loop-at.invariant.same_buffer;
}

pub returns-clause-wrote : goal.returns-clause-wrote
returns-clause-wrote c text v h = put_all h c.loop-at.at (omega (arith, c.len-at-end.ensures)) (c.loop-at.invariant.wrote text v h)
