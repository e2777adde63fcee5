-- `text_value::value::fitting` meets its contract. Assumes nothing.
use native.Mathlib.Omega.{arith}
use mathlib.Core.Path.{refl}
use Rattle.reading.specs.Sizes.{base}
use Rattle.text_value.proofs.Texts.{too_small, fits}
use Rattle.text_value.proofs.value.fitting.Goals as goal

pub returns-then-buffer-needed : goal.returns-then-buffer-needed
returns-then-buffer-needed c = let p = c.requires in
    rw c.no_room.ensures (too_small _ c.args.shape p.0 base p.1 (omega (arith, p.1)) p.2 _ c.write-needed.ensures refl c.if-buffer-needed.true)

pub returns : goal.returns
returns c = let p = c.requires in
    rw c.accepted.ensures (fits _ c.args.shape p.0 base p.1 (omega (arith, p.1)) p.2 _ c.write-needed.ensures refl c.if-buffer-needed.false c.write-count.ensures)
