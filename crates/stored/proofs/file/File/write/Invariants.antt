-- The loop of `stored::file::File::write`: the bytes before `at` are put. Assumes nothing.
use mathlib.Core.Path.{◌≡◌}
use lib.ListN.{take}
use Rattle.buffer.specs.Appends.{Appends}
use Rattle.files.specs.File.{file}
use Rattle.stored.specs.Holds.{Whenever}
use Rattle.stored.proofs.file.File.write.Given as goal

abbrev pub invariant-loop-at : goal.invariant-loop-at
invariant-loop-at l = record {
  wrote : Whenever l.self.table.now l.self.nodes l.self.size (λ text v. Appends l.initial.out (take l.at (file text v)) l.out);
  same_buffer : l.out.buffer.ghost_name ≡ l.initial.out.buffer.ghost_name;
}
