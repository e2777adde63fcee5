-- The loop of `stored::file::File::is`: the bytes before `at` are the same. Assumes nothing.
use mathlib.Core.Path.{◌≡◌}
use Prim.Native.Nat.{ℕ, ◌<◌}
use lib.ListN.{get_or}
use Rattle.files.specs.File.{file}
use Rattle.stored.specs.Holds.{Whenever}
use Rattle.stored.proofs.file.File.is.Given as goal

abbrev pub invariant-loop-at : goal.invariant-loop-at
invariant-loop-at l =
    Whenever l.self.table.now l.self.nodes l.self.size (λ text v. (k : ℕ) → k < l.at → get_or l.bytes k 0 ≡ get_or (file text v) k 0)
