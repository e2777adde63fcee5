-- `stored::file::File::byte` meets its contract. Assumes nothing.
use mathlib.Core.Path.{ap, ◌∙◌}
use mathlib.Core.List.{List}
use Prim.Native.Nat.{ℕ, ◌-◌, ◌%◌}
use native.Mathlib.Omega.{arith}
use lib.ListN.{get_or}
use Rattle.files.specs.File.{number}
use Rattle.stored.proofs.Bytes.{mark_at, number_at}
use Rattle.stored.proofs.file.File.byte.Goals as goal

pub returns-then-at-lt3 : goal.returns-then-at-lt3
returns-then-at-lt3 c text v h = mark_at h c.args.at (omega arith)

pub returns : goal.returns
returns c text v h =
    let at = c.args.at in
    ap (λ (l : List ℕ). get_or l ((at - 3) % 2) 0) c.number_bytes.ensures
    ∙ ap (λ (k : ℕ). get_or (number 2 k) ((at - 3) % 2) 0) (c.number.ensures text v h)
    ∙ number_at h at (omega arith) (omega arith)
