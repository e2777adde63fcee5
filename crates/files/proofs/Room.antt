-- A buffer with room for the file of the largest table is long enough for every text. Assumes nothing.
use mathlib.Core.Path.{◌≡◌}
use mathlib.Core.List.{List}
use mathlib.Core.Option.{none, some}
use Prim.Native.Nat.{ℕ, ◌+◌, ◌*◌, ◌≤◌}
use native.Mathlib.Omega.{arith}
use lib.ListN.{length}
use Rattle.grammar.specs.Tree.{Value}
use Rattle.grammar.specs.Nodes.{table}
use Rattle.reading.specs.declared.Answer.{Answer}
use Rattle.reading.specs.declared.Rules.{Rules}
use Rattle.reading.specs.Answers.{accepted}
use Rattle.files.specs.Writes.{Read, Writes, refused, no_room, written}
use Rattle.files.proofs.Bytes.{file_length}

module _ (rules : Rules) (text : List ℕ) where
  few : {a : Answer} {v : Value} → Read rules text a (some v) → length (table v) ≤ rules.nodes
  few (accepted l h w x k) = k

  -- so 8 is the reader's
  pub reader_eight : {lent left : List ℕ} {r : Answer} → 9 + 12 * rules.nodes ≤ length lent → Writes rules text lent r left → r.number ≡ 8 → Read rules text r none
  reader_eight h (refused x) e = x
  reader_eight h (no_room {v = v} x k) e = absurd (omega (arith, h, k, few x, file_length text v))
  reader_eight h (written x k) e = absurd (omega (arith, e))
