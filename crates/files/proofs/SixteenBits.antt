-- Every number of a file fits 16 bits, where the text's bytes and the table's nodes are counted in 16 bits. Assumes nothing.
use mathlib.Core.List.{List}
use mathlib.Core.Option.{some}
use Prim.Native.Nat.{ℕ, ◌^◌, ◌≤◌, ◌<◌}
use native.Mathlib.Omega.{arith}
use Rattle.rules.specs.Every.{Every, none, also}
use Rattle.grammar.specs.Tree.{Value}
use Rattle.grammar.specs.Nodes.{Node}
use Rattle.grammar.proofs.Bounds.{kind_small, role_small, Bounded}
use Rattle.reading.specs.declared.Answer.{Answer}
use Rattle.reading.specs.declared.Rules.{Rules}
use Rattle.reading.specs.Answers.{accepted}
use Rattle.reading.proofs.Within.{nodes_within}
use Rattle.files.specs.File.{version, six_words, row}
use Rattle.files.specs.Writes.{Read}

abbrev Fits : ℕ → Type 0
Fits n = n < 2 ^ 16

fits : {n m : ℕ} → n ≤ m → Fits m → Fits n
fits h k = omega (arith, h, k)

six_fit : {reach size : ℕ} → Fits reach → Fits size → {ns : List Node} → Every (Bounded reach size) ns → Every Fits (six_words ns)
six_fit r s none = none
six_fit {reach} {size} r s (also {x = n} b e) =
    let parent : n.parent ≤ size = omega (arith, b.parent_inside) in
    also (fits (kind_small n.kind) (omega arith)) (also (fits b.first_before r) (also (fits b.end_before r)
    (also (fits parent s) (also (fits (role_small n.role) (omega arith)) (also (fits b.detail_small (omega arith)) (six_fit r s e))))))

pub row_fits : (rules : Rules) (text : List ℕ) {a : Answer} {v : Value} → Fits rules.text → Fits rules.nodes → Read rules text a (some v) → Every Fits (row text v)
row_fits rules text s t (accepted {l} k h w a m) =
    let one : Fits version = omega arith in
    also one (also (fits m t) (also (fits h s) (six_fit (fits h s) (fits m t) (nodes_within rules.limits l text a))))
