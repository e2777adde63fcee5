-- `listing::list` meets its contract. Assumes nothing.
use mathlib.Core.Path.{refl, ap}
use Prim.Native.Nat.{ℕ}
use native.Mathlib.Omega.{arith}
use Rattle.buffer.proofs.Appending.{appends_same, appends_then, put_in}
use Rattle.listing.specs.Listing.{head_line}
use Rattle.listing.proofs.Lines.{list_refused, list_accepted}
use Rattle.listing.proofs.list.Goals as goal

pub returns-then-answer-ne0 : goal.returns-then-answer-ne0
returns-then-answer-ne0 c =
    let a = c.read-answer.result in
    list_refused a c.read-answer.ensures (omega (arith, c.well_formed)) c.if-answer-ne0.true (omega arith) (omega arith)
    (put_in c.new-writer.ensures (appends_same (ap (λ (n : ℕ). head_line 110 111 n a.place) c.from.ensures) c.head.ensures) (λ _. refl))

pub returns : goal.returns
returns c =
    let a = c.read-answer.result in
    list_accepted a c.read-answer.ensures (omega (arith, c.well_formed)) c.if-answer-ne0.false (omega arith) (omega arith) c.nodes.ensures.short
    (put_in c.new-writer.ensures (appends_then (appends_same (ap (λ (n : ℕ). head_line 111 107 n a.count) c.from-2.ensures) c.head-2.ensures) c.nodes.ensures.wrote) (λ _. refl))
