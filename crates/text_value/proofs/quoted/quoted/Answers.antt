-- `text_value::quoted::quoted` meets its contract. Assumes nothing.
use native.Mathlib.Omega.{arith}
use Rattle.text_value.proofs.Walks.{walks_begin, walks_segment, walks_less, walks_end, walks_next}
use Rattle.text_value.proofs.quoted.quoted.Goals as goal

pub loop-i-init : goal.loop-i-init
loop-i-init c = walks_begin _ _ c.requires

pub segment-end-requires : goal.segment-end-requires
segment-end-requires c = walks_segment _ _ c.loop-i.invariant

pub returns-then-end-piece : goal.returns-then-end-piece
returns-then-end-piece c = walks_end _ _ c.loop-i.invariant c.segment-end.ensures c.if-end-piece.true

pub loop-i-smaller : goal.loop-i-smaller
loop-i-smaller c = omega (arith, walks_less _ _ c.loop-i.invariant c.segment-end.ensures c.space-i.ensures)

pub loop-i-preserved : goal.loop-i-preserved
loop-i-preserved c = walks_next _ _ c.loop-i.invariant c.segment-end.ensures c.if-end-piece.false c.space-i.ensures
