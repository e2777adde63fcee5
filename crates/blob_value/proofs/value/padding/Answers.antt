-- `blob_value::value::padding` meets its contract. Assumes nothing.
use native.Mathlib.Omega.{arith}
use Rattle.blob_value.proofs.Pieces.{mark_length, pads_none, pads_one, pads_two}
use Rattle.blob_value.proofs.value.padding.Goals as goal

pub overflow_sub-piece : goal.overflow_sub-piece
overflow_sub-piece c = omega (arith, mark_length _ c.args.mark c.requires)

pub returns-then-not-stands : goal.returns-then-not-stands
returns-then-not-stands c = pads_none _ c.args.mark c.requires c.in-BlobBase64.is c.stands.ensures c.if-not-stands.true

pub overflow_sub-piece-2 : goal.overflow_sub-piece-2
overflow_sub-piece-2 c = omega (arith, mark_length _ c.args.mark c.requires)

pub returns-then-stands : goal.returns-then-stands
returns-then-stands c = pads_two _ c.args.mark c.requires c.in-BlobBase64.is c.stands.ensures c.if-not-stands.false c.stands-2.ensures c.if-stands.true

pub returns-else-stands : goal.returns-else-stands
returns-else-stands c = pads_one _ c.args.mark c.requires c.in-BlobBase64.is c.stands.ensures c.if-not-stands.false c.stands-2.ensures c.if-stands.false
