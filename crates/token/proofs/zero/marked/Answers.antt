-- `token::zero::marked` meets its contract. Assumes nothing.
use Rattle.token.proofs.Dispatch.{bits_is, blob_is, code_is, zero_only}
use mathlib.Core.Path.{refl}
use Rattle.token.proofs.zero.marked.Goals as goal

pub returns-in-Some : goal.returns-in-Some
returns-in-Some c = (refl, bits_is _ c.in-Some.ensures)

pub returns-in-Some-blob : goal.returns-in-Some-blob
returns-in-Some-blob c = (refl, blob_is _ c.in-Some-blob.ensures)

pub returns-in-Some-code_point : goal.returns-in-Some-code_point
returns-in-Some-code_point c = (refl, code_is _ c.in-Some-code_point.ensures)

pub number_token-requires : goal.number_token-requires
number_token-requires c = (c.requires.0.0, zero_only _ c.requires.0 c.requires.1 c.in_default.ensures c.in_default-blob.ensures c.in_default-code_point.ensures)
