-- `number::blob::blob` meets its contract. Assumes nothing.
use native.Mathlib.Omega.{arith}
use Rattle.number.specs.Groups.{OfDigits}
use Rattle.number.proofs.Blobs.{one_third, blob_binary, blob_hexadecimal, blob_base64, blob_none}
use Rattle.number.proofs.blob.blob.Goals as goal

pub returns-in_err-third : goal.returns-in_err-third
returns-in_err-third c = let n = c.in_err-third.ensures in rw c.from_residual.ensures (blob_none _ (n 0x62) (n 0x78) (n 0x79))

pub tail_at-requires : goal.tail_at-requires
tail_at-requires c = (omega arith, OfDigits.binary)

pub tail_at-requires-in-120 : goal.tail_at-requires-in-120
tail_at-requires-in-120 c = (omega arith, OfDigits.hexadecimal)

pub tail_at-end-requires : goal.tail_at-end-requires
tail_at-end-requires c = (omega arith, OfDigits.base64)

pub returns-in-98 : goal.returns-in-98
returns-in-98 c = blob_binary _ _ _ (rw c.in-98.is at c.in_ok-third.ensures) c.tail_at.ensures

pub returns-in-120 : goal.returns-in-120
returns-in-120 c = blob_hexadecimal _ _ _ (rw c.in-120.is at c.in_ok-third.ensures) c.tail_at-in-120.ensures

pub returns-in-121 : goal.returns-in-121
returns-in-121 c = blob_base64 _ (rw c.in-121.is at c.in_ok-third.ensures) c.tail_at-end.ensures c.is_unfit.ensures

pub returns-in_default : goal.returns-in_default
returns-in_default c = let m = c.in_ok-third.ensures in
    blob_none _ (λ t. omega (arith, one_third _ m t)) (λ t. omega (arith, one_third _ m t)) (λ t. omega (arith, one_third _ m t))
