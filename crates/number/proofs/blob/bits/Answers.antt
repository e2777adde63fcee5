-- `number::blob::bits` meets its contract. Assumes nothing.
use native.Mathlib.Omega.{arith}
use Rattle.number.specs.Groups.{OfDigits}
use Rattle.number.proofs.Blobs.{one_third, bits_binary, bits_octal, bits_hexadecimal, bits_none}
use Rattle.number.proofs.blob.bits.Goals as goal

pub returns-in_err-third : goal.returns-in_err-third
returns-in_err-third c = let n = c.in_err-third.ensures in rw c.from_residual.ensures (bits_none _ (n 0x62) (n 0x6F) (n 0x78))

pub tail_at-requires : goal.tail_at-requires
tail_at-requires c = (omega arith, OfDigits.binary)

pub tail_at-requires-in-111 : goal.tail_at-requires-in-111
tail_at-requires-in-111 c = (omega arith, OfDigits.octal)

pub tail_at-requires-in-120 : goal.tail_at-requires-in-120
tail_at-requires-in-120 c = (omega arith, OfDigits.hexadecimal)

pub returns-in-98 : goal.returns-in-98
returns-in-98 c = bits_binary _ _ _ (rw c.in-98.is at c.in_ok-third.ensures) c.tail_at.ensures

pub returns-in-111 : goal.returns-in-111
returns-in-111 c = bits_octal _ _ _ (rw c.in-111.is at c.in_ok-third.ensures) c.tail_at-in-111.ensures

pub returns-in-120 : goal.returns-in-120
returns-in-120 c = bits_hexadecimal _ _ _ (rw c.in-120.is at c.in_ok-third.ensures) c.tail_at-in-120.ensures

pub returns-in_default : goal.returns-in_default
returns-in_default c = let m = c.in_ok-third.ensures in
    bits_none _ (λ t. omega (arith, one_third _ m t)) (λ t. omega (arith, one_third _ m t)) (λ t. omega (arith, one_third _ m t))
