-- Numbers below 2 ^ 63, whose sums a u64 has room for. Assumes nothing.
use Prim.Native.Nat.{ℕ, ◌+◌, ◌^◌, ◌<◌}
use native.Mathlib.Omega.{arith}
use lib.Bits.{bit_and, bit_xor, and_le_r, xor_lt}
use mir.Syntax.{w64}
use mir.Val.{Fits}

pub sum_fits : (a b : ℕ) → a < 2 ^ 63 → b < 2 ^ 63 → Fits w64 (a + b)
sum_fits a b h k = record { fits = omega arith }

-- the low bits of eight bytes, and what becomes of them
pub low_bits : (w : ℕ) → bit_and w 0x7F7F7F7F7F7F7F7F < 2 ^ 63
low_bits w = omega (arith, and_le_r w 0x7F7F7F7F7F7F7F7F)

pub xor_bits : (a b : ℕ) → a < 2 ^ 63 → b < 2 ^ 63 → bit_xor a b < 2 ^ 63
xor_bits = xor_lt 63

-- what `search` takes to close a sum's need
pub ruleset sums = (sum_fits, low_bits, xor_bits)
