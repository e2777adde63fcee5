-- Numbers of 16 bits can be read back from their two bytes, so a file tells its numbers. Assumes nothing.
use mathlib.Core.Path.{◌≡◌, refl, ap}
use mathlib.Core.List.{List, ◌∷◌}
use Prim.Native.Nat.{ℕ, ◌^◌, ◌<◌}
use native.Mathlib.Omega.{arith}
use lib.ListN.{length, get_or, drop}
use Rattle.rules.specs.Every.{Every, none, also}
use Rattle.files.specs.File.{numbers}

-- a number from its two bytes
one_number : (m n : ℕ) (ms ns : List ℕ) → m < 2 ^ 16 → n < 2 ^ 16 → numbers 2 (m ∷ ms) ≡ numbers 2 (n ∷ ns) → m ≡ n
one_number m n ms ns h k e =
    omega (arith, h, k, ap (λ (l : List ℕ). get_or l 0 0) e, ap (λ (l : List ℕ). get_or l 1 0) e)

pub one_row : {ms ns : List ℕ} → Every (λ (n : ℕ). n < 2 ^ 16) ms → Every (λ (n : ℕ). n < 2 ^ 16) ns → numbers 2 ms ≡ numbers 2 ns → ms ≡ ns
one_row none none e = refl
one_row none (also h y) e = absurd (omega (arith, ap length e))
one_row (also h x) none e = absurd (omega (arith, ap length e))
one_row (also {x = m} {xs = ms} h x) (also {x = n} {xs = ns} k y) e =
    let a : m ≡ n = one_number m n ms ns h k e in
    let b : ms ≡ ns = one_row x y (ap (drop 2) e) in
    λ i. a i ∷ b i
