-- Decimal digits, one more at a time, and how many there are; and that what std prints of a number are its digits. Assumes nothing.
use mathlib.Core.Path.{◌≡◌, refl, sym, ap, ◌∙◌}
use mathlib.Core.Bool.{Bool, true, false, cond}
use mathlib.Core.List.{List, [], ◌∷◌, ◌++◌}
use Prim.Native.Nat.{ℕ, zero, suc, ◌/◌, ◌%◌, ◌^◌, ◌≤◌, ◌<◌}
use native.Mathlib.Nat.{pow-succ'}
use native.Mathlib.Omega.{arith}
use lib.Dec.{ltb}
use lib.ListN.{length, length-append}
use borrow.Author.Tests.{ltb-true, ltb-false, lt-ltb, le-ltb}
use Rattle.std.specs.Fmt as Std
use Rattle.std.proofs.lemmas.Fmt.{AppendsLastDigit, decimal_from_appends, length-decimal-le_succ}
use Rattle.listing.specs.Listing.{digit, digits, decimal}

last_digit : (k n : ℕ) → n < 10 → digits (suc k) n ≡ digit n ∷ []
unfolding digits
last_digit k n h = ap (λ (b : Bool). cond b (digit n ∷ []) (digits k (n / 10) ++ (digit (n % 10) ∷ []))) (lt-ltb n 10 h)

more_digits : (k n : ℕ) → 10 ≤ n → digits (suc k) n ≡ digits k (n / 10) ++ (digit (n % 10) ∷ [])
unfolding digits
more_digits k n h = ap (λ (b : Bool). cond b (digit n ∷ []) (digits k (n / 10) ++ (digit (n % 10) ∷ []))) (le-ltb n 10 h)

-- any number of digits above n is enough
enough : (k j n : ℕ) → n < k → n < j → digits k n ≡ digits j n
enough zero j n h g = absurd (omega arith)
enough (suc k) zero n h g = absurd (omega arith)
enough (suc k) (suc j) n h g = go (ltb n 10) refl (enough k j (n / 10))
  where
    go : (b : Bool) → ltb n 10 ≡ b → (n / 10 < k → n / 10 < j → digits k (n / 10) ≡ digits j (n / 10)) → digits (suc k) n ≡ digits (suc j) n
    go true e _ = last_digit k n (ltb-true n 10 e) ∙ sym (last_digit j n (ltb-true n 10 e))
    go false e less =
        let big : 10 ≤ n = ltb-false n 10 e in
        more_digits k n big ∙ ap (λ (l : List ℕ). l ++ (digit (n % 10) ∷ [])) (less (omega arith) (omega arith)) ∙ sym (more_digits j n big)

pub decimal_one : (n : ℕ) → n < 10 → decimal n ≡ digit n ∷ []
decimal_one n h = last_digit n n h

pub decimal_more : (n : ℕ) → 10 ≤ n → decimal n ≡ decimal (n / 10) ++ (digit (n % 10) ∷ [])
decimal_more n h = more_digits n n h ∙ ap (λ (l : List ℕ). l ++ (digit (n % 10) ∷ [])) (enough n (suc (n / 10)) (n / 10) (omega arith) (omega arith))

-- a number below 10, 100, 1,000 and so on has at most 1, 2, 3 and so on digits
pub decimal_short : (k n : ℕ) → n < 10 ^ suc k → length (decimal n) ≤ suc k
decimal_short zero n h = omega (arith, ap length (decimal_one n (omega arith)))
decimal_short (suc k) n h = go (ltb n 10) refl (decimal_short k (n / 10))
  where
    go : (b : Bool) → ltb n 10 ≡ b → (n / 10 < 10 ^ suc k → length (decimal (n / 10)) ≤ suc k) → length (decimal n) ≤ suc (suc k)
    go true e _ = omega (arith, ap length (decimal_one n (ltb-true n 10 e)))
    go false e less =
        omega (
          arith,
          less (omega (arith, pow-succ' 10 (suc k))),
          simp length-append at (ap length (decimal_more n (ltb-false n 10 e))),
        )

last_first : AppendsLastDigit digits
last_first = record { one = last_digit; more = more_digits }

pub printed : (n : ℕ) → n < 2 ^ 64 → Std.decimal n ≡ decimal n
printed n h = sym (decimal_from_appends digits last_first (suc n) n h (omega (arith, length-decimal-le_succ n h)))
