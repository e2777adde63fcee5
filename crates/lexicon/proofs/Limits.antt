-- A number counted up to a limit: digit by digit it comes to the number of all the digits, up to the limit. Assumes nothing.
use mathlib.Core.Path.{◌≡◌, refl, ap, ◌∙◌}
use mathlib.Core.List.{List, [], ◌∷◌, foldl}
use Prim.Native.Nat.{ℕ, zero, suc, ◌+◌, ◌*◌, ◌≤◌, min}
use native.Mathlib.Nat.{add-zero, mul-le-mul_left, mul-le-mul_right}
use native.Mathlib.Omega.{arith, min_cases}
use lib.ListN.{get_or}
use Rattle.lexicon.specs.Values.{read, digit, value_from}
use Rattle.lexicon.specs.Limited.{limit, limited}

-- one digit more, for any limit and any base: a number beyond the limit stays there, also in base 0, where only the digit counts
pub limit_step : (c r v d : ℕ) → min c (min c v * r + d) ≡ min c (v * r + d)
limit_step c zero v d = ap (λ (x : ℕ). min c (x + d)) (omega arith)
limit_step c (suc r) v d =
    min_cases c v (min c (min c v * suc r + d) ≡ min c (v * suc r + d))
    (λ le e.
    let x : c * 1 ≤ c * suc r = mul-le-mul_left c (omega arith) in
    let y : c * suc r ≤ v * suc r = mul-le-mul_right (suc r) le in
    rw e (omega arith))
    (λ le e. rw e refl)

-- all the digits
pub limited_value : (r v : ℕ) (ds : List ℕ) → foldl (limited r) (min limit v) ds ≡ min limit (value_from r v ds)
unfolding limited
limited_value r v [] = refl
limited_value r v (d ∷ ds) =
    ap (λ (s : ℕ). foldl (limited r) s ds) (limit_step limit r v (digit d)) ∙ limited_value r (v * r + digit d) ds

-- a sum over the bytes that are read, with one byte more
pub read_more : (f : ℕ → ℕ → ℕ) (text : List ℕ) (v i k : ℕ) → foldl f v (read text i (suc k)) ≡ f (foldl f v (read text i k)) (get_or text (i + k) 0)
read_more f text v i zero = rw add-zero
read_more f text v i (suc k) =
    read_more f text (f v (get_or text i 0)) (i + 1) k
    ∙ ap (λ (n : ℕ). f (foldl f (f v (get_or text i 0)) (read text (i + 1) k)) (get_or text n 0)) (omega arith)
