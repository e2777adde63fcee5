-- Numbers written over others, by pieces and one by one. Assumes nothing.
use mathlib.Core.Path.{◌≡◌, refl, ap, ◌∙◌}
use mathlib.Core.List.{List, [], ◌∷◌, ◌++◌}
use Prim.Native.Nat.{ℕ, zero, suc, ◌+◌, ◌≤◌, ◌<◌}
use native.Mathlib.Omega.{arith}
use lib.ListN.{length, set, get_or, drop}
use Rattle.rules.specs.Over.{over}

pub over_length : (t : List ℕ) (k : ℕ) (ws : List ℕ) → length (over t k ws) ≡ length t
over_length [] k ws = refl
over_length (x ∷ t) zero [] = refl
over_length (x ∷ t) zero (w ∷ ws) = ap suc (over_length t zero ws)
over_length (x ∷ t) (suc k) ws = ap suc (over_length t k ws)

pub over_nothing : (t : List ℕ) (k : ℕ) → over t k [] ≡ t
over_nothing [] k = refl
over_nothing (x ∷ t) zero = refl
over_nothing (x ∷ t) (suc k) = ap (λ (l : List ℕ). x ∷ l) (over_nothing t k)

-- nothing fits behind the end
pub over_past : (t : List ℕ) (k : ℕ) (ws : List ℕ) → length t ≤ k → over t k ws ≡ t
over_past [] k ws h = refl
over_past (x ∷ t) zero ws h = absurd (omega arith)
over_past (x ∷ t) (suc k) ws h = ap (λ (l : List ℕ). x ∷ l) (over_past t k ws (omega arith))

-- the first of them last
pub over_first : (t : List ℕ) (k j w : ℕ) (ws : List ℕ) → j ≡ k + 1 → over t k (w ∷ ws) ≡ set (over t j ws) k w
over_first [] k j w ws e = refl
over_first (x ∷ t) k zero w ws e = absurd (omega arith)
over_first (x ∷ t) zero (suc j) w ws e = ap (λ (m : ℕ). w ∷ over t m ws) (omega arith)
over_first (x ∷ t) (suc k) (suc j) w ws e = ap (λ (l : List ℕ). x ∷ l) (over_first t k j w ws (omega arith))

pub over_one : (t : List ℕ) (k w : ℕ) → over t k (w ∷ []) ≡ set t k w
over_one t k w = over_first t k (k + 1) w [] refl ∙ ap (λ (l : List ℕ). set l k w) (over_nothing t (k + 1))

-- two pieces, the front first
pub over_append : (t : List ℕ) (k j : ℕ) (ws vs : List ℕ) → j ≡ k + length ws → over t k (ws ++ vs) ≡ over (over t k ws) j vs
over_append [] k j ws vs e = refl
over_append (x ∷ t) zero zero [] vs e = refl
over_append (x ∷ t) zero (suc j) [] vs e = absurd (omega arith)
over_append (x ∷ t) zero zero (w ∷ ws) vs e = absurd (omega arith)
over_append (x ∷ t) zero (suc j) (w ∷ ws) vs e = ap (λ (l : List ℕ). w ∷ l) (over_append t zero j ws vs (omega arith))
over_append (x ∷ t) (suc k) zero ws vs e = absurd (omega arith)
over_append (x ∷ t) (suc k) (suc j) ws vs e = ap (λ (l : List ℕ). x ∷ l) (over_append t k j ws vs (omega arith))

-- pieces that lie apart, in either order
pub over_swap : (t : List ℕ) (k j : ℕ) (ws vs : List ℕ) → k + length ws ≤ j → over (over t j vs) k ws ≡ over (over t k ws) j vs
over_swap [] k j ws vs h = refl
over_swap (x ∷ t) zero j [] vs h = over_nothing (over (x ∷ t) j vs) zero
over_swap (x ∷ t) zero zero (w ∷ ws) vs h = absurd (omega arith)
over_swap (x ∷ t) zero (suc j) (w ∷ ws) vs h = ap (λ (l : List ℕ). w ∷ l) (over_swap t zero j ws vs (omega arith))
over_swap (x ∷ t) (suc k) zero ws vs h = absurd (omega arith)
over_swap (x ∷ t) (suc k) (suc j) ws vs h = ap (λ (l : List ℕ). x ∷ l) (over_swap t k j ws vs (omega arith))

-- a piece over a shorter one
pub over_again : (t : List ℕ) (k : ℕ) (ws vs : List ℕ) → length ws ≤ length vs → over (over t k ws) k vs ≡ over t k vs
over_again [] k ws vs h = refl
over_again (x ∷ t) zero [] vs h = refl
over_again (x ∷ t) zero (w ∷ ws) [] h = absurd (omega arith)
over_again (x ∷ t) zero (w ∷ ws) (v ∷ vs) h = ap (λ (l : List ℕ). v ∷ l) (over_again t zero ws vs (omega arith))
over_again (x ∷ t) (suc k) ws vs h = ap (λ (l : List ℕ). x ∷ l) (over_again t k ws vs h)

-- what stands before them, and each of them
pub over_before : (t : List ℕ) (k j : ℕ) (ws : List ℕ) → j < k → get_or (over t k ws) j 0 ≡ get_or t j 0
over_before [] k j ws h = refl
over_before (x ∷ t) zero j ws h = absurd (omega arith)
over_before (x ∷ t) (suc k) zero ws h = refl
over_before (x ∷ t) (suc k) (suc j) ws h = over_before t k j ws (omega arith)

pub over_at : (t : List ℕ) (k j m : ℕ) (ws : List ℕ) → j ≡ k + m → m < length ws → j < length t → get_or (over t k ws) j 0 ≡ get_or ws m 0
over_at [] k j m ws e h g = absurd (omega arith)
over_at (x ∷ t) zero j m [] e h g = absurd (omega arith)
over_at (x ∷ t) zero zero zero (w ∷ ws) e h g = refl
over_at (x ∷ t) zero zero (suc m) (w ∷ ws) e h g = absurd (omega arith)
over_at (x ∷ t) zero (suc j) zero (w ∷ ws) e h g = absurd (omega arith)
over_at (x ∷ t) zero (suc j) (suc m) (w ∷ ws) e h g = over_at t zero j m ws (omega arith) (omega arith) (omega arith)
over_at (x ∷ t) (suc k) zero m ws e h g = absurd (omega arith)
over_at (x ∷ t) (suc k) (suc j) m ws e h g = over_at t k j m ws (omega arith) h (omega arith)

-- one of them, changed
pub over_set : (t : List ℕ) (k j m v : ℕ) (ws : List ℕ) → j ≡ k + m → m < length ws → set (over t k ws) j v ≡ over t k (set ws m v)
over_set [] k j m v ws e h = refl
over_set (x ∷ t) zero j m v [] e h = absurd (omega arith)
over_set (x ∷ t) zero zero zero v (w ∷ ws) e h = refl
over_set (x ∷ t) zero zero (suc m) v (w ∷ ws) e h = absurd (omega arith)
over_set (x ∷ t) zero (suc j) zero v (w ∷ ws) e h = absurd (omega arith)
over_set (x ∷ t) zero (suc j) (suc m) v (w ∷ ws) e h = ap (λ (l : List ℕ). w ∷ l) (over_set t zero j m v ws (omega arith) (omega arith))
over_set (x ∷ t) (suc k) zero m v ws e h = absurd (omega arith)
over_set (x ∷ t) (suc k) (suc j) m v ws e h = ap (λ (l : List ℕ). x ∷ l) (over_set t k j m v ws (omega arith) h)

-- from the start on
pub over_start : (t ws : List ℕ) (n : ℕ) → n ≡ length ws → n ≤ length t → over t zero ws ≡ ws ++ drop n t
over_start [] [] zero e h = refl
over_start [] [] (suc n) e h = absurd (omega arith)
over_start [] (w ∷ ws) n e h = absurd (omega arith)
over_start (x ∷ t) [] zero e h = refl
over_start (x ∷ t) [] (suc n) e h = absurd (omega arith)
over_start (x ∷ t) (w ∷ ws) zero e h = absurd (omega arith)
over_start (x ∷ t) (w ∷ ws) (suc n) e h = ap (λ (l : List ℕ). w ∷ l) (over_start t ws n (omega arith) (omega arith))

-- a number behind others, changed
pub set_behind : (a b : List ℕ) (j m v : ℕ) → j ≡ length a + m → set (a ++ b) j v ≡ a ++ set b m v
set_behind [] b j m v e = ap (λ (n : ℕ). set b n v) (omega arith)
set_behind (x ∷ a) b zero m v e = absurd (omega arith)
set_behind (x ∷ a) b (suc j) m v e = ap (λ (l : List ℕ). x ∷ l) (set_behind a b j m v (omega arith))
