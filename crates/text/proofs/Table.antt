-- A rule of a table, proved at all of its entries by one test that antt computes. Assumes nothing.
use mathlib.Core.Path.{◌≡◌, ◌∙◌, subst, sym}
use mathlib.Core.Bool.{Bool, true, ◌&&◌}
use mathlib.Core.List.{List, [], ◌∷◌}
use Prim.Native.Nat.{ℕ, zero, suc, ◌+◌, ◌<◌}
use native.Mathlib.Nat.{add-zero, zero-add, add-suc, suc-add, le_of_suc-le-suc, not-suc-le-zero}
use lib.ListN.{length, get_or}
use Rattle.rules.proofs.Bools.{and_left, and_right}

-- the values of f at n places from i on
abbrev pub listed : (ℕ → ℕ) → ℕ → ℕ → List ℕ
listed f zero i = []
listed f (suc n) i = f i ∷ listed f n (suc i)

-- the test passes at each place, counted from i, and the entry there
abbrev pub every : (ℕ → ℕ → Bool) → ℕ → List ℕ → Bool
every test i [] = true
every test i (x ∷ xs) = test i x && every test (suc i) xs

from : (test : ℕ → ℕ → Bool) (xs : List ℕ) (i : ℕ) → every test i xs ≡ true → (k : ℕ) → k < length xs → test (i + k) (get_or xs k 0) ≡ true
from test [] i e k h = absurd (not-suc-le-zero h)
from test (x ∷ xs) i e zero h = subst (λ (m : ℕ). test m x ≡ true) (sym (add-zero i)) (and_left (test i x) (every test (suc i) xs) e)
from test (x ∷ xs) i e (suc k) h =
    subst (λ (m : ℕ). test m (get_or xs k 0) ≡ true) (suc-add i k ∙ sym (add-suc i k))
    (from test xs (suc i) (and_right (test i x) (every test (suc i) xs) e) k (le_of_suc-le-suc h))

pub entry : (test : ℕ → ℕ → Bool) (xs : List ℕ) → every test 0 xs ≡ true → (k : ℕ) → k < length xs → test k (get_or xs k 0) ≡ true
entry test xs e k h = subst (λ (m : ℕ). test m (get_or xs k 0) ≡ true) (zero-add k) (from test xs 0 e k h)
