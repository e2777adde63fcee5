-- Bytes put into a buffer, one by one, one row behind another, and from its start on. Assumes nothing.
use mathlib.Core.Path.{◌≡◌, refl, sym, ap, subst, ◌∙◌}
use mathlib.Core.List.{List, [], ◌∷◌, ◌++◌}
use Prim.Native.Nat.{ℕ, suc, ◌+◌, ◌≤◌, ◌<◌, min}
use native.Mathlib.Decide.{dec_le}
use native.Mathlib.Omega.{arith}
use lib.ListN.{length, get_or, set, take, drop, length-append}
use lib.Seq.{take-suc}
use Rattle.rules.specs.Over.{over}
use Rattle.rules.proofs.Over.{over_length, over_nothing, over_past, over_one, over_append, over_start}
use Rattle.buffer.specs.Puts.{largest, Puts}

-- one byte that does not fit, and one that does
pub puts_past : (t : List ℕ) (k b n : ℕ) → length t ≤ k → length t ≤ largest → n ≡ min largest (k + 1) → Puts t k (b ∷ []) t n
puts_past t k b n h l e = record { bytes_are = sym (over_past t k (b ∷ []) h); ends = omega arith; within = l }

pub puts_one : (t : List ℕ) (k b : ℕ) → k < length t → length t ≤ largest → Puts t k (b ∷ []) (set t k b) (k + 1)
puts_one t k b h l = record { bytes_are = sym (over_one t k b); ends = omega arith; within = l }

pub puts_none : (t : List ℕ) (k : ℕ) → length t ≤ largest → k ≤ largest → Puts t k [] t k
puts_none t k l h = record { bytes_are = sym (over_nothing t k); ends = omega arith; within = l }

-- a row of bytes that is written in another way
pub puts_same : {t t' xs bs : List ℕ} {k n : ℕ} → xs ≡ bs → Puts t k xs t' n → Puts t k bs t' n
puts_same {t} {t'} {k = k} {n = n} e p = subst (λ (l : List ℕ). Puts t k l t' n) e p

pub puts_length : {t t' bs : List ℕ} {k n : ℕ} → Puts t k bs t' n → length t' ≡ length t
puts_length {t} {bs = bs} {k = k} p = ap length p.bytes_are ∙ over_length t k bs

-- one row of bytes behind another. The place behind the first is where it ends, or no byte fits there
over_then : (t : List ℕ) (k n : ℕ) (xs bs : List ℕ) → length t ≤ largest → n ≡ min largest (k + length xs) →
    over (over t k xs) n bs ≡ over t k (xs ++ bs)
over_then t k n xs bs l e = go (dec_le (length t) n)
  where
    go : Dec (length t ≤ n) → over (over t k xs) n bs ≡ over t k (xs ++ bs)
    go (yes h) =
        over_past (over t k xs) n bs (omega (arith, h, over_length t k xs))
        ∙ sym (over_past (over t k xs) (k + length xs) bs (omega (arith, h, e, over_length t k xs)))
        ∙ sym (over_append t k (k + length xs) xs bs refl)
    go (no h) = sym (over_append t k n xs bs (omega (arith, h, e, l)))

pub puts_then : {t u v : List ℕ} {k n m : ℕ} {xs bs : List ℕ} → Puts t k xs u n → Puts u n bs v m → Puts t k (xs ++ bs) v m
puts_then {t} {u} {v} {k} {n} {m} {xs} {bs} p q =
    record {
      bytes_are =
          q.bytes_are
          ∙ ap (λ (l : List ℕ). over l n bs) p.bytes_are
          ∙ over_then t k n xs bs p.within p.ends;
      ends = omega (arith, p.ends, q.ends, length-append xs bs);
      within = p.within;
    }

-- the bytes of a slice, one more
pub puts_next : (bytes : List ℕ) (i : ℕ) → i < length bytes → {t u v : List ℕ} {k n m : ℕ} → Puts t k (take i bytes) u n →
    Puts u n (get_or bytes i 0 ∷ []) v m → Puts t k (take (i + 1) bytes) v m
puts_next bytes i h p q =
    let e : suc i ≡ i + 1 = omega arith in
    puts_same (sym (take-suc bytes i 0 h) ∙ ap (λ (j : ℕ). take j bytes) e) (puts_then p q)

-- the place is that behind them all, where there is one
pub puts_ends : {t t' bs : List ℕ} {k n : ℕ} → Puts t k bs t' n → k + length bs ≤ largest → n ≡ k + length bs
puts_ends p h = omega (arith, p.ends)

-- from the start on, where they fit: they stand first, the rest stays
pub puts_start : {t t' bs : List ℕ} {n : ℕ} → Puts t 0 bs t' n → length bs ≤ length t → t' ≡ bs ++ drop (length bs) t
puts_start {t} {bs = bs} p h = p.bytes_are ∙ over_start t bs (length bs) refl h

-- over an empty part, which stays so
pub puts_empty : {t t' bs : List ℕ} {k n : ℕ} → Puts t k bs t' n → length t ≡ 0 → (rest : List ℕ) → t' ++ rest ≡ rest
puts_empty {t' = t'} p z rest = go t' (puts_length p ∙ z)
  where
    go : (l : List ℕ) → length l ≡ 0 → l ++ rest ≡ rest
    go [] e = refl
    go (x ∷ l) e = absurd (omega (arith, e))
