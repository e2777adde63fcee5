-- A choice by a number: what is chosen where it is this one, and where it is not; a number that is one of few. Assumes nothing.
use mathlib.Core.Path.{◌≡◌, ap, sym, subst}
use mathlib.Core.Bool.{Bool, cond}
use Prim.Native.Nat.{ℕ, ◌+◌, ◌≤◌}
use native.Mathlib.Decide.{dec_le}
use native.Mathlib.Omega.{arith}
use borrow.Author.Tests.{eq-eqb, ne_eqb}
use lib.Dec.{eqb}

pub chosen : {A : Type 0} (d x : ℕ) (a b : A) → d ≡ x → cond (eqb d x) a b ≡ a
chosen d x a b e = ap (λ (c : Bool). cond c a b) (eq-eqb d x e)

pub passed_by : {A : Type 0} (d x : ℕ) (a b : A) → (d ≡ x → ⊥) → cond (eqb d x) a b ≡ b
passed_by d x a b e = ap (λ (c : Bool). cond c a b) (ne_eqb d x e)

-- of a number it holds, since it is that one
pub as_this : (P : ℕ → Type 0) (n x : ℕ) → P x → n ≡ x → P n
as_this P n x p e = subst P (sym e) p

pub as_two : (P : ℕ → Type 0) (n x : ℕ) → P x → P (x + 1) → x ≤ n → n ≤ x + 1 → P n
as_two P n x p q l h = go (dec_le n x)
  where
    go : Dec (n ≤ x) → P n
    go (yes k) = as_this P n x p (omega arith)
    go (no k) = as_this P n (x + 1) q (omega arith)
