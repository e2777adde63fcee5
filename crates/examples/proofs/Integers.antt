-- Whether an Integer literal has a size, computed. Assumes nothing.
use mathlib.Core.Path.{◌≡◌, refl, subst}
use mathlib.Core.Bool.{Bool, true, cond}
use mathlib.Core.List.{List}
use Prim.Native.Nat.{ℕ}
use lib.Dec.{eqb}
use lib.IntN.{ℤ, pos, neg_ℤ}
use lib.ListN.{get_or}
use Rattle.lexicon.specs.Literals.{sign}
use Rattle.lexicon.specs.Values.{Number, IntegerOf}
use Rattle.decisions.proofs.Tests.{equal}
use Rattle.decisions.proofs.Cuts.{leads, cut}
use Rattle.decisions.proofs.Digits.{number_test, number}

module _ (text : List ℕ) where
  -- the integer of an Integer literal whose number has the size v
  abbrev pub signed_at : ℕ → ℕ → ℤ
  signed_at i v = cond (eqb (get_or text i 0) 0x2D) (neg_ℤ (pos v)) (pos v)

  abbrev pub size_is : ℕ → ℕ → ℕ → Bool
  size_is i j v = leads text sign i (λ s. number_test text (λ u. eqb u v) s j)

  pub integer_is : (i j v : ℕ) → size_is i j v ≡ true → IntegerOf text i j (signed_at i v)
  integer_is i j v e =
      let x =
      (cut text sign i (λ s. number_test text (λ u. eqb u v) s j) (λ s. (u : ℕ) × Number text s j u × (u ≡ v))
      (λ s t. number text (λ u. eqb u v) (λ u. u ≡ v) (λ u. equal u v) s j)).true_holds e in
      record { start = x.0; before = x.1; size = v; number = subst (λ (u : ℕ). Number text x.0 j u) x.2.2 x.2.1; value_is = refl }
