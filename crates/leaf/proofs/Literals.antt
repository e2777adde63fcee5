-- A byte of a literal: whether it is dropped, and what it leaves of the literal. Assumes nothing.
use mathlib.Core.Path.{◌≡◌, refl, sym}
use mathlib.Core.Logic.{⊎_elim}
use mathlib.Core.Bool.{Bool, true, false, cond}
use mathlib.Core.List.{List, [], ◌∷◌, ◌++◌}
use Prim.Native.Nat.{ℕ}
use Rattle.rules.specs.Class.{◌upto◌, has, In}
use Rattle.rules.proofs.Bools.{decide}
use Rattle.rules.proofs.Classes.{just_is, in_cons}
use Rattle.form.specs.Bare.{Where, behind, dropped, kept, bare_from}
use Rattle.leaf.specs.Bare.{kept_bytes}

-- a byte of a class of six, by the numbers
one_of_six : (x y z u v w b : ℕ) →
    In (x upto x ∷ y upto y ∷ z upto z ∷ u upto u ∷ v upto v ∷ w upto w ∷ []) b →
    (b ≡ x → ⊥) → (b ≡ y → ⊥) → (b ≡ z → ⊥) → (b ≡ u → ⊥) → (b ≡ v → ⊥) → (b ≡ w → ⊥) → ⊥
one_of_six x y z u v w b i f g h k l m =
    ⊎_elim (λ i. f (just_is x b i)) (λ i.
    ⊎_elim (λ i. g (just_is y b i)) (λ i.
    ⊎_elim (λ i. h (just_is z b i)) (λ i.
    ⊎_elim (λ i. k (just_is u b i)) (λ i.
    ⊎_elim (λ i. l (just_is v b i)) (λ i. m (just_is w b i))
    (in_cons (v upto v) (w upto w ∷ []) b i))
    (in_cons (u upto u) (v upto v ∷ w upto w ∷ []) b i))
    (in_cons (z upto z) (u upto u ∷ v upto v ∷ w upto w ∷ []) b i))
    (in_cons (y upto y) (z upto z ∷ u upto u ∷ v upto v ∷ w upto w ∷ []) b i))
    (in_cons (x upto x) (y upto y ∷ z upto z ∷ u upto u ∷ v upto v ∷ w upto w ∷ []) b i)

pub not_dropped : (b : ℕ) → (b ≡ 0x09 → ⊥) → (b ≡ 0x0A → ⊥) → (b ≡ 0x0D → ⊥) → (b ≡ 0x20 → ⊥) → (b ≡ 0x60 → ⊥) → (b ≡ 0x5F → ⊥) →
    false ≡ has dropped b
not_dropped b f g h k l m =
    ⊎_elim (λ i. absurd (one_of_six 0x09 0x0A 0x0D 0x20 0x60 0x5F b i f g h k l m)) (λ e. sym e) (decide (has dropped b))

-- what one byte leaves, in front of the rest
pub bare_next : (w : Where) (b : ℕ) (bs : List ℕ) → bare_from w (b ∷ bs) ≡ kept_bytes w b ++ bare_from (behind w b) bs
unfolding bare_from
bare_next w b bs = either_way (kept w b) b (bare_from (behind w b) bs)
  where
    either_way : (c : Bool) (x : ℕ) (xs : List ℕ) → cond c (x ∷ xs) xs ≡ cond c (x ∷ []) [] ++ xs
    either_way true x xs = refl
    either_way false x xs = refl

pub bare_none : (w : Where) → bare_from w [] ≡ []
unfolding bare_from
bare_none w = refl
