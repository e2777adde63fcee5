-- The forms of a level. Assumes nothing.
use mathlib.Core.Path.{◌≡◌, refl, sym, subst}
use mathlib.Core.Bool.{true, false}
use Prim.Native.Nat.{ℕ}
use Rattle.grammar.specs.Level.{Feature, Level, level1, level2, arrays, sets, bags, intervals, left_arrows}
use Rattle.reading.specs.Answers.{LevelOf, first, second}
use Rattle.moves.specs.Means.{level_of}

-- a level by its number and its forms
level_same : {n m : ℕ} {l k : Level} → n ≡ m → ((f : Feature) → l f ≡ k f) → LevelOf m l → LevelOf n k
level_same {n} {m} {l} {k} e h x = subst (λ (y : ℕ). LevelOf y k) (sym e) (subst (λ (y : Level). LevelOf m y) (λ i f. h f i) x)

pub first_level : {n : ℕ} → n ≡ 1 → LevelOf n (level_of (record { arrays = false; sets = false; bags = false; intervals = false; leftward = true }))
first_level e = level_same e by first
  where
    by : (f : Feature) → level1 f ≡ level_of (record { arrays = false; sets = false; bags = false; intervals = false; leftward = true }) f
    by arrays = refl
    by sets = refl
    by bags = refl
    by intervals = refl
    by left_arrows = refl

pub second_level : {n : ℕ} → n ≡ 2 → LevelOf n (level_of (record { arrays = true; sets = true; bags = true; intervals = true; leftward = true }))
second_level e = level_same e by second
  where
    by : (f : Feature) → level2 f ≡ level_of (record { arrays = true; sets = true; bags = true; intervals = true; leftward = true }) f
    by arrays = refl
    by sets = refl
    by bags = refl
    by intervals = refl
    by left_arrows = refl
