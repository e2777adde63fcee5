-- Whether a Fraction's value is bad: a denominator 0, a radix below 2. Assumes nothing.
use mathlib.Core.Path.{◌≡◌, refl, subst}
use mathlib.Core.Bool.{Bool, ◌&&◌}
use mathlib.Core.List.{List}
use Prim.Native.Nat.{ℕ, ◌<◌}
use lib.Dec.{ltb, eqb}
use Rattle.rules.specs.Test.{Says}
use Rattle.rules.specs.Rule.{◌then◌, opt, Takes}
use Rattle.lexicon.specs.Literals.{nonsigned, integer, significand, spaced, power}
use Rattle.lexicon.specs.Values.{Number}
use Rattle.lexicon.specs.Bad.{ZeroDenominator, SmallRadix}
use Rattle.decisions.proofs.Tests.{by, and, equal, below}
use Rattle.decisions.proofs.Cuts.{reaches, takes, leads, cut}
use Rattle.decisions.proofs.Digits.{number_test, number, number_takes}

module _ (text : List ℕ) where
  abbrev zero_up_to : ℕ → ℕ → ℕ → Bool
  zero_up_to j s e = reaches text (opt power) e j && number_test text (λ v. eqb v 0) s e

  abbrev Zero : ℕ → ℕ → ℕ → Type 0
  Zero j s e = Takes text (opt power) e j × ((v : ℕ) × Number text s e v × (v ≡ 0))

  abbrev pub over_zero : ℕ → ℕ → Bool
  over_zero i j = leads text (integer then spaced "/") i (λ s. leads text nonsigned s (zero_up_to j s))

  pub over_zero_lem : (i j : ℕ) → Says (over_zero i j) (ZeroDenominator text i j)
  over_zero_lem i j =
      by (λ x. record { start = x.0; end = x.2.0; before = x.1; zero = subst (λ (v : ℕ). Number text x.0 x.2.0 v) x.2.2.1.2 x.2.2.1.1; behind = x.2.2.0 })
      (λ x. (x.start, x.before, (x.end, number_takes text x.zero, (x.behind, (0, x.zero, refl)))))
      (cut text (integer then spaced "/") i (λ s. leads text nonsigned s (zero_up_to j s)) (λ s. (e : ℕ) × Takes text nonsigned s e × Zero j s e)
      (λ s t.
      cut text nonsigned s (zero_up_to j s) (Zero j s) (λ e u. and (takes text (opt power) e j) (number text (λ v. eqb v 0) (λ v. v ≡ 0) (λ v. equal v 0) s e))))

  abbrev small_up_to : ℕ → ℕ → ℕ → Bool
  small_up_to j s e = reaches text (spaced "^" then integer) e j && number_test text (λ v. ltb v 2) s e

  abbrev Small : ℕ → ℕ → ℕ → Type 0
  Small j s e = Takes text (spaced "^" then integer) e j × ((v : ℕ) × Number text s e v × (v < 2))

  abbrev pub small_radix : ℕ → ℕ → Bool
  small_radix i j = leads text (significand then spaced "*") i (λ s. leads text nonsigned s (small_up_to j s))

  pub small_radix_lem : (i j : ℕ) → Says (small_radix i j) (SmallRadix text i j)
  small_radix_lem i j =
      by (λ x. record { start = x.0; end = x.2.0; before = x.1; radix = x.2.2.1.0; number = x.2.2.1.1; small = x.2.2.1.2; behind = x.2.2.0 })
      (λ x. (x.start, x.before, (x.end, number_takes text x.number, (x.behind, (x.radix, x.number, x.small)))))
      (cut text (significand then spaced "*") i (λ s. leads text nonsigned s (small_up_to j s)) (λ s. (e : ℕ) × Takes text nonsigned s e × Small j s e)
      (λ s t.
      cut text nonsigned s (small_up_to j s) (Small j s)
      (λ e u. and (takes text (spaced "^" then integer) e j) (number text (λ v. ltb v 2) (λ v. v < 2) (λ v. below v 2) s e))))
