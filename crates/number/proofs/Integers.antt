-- The Integer's longest match, by its number's. Assumes nothing.
use mathlib.Core.List.{List}
use Prim.Native.Nat.{ℕ}
use Rattle.rules.specs.Rule.{Longest, Fails}
use Rattle.lexicon.specs.declared.Base.{Base}
use Rattle.lexicon.specs.Literals.{integer}
use Rattle.lexicon.specs.Parts.{SomeNumeral, Start}
use Rattle.lexicon.proofs.Integers.{of_integer, to_integer}
use Rattle.number.specs.Number.{IsNumber, NoNumber}

module _ (text : List ℕ) where
  abbrev pub some_number : {b : Base} {i j v : ℕ} → IsNumber text b i j v → SomeNumeral text i j
  some_number n = record { of = _; bytes = n.bytes; is = n.is }

  pub integer_longest : {b : Base} {i g j v : ℕ} → Start text i g → IsNumber text b g j v → Longest text integer i j
  integer_longest s n = record { takes = to_integer text s (some_number n); most = λ t. n.most (of_integer text s t) }

  pub integer_none : {i g : ℕ} → Start text i g → NoNumber text g → Fails text integer i
  integer_none s n = record { none = λ t. n.none (of_integer text s t) }
