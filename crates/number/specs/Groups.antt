-- What the search for digit groups answers. Assumes nothing.
use Rattle.std.specs.Prelude.{◌≡◌, List, ℕ, Option, Some, None}
use mathlib.Core.List.{foldl}
use Rattle.rules.specs.Rule.{Fails}
use Rattle.lexicon.specs.declared.Set.{Set}
use Rattle.lexicon.specs.Bytes.{members}
use Rattle.lexicon.specs.Literals.{unit}
use Rattle.lexicon.specs.Values.{Digits}
use Rattle.lexicon.specs.Parts.{Ended}
use Rattle.number.specs.declared.groups.Groups.{Groups}

-- the sets that units are made of: no byte of them begins what joins two units
pub data OfDigits : Set → Type 0 where
  binary : OfDigits Set.Binary
  octal : OfDigits Set.Octal
  decimal : OfDigits Set.Decimal
  hexadecimal : OfDigits Set.Hexadecimal
  base64 : OfDigits Set.Base64

-- the sum of type S begins with one, and each byte adds to it
module _ {S : Type 0} (more : S → ℕ → S) (start : S) where
  -- the units from i to j, and the sum over their bytes
  pub record Summed (text : List ℕ) (set : Set) (n i j : ℕ) (s : S) : Type 0 where
    pub bytes : List ℕ
    pub digits_are : Digits text n (members set) i j bytes
    pub sum_is : s ≡ foldl more start bytes

  -- the longest row of units from i
  pub record Row (text : List ℕ) (set : Set) (n i j : ℕ) (s : S) : Type 0 where
    pub row : Summed text set n i j s
    pub ended : Ended text n (members set) j

  abbrev pub Grouped : List ℕ → Set → ℕ → ℕ → Option (Groups S) → Type 0
  Grouped text set n i (Some r) = Row text set n i r.end r.sum
  Grouped text set n i None = Fails text (unit n (members set)) i
