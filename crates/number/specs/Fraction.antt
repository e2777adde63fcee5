-- What the searches for a Fraction, its parts, or else an Integer answer. Assumes nothing.
use Rattle.std.specs.Prelude.{◌≡◌, Bool, false, List, ℕ, eqb, Option, Some, None}
use Rattle.rules.specs.Rule.{Takes, Fails, ◌then◌}
use Rattle.lexicon.specs.declared.Base.{Base}
use Rattle.lexicon.specs.declared.Literal.{Literal}
use Rattle.lexicon.specs.Bytes.{digits, digit_set_of, radix}
use Rattle.lexicon.specs.Limited.{limited}
use Rattle.lexicon.specs.Space.{Skips}
use Rattle.lexicon.specs.Found.{Finds, Judges}
use Rattle.lexicon.specs.Literals.{unit, integer, spaced, significand, fraction}
use Rattle.lexicon.specs.Values.{Number}
use Rattle.lexicon.specs.Bad.{BadFraction}
use Rattle.lexicon.specs.Parts.{Start}
use Rattle.number.specs.declared.Numeral.{Numeral}
use Rattle.number.specs.declared.Numeral.TheVariants.{Integer, Fraction}
use Rattle.number.specs.Groups.{Row}
use Rattle.number.specs.Number.{IsNumber, NoNumber}

-- the digits behind a point, dividing space passed over
pub record PointDigits (text : List ℕ) (b : Base) (i j : ℕ) : Type 0 where
  pub from : ℕ
  pub skipped : Skips text i from
  pub sum : ℕ
  pub row : Row (limited (radix b)) 0 text (digit_set_of b) 1 from j sum

pub record NoDigits (text : List ℕ) (b : Base) (i : ℕ) : Type 0 where
  pub from : ℕ
  pub skipped : Skips text i from
  pub none : Fails text (unit 1 (digits b)) from

abbrev pub Pointed : List ℕ → Base → ℕ → Option Literal → Type 0
Pointed text b i (Some l) = (l.bad ≡ false) × PointDigits text b i l.end
Pointed text b i None = NoDigits text b i

-- the denominator behind a slash
pub record Denominator (text : List ℕ) (i j : ℕ) (z : Bool) : Type 0 where
  pub from : ℕ
  pub skipped : Skips text i from
  pub base : Base
  pub value : ℕ
  pub number : IsNumber text base from j value
  pub zero_is : z ≡ eqb value 0

pub record NoDenominator (text : List ℕ) (i : ℕ) : Type 0 where
  pub from : ℕ
  pub skipped : Skips text i from
  pub none : NoNumber text from

abbrev pub Divided : List ℕ → ℕ → Option Literal → Type 0
Divided text i (Some l) = Denominator text i l.end l.bad
Divided text i None = NoDenominator text i

-- a significand with denominator 0
pub record ZeroRatio (text : List ℕ) (i j : ℕ) : Type 0 where
  pub start : ℕ
  pub before : Takes text (integer then spaced "/") i start
  pub zero : Number text start j 0

-- the longest significand of a number that has the base b and ends at e, wherever its sign or the number begins
pub record Behind (text : List ℕ) (b : Base) (e : ℕ) (r : Option Literal) : Type 0 where
  pub of : {i g v : ℕ} → Start text i g → IsNumber text b g e v → Judges text significand (ZeroRatio text) i r

-- the literal that begins with a number at i: a Fraction if one stands there, else an Integer
abbrev pub NumeralAt : List ℕ → ℕ → Option Numeral → Type 0
NumeralAt text i (Some (Integer j)) = Fails text fraction i × Finds text integer i (Some j)
NumeralAt text i (Some (Fraction l)) = Judges text fraction (BadFraction text) i (Some l)
NumeralAt text i None = Fails text fraction i × Fails text integer i
