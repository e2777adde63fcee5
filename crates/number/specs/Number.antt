-- What the searches for numbers answer. Assumes nothing.
use Rattle.std.specs.Prelude.{◌≡◌, List, ℕ, ◌+◌, ◌≤◌, min, Option, Some, None}
use Rattle.rules.specs.Class.{byte_of, just}
use Rattle.rules.specs.Rule.{Takes, Fails, At, opt}
use Rattle.lexicon.specs.declared.Base.{Base}
use Rattle.lexicon.specs.Bytes.{digits, digit_set_of, radix}
use Rattle.lexicon.specs.Space.{sp}
use Rattle.lexicon.specs.Literals.{unit}
use Rattle.lexicon.specs.Values.{Digits, value}
use Rattle.lexicon.specs.Limited.{limit, limited}
use Rattle.lexicon.specs.Parts.{letter, Numeral, SomeNumeral}
use Rattle.number.specs.declared.integer.Number.{Number}
use Rattle.number.specs.Groups.{Row}

-- a mark of the base stands at i
pub record HasMark (text : List ℕ) (b : Base) (i : ℕ) : Type 0 where
  pub zero : At text (just (byte_of "0")) i
  pub letter_is : At text (just (letter b)) (i + 1)

pub record NoMark (text : List ℕ) (i : ℕ) : Type 0 where
  pub none : {b : Base} → HasMark text b i → ⊥

abbrev pub Marks : List ℕ → ℕ → Option Base → Type 0
Marks text i (Some b) = HasMark text b i
Marks text i None = NoMark text i

-- the longest row of a base's digits
abbrev pub OfBase : List ℕ → Base → ℕ → Option Number → Type 0
OfBase text b i (Some n) = (n.base ≡ b) × Row (limited (radix b)) 0 text (digit_set_of b) 1 i n.end n.value
OfBase text b i None = Fails text (unit 1 (digits b)) i

-- the longest number
pub record IsNumber (text : List ℕ) (b : Base) (i j v : ℕ) : Type 0 where
  pub bytes : List ℕ
  pub is : Numeral text b i j bytes
  pub value_is : v ≡ min limit (value (radix b) bytes)
  pub most : {k : ℕ} → SomeNumeral text i k → k ≤ j

pub record NoNumber (text : List ℕ) (i : ℕ) : Type 0 where
  pub none : {k : ℕ} → SomeNumeral text i k → ⊥

abbrev pub Numbered : List ℕ → ℕ → Option Number → Type 0
Numbered text i (Some n) = IsNumber text n.base i n.end n.value
Numbered text i None = NoNumber text i

-- none that has a mark
pub record NoMarked (text : List ℕ) (i : ℕ) : Type 0 where
  pub none : {b : Base} {g j : ℕ} {ds : List ℕ} → HasMark text b i → Takes text (opt sp) (i + 2) g →
      Digits text 1 (digits b) g j ds → ⊥

abbrev pub MarkedNumber : List ℕ → ℕ → Option Number → Type 0
MarkedNumber text i (Some n) = IsNumber text n.base i n.end n.value
MarkedNumber text i None = NoMarked text i
