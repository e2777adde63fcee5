-- What functions inside the library promise of parts of a literal. No answer rests on it. Assumes nothing.
use Rattle.std.specs.Prelude.{◌≡◌, cond, List, ℕ, ◌+◌, ◌-◌, ◌<◌, leb, eqb}
use Rattle.rules.specs.Class.{Class, byte_of, just}
use Rattle.rules.specs.Rule.{Rule, ◌then◌, opt, At, Takes}
use Rattle.lexicon.specs.declared.Set.{Set}
use Rattle.lexicon.specs.declared.Base.{Base}
use Rattle.lexicon.specs.declared.Base.TheVariants.{Two, Eight, Ten, Sixteen}
use Rattle.lexicon.specs.Bytes.{decimal, digits}
use Rattle.lexicon.specs.Space.{sp, Skips}
use Rattle.lexicon.specs.Literals.{unit, joint, plus_minus, spaced, integer, code_mark}
use Rattle.lexicon.specs.Values.{Digits, Number}

-- ---- digits

-- how many digits a set of digits of a base has; 0 for another set
abbrev pub size : Set → ℕ
size Set.Binary = 2
size Set.Octal = 8
size Set.Decimal = 10
size Set.Hexadecimal = 16
size Set.Base64 = 0
size Set.WordStart = 0
size Set.WordRest = 0
size Set.Dividing = 0

-- the value of a base-64 character, where the alphabet has it (lexicon/proofs/Sextets.antt)
unfoldable pub sextet : ℕ → ℕ
sextet b =
    cond (leb (byte_of "a") b) (b - byte_of "a" + 26)
    (cond (leb (byte_of "A") b) (b - byte_of "A")
    (cond (leb (byte_of "0") b) (b - byte_of "0" + 52) (cond (eqb b (byte_of "+")) 62 63)))

module _ (text : List ℕ) where
  -- a joint, if any, and a unit stand at j
  pub record Further (n : ℕ) (c : Class) (j : ℕ) : Type 0 where
    pub from : ℕ
    pub end : ℕ
    pub joined : Takes text (opt joint) j from
    pub next : Takes text (unit n c) from end

  -- none does
  pub record Ended (n : ℕ) (c : Class) (j : ℕ) : Type 0 where
    pub stops : Further n c j → ⊥

-- ---- numbers without a sign

-- the letter of a base's mark
abbrev pub letter : Base → ℕ
letter Two = byte_of "b"
letter Eight = byte_of "o"
letter Ten = byte_of "d"
letter Sixteen = byte_of "x"

module _ (text : List ℕ) where
  -- 0, a letter, dividing space and digits; or decimal digits alone
  pub data Numeral : Base → ℕ → ℕ → List ℕ → Type 0 where
    marked : {b : Base} {i g j : ℕ} {ds : List ℕ} → At text (just (byte_of "0")) i → At text (just (letter b)) (i + 1) →
        Takes text (opt sp) (i + 2) g → Digits text 1 (digits b) g j ds → Numeral b i j ds
    bare : {i j : ℕ} {ds : List ℕ} → Digits text 1 decimal i j ds → Numeral Ten i j ds

  pub record SomeNumeral (i j : ℕ) : Type 0 where
    pub of : Base
    pub bytes : List ℕ
    pub is : Numeral of i j bytes

  -- ---- signs and powers

  -- g is where a number may begin: behind the sign and its dividing space, or at i itself
  pub data Start (i g : ℕ) : Type 0 where
    behind : At text plus_minus i → Skips text (i + 1) g → Start i g
    unsigned : (At text plus_minus i → ⊥) → g ≡ i → Start i g

-- `^` and the exponent
abbrev pub exponent : Rule
exponent = spaced "^" then integer

-- a power with a radix below 2
pub record SmallPower (text : List ℕ) (i j : ℕ) : Type 0 where
  pub start : ℕ
  pub end : ℕ
  pub before : Takes text (spaced "*") i start
  pub number_is : ℕ
  pub number : Number text start end number_is
  pub small : number_is < 2
  pub behind : Takes text exponent end j

-- ---- code points

-- the mark of base b from i, whose digits begin at s, is the only one that digits follow
pub record Marked (text : List ℕ) (i : ℕ) (b : Base) (s : ℕ) : Type 0 where
  pub mark : Takes text (code_mark b) i s
  pub only : (a : Base) {t : ℕ} → Takes text (code_mark a) i t → At text (digits a) t → (a ≡ b) × (t ≡ s)
