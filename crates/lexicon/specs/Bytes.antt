-- The byte sets, and the class of a byte: 01, 'Bytes and tokens'. Assumes nothing.
use Rattle.std.specs.Prelude.{Bool, true, false, List, [], ◌∷◌, ℕ, ◌+◌, ◌*◌}
use Rattle.rules.specs.Class.{Class, ◌to◌, any_of, any_in, has}
use Rattle.lexicon.specs.declared.Set.{Set}
use Rattle.lexicon.specs.declared.Set.TheVariants.{Binary, Octal, Decimal, Hexadecimal, Base64, WordStart}
use Rattle.lexicon.specs.declared.Set.TheVariants.{WordRest, Dividing}
use Rattle.lexicon.specs.declared.Base.{Base}
use Rattle.lexicon.specs.declared.Base.TheVariants.{Two, Eight, Ten, Sixteen}

abbrev pub binary : Class
binary = "0" to "1" ∷ []

abbrev pub octal : Class
octal = "0" to "7" ∷ []

abbrev pub decimal : Class
decimal = "0" to "9" ∷ []

abbrev pub hexadecimal : Class
hexadecimal = "0" to "9" ∷ "A" to "F" ∷ []

abbrev pub base64 : Class
base64 = "A" to "Z" ∷ "a" to "z" ∷ "0" to "9" ∷ any_of "+/="

abbrev pub word_start : Class
word_start = "A" to "Z" ∷ "_" to "_" ∷ "a" to "z" ∷ []

abbrev pub word_rest : Class
word_rest = "0" to "9" ∷ word_start

abbrev pub dividing : Class
dividing = any_in (0x09 ∷ 0x0A ∷ 0x0D ∷ 0x20 ∷ [])

-- the eight sets by their names in the code
abbrev pub members : Set → Class
members Binary = binary
members Octal = octal
members Decimal = decimal
members Hexadecimal = hexadecimal
members Base64 = base64
members WordStart = word_start
members WordRest = word_rest
members Dividing = dividing

-- what each adds to a byte's class
abbrev pub weight : Set → ℕ
weight Binary = 1
weight Octal = 2
weight Decimal = 4
weight Hexadecimal = 8
weight Base64 = 16
weight WordStart = 32
weight WordRest = 64
weight Dividing = 128

abbrev pub sets : List Set
sets = Binary ∷ Octal ∷ Decimal ∷ Hexadecimal ∷ Base64 ∷ WordStart ∷ WordRest ∷ Dividing ∷ []

-- a test as a number, 1 or 0
abbrev pub bit : Bool → ℕ
bit true = 1
bit false = 0

abbrev pub sum : List Set → ℕ → ℕ
sum [] b = 0
sum (s ∷ ss) b = weight s * bit (has (members s) b) + sum ss b

-- a byte's class is the sum of the weights of its sets
abbrev pub class_of : ℕ → ℕ
class_of = sum sets

-- the digits of a base, and their number
abbrev pub digit_set_of : Base → Set
digit_set_of Two = Binary
digit_set_of Eight = Octal
digit_set_of Ten = Decimal
digit_set_of Sixteen = Hexadecimal

abbrev pub digits : Base → Class
digits b = members (digit_set_of b)

abbrev pub radix : Base → ℕ
radix Two = 2
radix Eight = 8
radix Ten = 10
radix Sixteen = 16
