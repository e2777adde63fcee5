-- The literals of levels 1 and 2, as source document 003 prints them, with 01's readings: dividing space that leads to
-- no more of the literal is not part of it, and belongs to a number only behind a sign. Assumes nothing.
use Rattle.std.specs.Prelude.{Bool, true, false, [], ◌∷◌, ℕ}
use Prim.Native.String.{String}
use Rattle.rules.specs.Class.{Class, ◌upto◌, any_of}
use Rattle.rules.specs.Rule.{Rule, one, ◌then◌, ◌or◌, many, plus, opt, times, ◌sepBy◌, lit}
use Rattle.lexicon.specs.declared.Base.{Base}
use Rattle.lexicon.specs.declared.Base.TheVariants.{Two, Eight, Ten, Sixteen}
use Rattle.lexicon.specs.Bytes.{binary, octal, hexadecimal, base64, word_start, word_rest, digits}
use Rattle.lexicon.specs.Space.{sp}
use Rattle.lexicon.specs.Utf8.{beyond}

-- ---- Ignorance, Boolean

abbrev pub ignorance : Rule
ignorance = lit "0sIGNORANCE"

abbrev pub boolean : Bool → Rule
boolean false = lit "0bFALSE"
boolean true = lit "0bTRUE"

-- ---- Integer

-- `_ | <sp>`
abbrev pub joint : Rule
joint = lit "_" or sp

-- `<[..]> ** n`
abbrev pub unit : ℕ → Class → Rule
unit n c = times n (one c)

-- `[[<[..]> ** n]+]+ % [_ | <sp>]`
abbrev pub groups : ℕ → Class → Rule
groups n c = plus (unit n c) sepBy joint

-- what stands before the digits of a base
abbrev pub prefix : Base → Rule
prefix Two = lit "0b" then opt sp
prefix Eight = lit "0o" then opt sp
prefix Ten = opt (lit "0d" then opt sp)
prefix Sixteen = lit "0x" then opt sp

abbrev pub of_base : Base → Rule
of_base b = prefix b then groups 1 (digits b)

abbrev pub nonsigned : Rule
nonsigned = of_base Two or of_base Eight or of_base Ten or of_base Sixteen

abbrev pub plus_minus : Class
plus_minus = any_of "+-"

-- 003: `<[+-]>? <sp>?`. Narrower: dividing space only behind a sign, so that no number begins with it
-- (docs/DECISIONS.md, point 1)
abbrev pub sign : Rule
sign = opt (one plus_minus then opt sp)

abbrev pub integer : Rule
integer = sign then nonsigned

-- ---- Fraction

-- a symbol with dividing space on both sides
abbrev pub spaced : String → Rule
spaced s = opt sp then lit s then opt sp

abbrev pub point_of_base : Base → Rule
point_of_base b = prefix b then groups 1 (digits b) then spaced "." then groups 1 (digits b)

abbrev pub nonsigned_point : Rule
nonsigned_point = point_of_base Two or point_of_base Eight or point_of_base Ten or point_of_base Sixteen

abbrev pub radix_point : Rule
radix_point = sign then nonsigned_point

abbrev pub ratio : Rule
ratio = integer then spaced "/" then nonsigned

abbrev pub significand : Rule
significand = radix_point or ratio

abbrev pub power : Rule
power = spaced "*" then nonsigned then spaced "^" then integer

abbrev pub fraction : Rule
fraction = significand then opt power

-- ---- Bits, Blob

-- 003: `<sp>? [[<[..]> ** n]+]* % [_ | <sp>]`. Narrower: dividing space only where a digit follows
-- (docs/DECISIONS.md, point 2)
abbrev pub maybe : ℕ → Class → Rule
maybe n c = opt (opt sp then groups n c)

abbrev pub bits : Rule
bits = lit "0bb" then maybe 1 binary or lit "0bo" then maybe 1 octal or lit "0bx" then maybe 1 hexadecimal

abbrev pub blob : Rule
blob = lit "0xb" then maybe 8 binary or lit "0xx" then maybe 2 hexadecimal or lit "0xy" then maybe 4 base64

-- ---- Text

-- a code point's mark and digits
abbrev pub code_mark : Base → Rule
code_mark Two = lit "0cb"
code_mark Eight = lit "0co"
code_mark Ten = lit "0c" then opt (lit "d")
code_mark Sixteen = lit "0cx"

abbrev pub code_of_base : Base → Rule
code_of_base b = code_mark b then plus (one (digits b))

abbrev pub code_point_of : Rule
code_point_of = code_of_base Two or code_of_base Eight or code_of_base Ten or code_of_base Sixteen

abbrev pub word : Rule
word = one word_start then many (one word_rest)

-- inside quotes U+0000..1F, `"`, the grave accent and U+0080..9F may not stand; here also no backslash
abbrev pub plain_byte : Class
plain_byte = 0x20 upto 0x21 ∷ 0x23 upto 0x5B ∷ 0x5D upto 0x5F ∷ 0x61 upto 0x7F ∷ []

-- U+00A0 and above, as UTF-8 has them. In the table of well-formed sequences the row of two bytes begins with C2 to DF;
-- C2 80..9F are U+0080..9F, which may not stand. So C2 stands apart, with A0..BF behind it only, and the other rows are
-- as they are, that of two bytes from C3 on
abbrev pub above9_f : Rule
above9_f = one (0xC2 upto 0xC2 ∷ []) then one (0xA0 upto 0xBF ∷ []) or beyond 0xC3

abbrev pub unescaped : Rule
unescaped = one plain_byte or above9_f

abbrev pub restricted : Rule
restricted = unescaped or lit "\\"

-- `\` and one of six letters, or a code point in angle brackets
abbrev pub escape_letter : Class
escape_letter = any_of "qgbtnr"

abbrev pub escape : Rule
escape = lit "\\" then (one escape_letter or lit "<" then code_point_of then lit ">")

abbrev pub content : Rule
content = opt (unescaped then many restricted) or lit "\\" then many (unescaped or escape)

abbrev pub segment : Rule
segment = lit "\"" then content then lit "\""

abbrev pub quoted : Rule
quoted = segment sepBy opt sp

-- ---- the later literal

abbrev pub later : Rule
later = lit "0L"
