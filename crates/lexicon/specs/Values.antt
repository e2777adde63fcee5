-- The values that the grammar gives: the integer of an Integer, the bits of Bits, the bytes of a Blob, the characters
-- of a Text. Assumes nothing.
use Rattle.std.specs.Prelude.{◌≡◌, cond, List, [], ◌∷◌, ◌++◌, map, get_or}
use Rattle.std.specs.Prelude.{ℕ, zero, suc, ◌+◌, ◌-◌, ◌*◌, ◌<◌, leb, eqb, ℤ, pos, neg_ℤ}
use Prim.Native.String.{String}
use Rattle.rules.specs.Class.{Class, In, byte_of, any_of}
use Rattle.rules.specs.Rule.{one, ◌then◌, plus, opt, lit, Takes}
use Rattle.rules.specs.Every.{Every}
use Rattle.lexicon.specs.declared.Base.{Base}
use Rattle.lexicon.specs.Bytes.{binary, octal, hexadecimal, base64, digits, radix}
use Rattle.lexicon.specs.Space.{sp}
use Rattle.lexicon.specs.Expansion.{expand}
use Rattle.lexicon.specs.Base64.{Encodes}
use Rattle.lexicon.specs.Literals.{unit, joint, prefix, sign, code_mark, word, unescaped, restricted, escape_letter}

-- the n bytes from place i on
abbrev pub read : List ℕ → ℕ → ℕ → List ℕ
read text i zero = []
read text i (suc n) = get_or text i 0 ∷ read text (i + 1) n

-- ---- numbers

-- the number that a digit's byte stands for: 0 to 9, and A to F for 10 to 15
abbrev pub digit : ℕ → ℕ
digit b = cond (leb b (byte_of "9")) (b - byte_of "0") (b - (byte_of "A" - 10))

-- digits read from left to right, after a number v
abbrev pub value_from : ℕ → ℕ → List ℕ → ℕ
value_from r v [] = v
value_from r v (d ∷ ds) = value_from r (v * r + digit d) ds

abbrev pub value : ℕ → List ℕ → ℕ
value r ds = value_from r 0 ds

-- numbers below 256
abbrev pub Octets : List ℕ → Type 0
Octets bs = Every (λ b. b < 256) bs

-- ---- characters

-- the code point of a well-formed UTF-8 sequence
abbrev pub scalar : List ℕ → ℕ
scalar [] = 0
scalar (a ∷ []) = a
scalar (a ∷ b ∷ []) = (a - 0xC0) * 64 + (b - 0x80)
scalar (a ∷ b ∷ c ∷ []) = ((a - 0xE0) * 64 + (b - 0x80)) * 64 + (c - 0x80)
scalar (a ∷ b ∷ c ∷ d ∷ s) = (((a - 0xF0) * 64 + (b - 0x80)) * 64 + (c - 0x80)) * 64 + (d - 0x80)

-- the character that a letter after a backslash stands for
pub data Letter : ℕ → ℕ → Type 0 where
  quotation_mark : Letter (byte_of "q") 0x22
  grave_accent : Letter (byte_of "g") 0x60
  reverse_solidus : Letter (byte_of "b") 0x5C
  tab : Letter (byte_of "t") 0x09
  line_feed : Letter (byte_of "n") 0x0A
  carriage_return : Letter (byte_of "r") 0x0D

module _ (text : List ℕ) where
  -- the bytes ds are those of the units from i to j, without what joins them
  pub data Digits (n : ℕ) (c : Class) : ℕ → ℕ → List ℕ → Type 0 where
    last_unit : {i j : ℕ} → Takes text (unit n c) i j → Digits n c i j (read text i n)
    next_unit : {i m k j : ℕ} {ds : List ℕ} → Takes text (unit n c) i m → Takes text (opt joint) m k →
        Digits n c k j ds → Digits n c i j (read text i n ++ ds)

  -- a number without a sign from i to j is v
  pub record OfBase (b : Base) (i j v : ℕ) : Type 0 where
    pub start : ℕ
    pub before : Takes text (prefix b) i start
    pub bytes : List ℕ
    pub digits_are : Digits 1 (digits b) start j bytes
    pub value_is : v ≡ value (radix b) bytes

  abbrev pub Number : ℕ → ℕ → ℕ → Type 0
  Number i j v = (b : Base) × OfBase b i j v

  -- the integer of an Integer literal from i to j is z
  pub record IntegerOf (i j : ℕ) (z : ℤ) : Type 0 where
    pub start : ℕ
    pub before : Takes text sign i start
    pub size : ℕ
    pub number : Number start j size
    pub value_is : z ≡ cond (eqb (get_or text i 0) (byte_of "-")) (neg_ℤ (pos size)) (pos size)

  -- ---- bits and bytes

  -- the digits behind a mark, or none
  pub data Behind (mark : String) (n : ℕ) (c : Class) : ℕ → ℕ → List ℕ → Type 0 where
    mark_alone : {i j : ℕ} → Takes text (lit mark) i j → Behind mark n c i j []
    mark_digits : {i m j : ℕ} {ds : List ℕ} → Takes text (lit mark then opt sp) i m → Digits n c m j ds →
        Behind mark n c i j ds

  -- the bits of a Bits literal from i to j, most significant first in each digit
  pub data BitsOf : ℕ → ℕ → List ℕ → Type 0 where
    in_binary : {i j : ℕ} {ds : List ℕ} → Behind "0bb" 1 binary i j ds → BitsOf i j (expand 1 (map digit ds))
    in_octal : {i j : ℕ} {ds : List ℕ} → Behind "0bo" 1 octal i j ds → BitsOf i j (expand 3 (map digit ds))
    in_hexadecimal : {i j : ℕ} {ds : List ℕ} → Behind "0bx" 1 hexadecimal i j ds → BitsOf i j (expand 4 (map digit ds))

  -- the bytes of a Blob literal from i to j: those whose bits the digits say. A Blob need not have any
  pub data BlobOf : ℕ → ℕ → List ℕ → Type 0 where
    in_binary : {i j : ℕ} {ds bs : List ℕ} → Behind "0xb" 8 binary i j ds → Octets bs →
        expand 8 bs ≡ expand 1 (map digit ds) → BlobOf i j bs
    in_hexadecimal : {i j : ℕ} {ds bs : List ℕ} → Behind "0xx" 2 hexadecimal i j ds → Octets bs →
        expand 8 bs ≡ expand 4 (map digit ds) → BlobOf i j bs
    in_base64 : {i j : ℕ} {ds bs : List ℕ} → Behind "0xy" 4 base64 i j ds → Octets bs → Encodes ds bs → BlobOf i j bs

  -- ---- characters

  -- a code point written by its number, from i to j, is v
  pub record CodeOf (i j v : ℕ) : Type 0 where
    pub base : Base
    pub start : ℕ
    pub before : Takes text (code_mark base) i start
    pub all_digits : Takes text (plus (one (digits base))) start j
    pub value_is : v ≡ value (radix base) (read text start (j - start))

  abbrev pub scalar_at : ℕ → ℕ → ℕ
  scalar_at i j = scalar (read text i (j - i))

  -- a segment that does not begin with a backslash: each character is itself
  pub data Plain : ℕ → ℕ → ℕ → Type 0 where
    itself : {i j : ℕ} → Takes text restricted i j → Plain i j (scalar_at i j)

  -- one that does: characters and escapes
  pub data Escaped : ℕ → ℕ → ℕ → Type 0 where
    itself : {i j : ℕ} → Takes text unescaped i j → Escaped i j (scalar_at i j)
    letter : {i j m c : ℕ} → Takes text (lit "\\") i m → Letter (get_or text m 0) c →
        Takes text (one escape_letter) m j → Escaped i j c
    number : {i j m e v : ℕ} → Takes text (lit "\\<") i m → CodeOf m e v → Takes text (lit ">") e j → Escaped i j v

  -- characters one after the other
  pub data Row (Item : ℕ → ℕ → ℕ → Type 0) : ℕ → ℕ → List ℕ → Type 0 where
    done : {i : ℕ} → Row Item i i []
    next : {i m j c : ℕ} {cs : List ℕ} → Item i m c → Row Item m j cs → Row Item i j (c ∷ cs)

  pub data Segment : ℕ → ℕ → List ℕ → Type 0 where
    plain : {i m e j : ℕ} {cs : List ℕ} → Takes text (lit "\"") i m → (In (any_of "\\") (get_or text m 0) → ⊥) →
        Row Plain m e cs → Takes text (lit "\"") e j → Segment i j cs
    escaped : {i m e j : ℕ} {cs : List ℕ} → Takes text (lit "\"\\") i m → Row Escaped m e cs →
        Takes text (lit "\"") e j → Segment i j cs

  pub data Quoted : ℕ → ℕ → List ℕ → Type 0 where
    last_segment : {i j : ℕ} {cs : List ℕ} → Segment i j cs → Quoted i j cs
    next_segment : {i m k j : ℕ} {cs ds : List ℕ} → Segment i m cs → Takes text (opt sp) m k → Quoted k j ds →
        Quoted i j (cs ++ ds)

  -- the characters of a Text literal from i to j, as code points
  pub data TextOf : ℕ → ℕ → List ℕ → Type 0 where
    quotes : {i j : ℕ} {cs : List ℕ} → Quoted i j cs → TextOf i j cs
    bare : {i j : ℕ} → Takes text word i j → TextOf i j (read text i (j - i))
    coded : {i j v : ℕ} → CodeOf i j v → TextOf i j (v ∷ [])
