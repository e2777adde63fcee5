-- Bad values, refusal 5: 01, 'a code point outside 0..D7FF and E000..10FFFF; denominator 0; radix below 2', and for
-- Blobs 02, request 3. Each is a property of a literal's bytes, from place i to place j, and is asked where the literal
-- stands. Assumes nothing.
use Rattle.std.specs.Prelude.{◌≡◌, ◌⊎◌, List, ◌∷◌, ℕ, ◌≤◌, ◌<◌}
use Rattle.rules.specs.Rule.{◌then◌, ◌or◌, many, opt, lit, Takes, Among}
use Rattle.lexicon.specs.Space.{sp}
use Rattle.lexicon.specs.Literals.{integer, significand, spaced, power, unescaped, escape, segment}
use Rattle.lexicon.specs.Values.{Number, BlobOf, CodeOf, Quoted}

-- a number that is a code point
abbrev pub Scalar : ℕ → Type 0
Scalar v = (v ≤ 0xD7FF) ⊎ ((0xE000 ≤ v) × (v ≤ 0x10FFFF))

-- some number among them is none
pub data Outside : List ℕ → Type 0 where
  now : {c : ℕ} {cs : List ℕ} → (Scalar c → ⊥) → Outside (c ∷ cs)
  later : {c : ℕ} {cs : List ℕ} → Outside cs → Outside (c ∷ cs)

module _ (text : List ℕ) where
  -- ---- Text

  pub record BadCode (i j : ℕ) : Type 0 where
    pub number : ℕ
    pub code : CodeOf text i j number
    pub bad : Scalar number → ⊥

  -- a code point in angle brackets, the escape from i to j
  pub record BadEscape (i j : ℕ) : Type 0 where
    pub start : ℕ
    pub end : ℕ
    pub before : Takes text (lit "\\<") i start
    pub code : BadCode start end
    pub behind : Takes text (lit ">") end j

  pub record BadSegment (i j : ℕ) : Type 0 where
    pub start : ℕ
    pub end : ℕ
    pub before : Takes text (lit "\"\\") i start
    pub content : Among text (unescaped or escape) BadEscape start end
    pub behind : Takes text (lit "\"") end j

  -- a further segment, with what stands before it
  pub record BadFurther (i j : ℕ) : Type 0 where
    pub start : ℕ
    pub before : Takes text (opt sp) i start
    pub bad : BadSegment start j

  -- a bad escape in the first segment or in a further one
  pub data BadQuoted : ℕ → ℕ → Type 0 where
    in_first : {i m j : ℕ} → BadSegment i m → Takes text (many (opt sp then segment)) m j → BadQuoted i j
    in_further : {i m j : ℕ} → Takes text segment i m → Among text (opt sp then segment) BadFurther m j →
        BadQuoted i j

  -- the same in short: some character of the text is no code point (values/proofs/Short.antt: `short_of`, `of_short`)
  pub record BadCharacter (i j : ℕ) : Type 0 where
    pub characters : List ℕ
    pub are : Quoted text i j characters
    pub outside : Outside characters

  -- where the backslash of the bad escape stands
  abbrev pub backslash_of : {i j : ℕ} → BadQuoted i j → ℕ
  backslash_of (in_first b t) = b.content.from
  backslash_of (in_further t a) = a.holds.bad.content.from

  -- 02, request 8: 'the backslash of that escape, the first such one'
  pub record FirstBad (i j place : ℕ) : Type 0 where
    pub bad : BadQuoted i j
    pub there : place ≡ backslash_of bad
    pub first : (other : BadQuoted i j) → place ≤ backslash_of other

  -- ---- Fraction

  pub record ZeroDenominator (i j : ℕ) : Type 0 where
    pub start : ℕ
    pub end : ℕ
    pub before : Takes text (integer then spaced "/") i start
    pub zero : Number text start end 0
    pub behind : Takes text (opt power) end j

  pub record SmallRadix (i j : ℕ) : Type 0 where
    pub start : ℕ
    pub end : ℕ
    pub before : Takes text (significand then spaced "*") i start
    pub radix : ℕ
    pub number : Number text start end radix
    pub small : radix < 2
    pub behind : Takes text (spaced "^" then integer) end j

  abbrev pub BadFraction : ℕ → ℕ → Type 0
  BadFraction i j = ZeroDenominator i j ⊎ SmallRadix i j

  -- ---- Blob

  -- 02, request 3: RFC 4648 has no such Blob. No bytes have the bits that its digits say; for base 64 Padding.antt says
  -- it in the request's words, and in base 2 and 16 none is bad
  abbrev pub NoBytes : ℕ → ℕ → Type 0
  NoBytes i j = (bs : List ℕ) → BlobOf text i j bs → ⊥
