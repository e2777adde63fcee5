-- The token at a place: 01, 'At each place the longest match of any token rule is the token; two rules that match
-- equally long don't occur'; colon runs are no longest match and stand apart. Assumes nothing.
use Rattle.std.specs.Prelude.{◌≡◌, ◌⊎◌, Bool, List, ℕ, ◌+◌, ◌≤◌, ◌<◌, length, get_or}
use Prim.Native.String.{String}
use Rattle.rules.specs.Test.{Says}
use Rattle.rules.specs.Class.{has}
use Rattle.rules.specs.Rule.{Rule, lit, Takes}
use Rattle.lexicon.specs.declared.Sign.{Sign}
use Rattle.lexicon.specs.declared.Head.{Head}
use Rattle.lexicon.specs.declared.Head.TheVariants.{Array, Set, Bag, Mix, IntervalSet, IntervalBag, TupleArray}
use Rattle.lexicon.specs.declared.Head.TheVariants.{Relation, TupleBag, Article, Excuse, Heading, Renaming}
use Rattle.lexicon.specs.declared.Form.TheVariants.{Quoted, Word, HeadWord, CodePoint}
use Rattle.lexicon.specs.declared.Kind.{Kind}
use Rattle.lexicon.specs.declared.Kind.TheVariants.{Ignorance, Boolean, Integer, Fraction, Bits, Blob, Text}
use Rattle.lexicon.specs.declared.Kind.TheVariants.{Later, Symbol, Colon, TwoColons}
use Rattle.lexicon.specs.declared.Next.{Next}
use Rattle.lexicon.specs.declared.Next.TheVariants.{Token, End, NoToken}
use Rattle.lexicon.specs.Space.{Skips}
use Rattle.lexicon.specs.Literals.{ignorance, boolean, integer, fraction, bits, blob, quoted, word, code_point_of}
use Rattle.lexicon.specs.Literals.{later, plus_minus}
use Rattle.lexicon.specs.Symbols.{symbol, Colons}
use Rattle.lexicon.specs.Bad.{BadCode, BadQuoted, FirstBad, BadFraction, NoBytes}

-- the token rules
pub data Lexeme : Type 0 where
  an_ignorance : Lexeme
  a_boolean : Bool → Lexeme
  an_integer : Lexeme
  a_fraction : Lexeme
  a_bits : Lexeme
  a_blob : Lexeme
  a_quoted : Lexeme
  a_word : Lexeme
  a_code_point : Lexeme
  a_later : Lexeme
  a_symbol : Sign → Lexeme

abbrev pub rule : Lexeme → Rule
rule an_ignorance = ignorance
rule (a_boolean b) = boolean b
rule an_integer = integer
rule a_fraction = fraction
rule a_bits = bits
rule a_blob = blob
rule a_quoted = quoted
rule a_word = word
rule a_code_point = code_point_of
rule a_later = later
rule (a_symbol s) = symbol s

-- the thirteen head words
abbrev pub head_word : Head → String
head_word Array = "Array"
head_word Set = "Set"
head_word Bag = "Bag"
head_word Mix = "Mix"
head_word IntervalSet = "Interval_Set"
head_word IntervalBag = "Interval_Bag"
head_word TupleArray = "Tuple_Array"
head_word Relation = "Relation"
head_word TupleBag = "Tuple_Bag"
head_word Article = "Article"
head_word Excuse = "Excuse"
head_word Heading = "Heading"
head_word Renaming = "Renaming"

module _ (text : List ℕ) where
  -- `Here`: 01's 'longest match of any token rule'. It is the lexeme's, from i to j
  pub record Here (l : Lexeme) (i j : ℕ) : Type 0 where
    pub takes : Takes text (rule l) i j
    pub most : (m : Lexeme) {k : ℕ} → Takes text (rule m) i k → k ≤ j

  -- `Told`: what a token of a kind is, case by case. Beside its longest match: whether an Integer is signed, which head
  -- word a bare word is, if any, and how many colons stand there
  abbrev pub Told : Kind → ℕ → ℕ → Type 0
  Told Ignorance i j = Here an_ignorance i j
  Told (Boolean b) i j = Here (a_boolean b) i j
  Told (Integer signed) i j = Here an_integer i j × (signed ≡ has plus_minus (get_or text i 0))
  Told Fraction i j = Here a_fraction i j
  Told Bits i j = Here a_bits i j
  Told Blob i j = Here a_blob i j
  Told (Text Quoted) i j = Here a_quoted i j
  Told (Text Word) i j = Here a_word i j × ((h : Head) → Takes text (lit (head_word h)) i j → ⊥)
  Told (Text (HeadWord h)) i j = Here a_word i j × Takes text (lit (head_word h)) i j
  Told (Text CodePoint) i j = Here a_code_point i j
  Told Later i j = Here a_later i j
  Told (Symbol s) i j = Here (a_symbol s) i j
  Told Colon i j = (j ≡ i + 1) × (Colons text i 1 ⊎ Colons text i 3)
  Told TwoColons i j = (j ≡ i + 2) × Colons text i 2

  -- a token of kind k from i to j
  pub record Is (k : Kind) (i j : ℕ) : Type 0 where
    pub told : Told k i j

  -- its value is bad
  abbrev pub Bad : Kind → ℕ → ℕ → Type 0
  Bad Ignorance i j = ⊥
  Bad (Boolean b) i j = ⊥
  Bad (Integer signed) i j = ⊥
  Bad Fraction i j = BadFraction text i j
  Bad Bits i j = ⊥
  Bad Blob i j = NoBytes text i j
  Bad (Text Quoted) i j = BadQuoted text i j
  Bad (Text Word) i j = ⊥
  Bad (Text (HeadWord h)) i j = ⊥
  Bad (Text CodePoint) i j = BadCode text i j
  Bad Later i j = ⊥
  Bad (Symbol s) i j = ⊥
  Bad Colon i j = ⊥
  Bad TwoColons i j = ⊥

  -- and the place that is told with it: 01, 'first byte of the literal'; 02, request 8, 'For a code point out of range
  -- inside quotes, 5 now gives the backslash of that escape, the first such one, and no longer the literal's first
  -- byte. Bare code points are as before'
  pub data BadPlace (k : Kind) (i j place : ℕ) : Type 0 where
    inside_quotes : k ≡ Text Quoted → FirstBad text i j place → BadPlace k i j place
    first_byte : (k ≡ Text Quoted → ⊥) → place ≡ i → BadPlace k i j place

  -- `Comes`: what comes next at or after a place, for each answer of `token::next::next`, whose contract it is.
  -- Dividing space is passed over; the end is a token at the text length
  abbrev pub Comes : ℕ → Next → Type 0
  Comes at (Token t) =
      Skips text at t.first × (t.first < length text) × Is t.kind t.first t.end ×
      Says t.bad (Bad t.kind t.first t.end)
  Comes at (End place) = (place ≡ length text) × (i : ℕ) × Skips text at i × (length text ≤ i)
  Comes at (NoToken place) = Skips text at place × (place < length text) × ((k : Kind) (j : ℕ) → Is k place j → ⊥)
