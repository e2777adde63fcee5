-- What the answers of the parts of a Text literal say. Assumes nothing.
use Rattle.std.specs.Prelude.{◌≡◌, List, ℕ, ◌-◌, min}
use Rattle.rules.specs.Rule.{Rule, one, ◌then◌, ◌or◌, many, plus, lit, Takes, Fails, Among}
use Rattle.lexicon.specs.declared.Base.{Base}
use Rattle.lexicon.specs.Bytes.{digits, radix}
use Rattle.lexicon.specs.Literals.{code_point_of, unescaped, restricted, escape}
use Rattle.lexicon.specs.Values.{read, value}
use Rattle.lexicon.specs.Limited.{limit}
use Rattle.lexicon.specs.Bad.{Scalar, BadCode, BadEscape}

-- the digits of a number, one at least
abbrev pub number : Base → Rule
number b = plus (one (digits b))

-- the rest of an escape by number, behind its opening angle
abbrev pub angled : Rule
angled = code_point_of then lit ">"

-- the rest of a segment behind its opening quote, and behind a backslash that makes it an escaped one
abbrev pub plain_rest : Rule
plain_rest = many restricted then lit "\""

abbrev pub item : Rule
item = unescaped or escape

abbrev pub escaped_rest : Rule
escaped_rest = many item then lit "\""

module _ (text : List ℕ) where
  -- the number of the digits from i to j
  abbrev pub number_at : Base → ℕ → ℕ → ℕ
  number_at b i j = value (radix b) (read text i (j - i))

  -- is no code point
  abbrev pub BadNumber : Base → ℕ → ℕ → Type 0
  BadNumber b i j = Scalar (number_at b i j) → ⊥

  pub record BadAngled (i j : ℕ) : Type 0 where
    pub end : ℕ
    pub code : BadCode text i end
    pub behind : Takes text (lit ">") end j

  -- the digits from i to j and no more, with their number, or a number that is no code point if it is beyond them all
  pub record Counts (b : Base) (i j v : ℕ) : Type 0 where
    pub all : Takes text (many (one (digits b))) i j
    pub ends : Fails text (one (digits b)) j
    pub code : v ≡ min limit (number_at b i j)

  -- one of the escapes in the rest of an escaped segment is bad
  pub record BadRest (i j : ℕ) : Type 0 where
    pub end : ℕ
    pub content : Among text item (BadEscape text) i end
    pub behind : Takes text (lit "\"") end j
