-- Rules over bytes, and what a rule takes of a text. A rule takes the text from place i to place j where the bytes from
-- i up to j are a text of the rule. Places count from byte 0 of the whole text. Assumes nothing.
use Rattle.std.specs.Prelude.{◌≡◌, List, [], ◌∷◌, ℕ, zero, suc, ◌+◌, ◌≤◌, ◌<◌, length, get_or}
use Prim.Native.String.{String}
use Rattle.rules.specs.Class.{Class, In, just, codes}

pub data Rule : Type 0 where
  empty : Rule
  one : Class → Rule
  ◌then◌ : Rule → Rule → Rule
  ◌or◌ : Rule → Rule → Rule
  many : Rule → Rule

infixr 50 ◌then◌
infixr 45 ◌or◌
-- the source's `+`, `?`, `** n` and `% q`
abbrev pub plus : Rule → Rule
plus r = r then many r

abbrev pub opt : Rule → Rule
opt r = r or empty

abbrev pub times : ℕ → Rule → Rule
times zero r = empty
times (suc n) r = r then times n r

infix 55 ◌sepBy◌
abbrev pub ◌sepBy◌ : Rule → Rule → Rule
r sepBy q = r then many (q then r)

-- exactly these bytes
abbrev pub row : List ℕ → Rule
row [] = empty
row (b ∷ []) = one (just b)
row (b ∷ c ∷ bs) = one (just b) then row (c ∷ bs)

abbrev pub lit : String → Rule
lit s = row (codes s)

module _ (text : List ℕ) where
  -- a byte of the class stands at place i
  abbrev pub At : Class → ℕ → Type 0
  At c i = (i < length text) × In c (get_or text i 0)

  -- the rule takes the text from i to j
  pub data Takes : Rule → ℕ → ℕ → Type 0 where
    nothing : {i j : ℕ} → i ≡ j → Takes empty i j
    byte : {c : Class} {i j : ℕ} → At c i → j ≡ i + 1 → Takes (one c) i j
    both : {a b : Rule} {i m j : ℕ} → Takes a i m → Takes b m j → Takes (a then b) i j
    left : {a b : Rule} {i j : ℕ} → Takes a i j → Takes (a or b) i j
    right : {a b : Rule} {i j : ℕ} → Takes b i j → Takes (a or b) i j
    stop : {r : Rule} {i j : ℕ} → i ≡ j → Takes (many r) i j
    more : {r : Rule} {i m j : ℕ} → Takes r i m → Takes (many r) m j → Takes (many r) i j

  -- and no match from i reaches further
  pub record Longest (r : Rule) (i j : ℕ) : Type 0 where
    pub takes : Takes r i j
    pub most : {k : ℕ} → Takes r i k → k ≤ j

  -- the rule has no match from i
  pub record Fails (r : Rule) (i : ℕ) : Type 0 where
    pub none : {k : ℕ} → Takes r i k → ⊥

  -- the text from i to j is a row of matches of the rule, one of which, from x to y, has the property
  pub record Among (r : Rule) (P : ℕ → ℕ → Type 0) (i j : ℕ) : Type 0 where
    pub from : ℕ
    pub upto : ℕ
    pub before : Takes (many r) i from
    pub match : Takes r from upto
    pub holds : P from upto
    pub behind : Takes (many r) upto j
