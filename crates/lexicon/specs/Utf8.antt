-- UTF-8 as the Unicode Standard's table of well-formed byte sequences has it (table 3-7), a row a line; and 01's place
-- of refusal 3. Assumes nothing.
use Rattle.std.specs.Prelude.{List, [], ◌∷◌, ℕ, ◌<◌, length, Result, Ok, Err}
use Rattle.rules.specs.Class.{◌upto◌}
use Rattle.lexicon.specs.declared.NotUtf8.{NotUtf8}
use Rattle.rules.specs.Rule.{Rule, one, ◌then◌, ◌or◌, many, Takes, Fails}

abbrev pub range : ℕ → ℕ → Rule
range a b = one (a upto b ∷ [])

-- a continuation byte
abbrev pub tail : Rule
tail = range 0x80 0xBF

-- the rows that begin with a byte above 7F; the first of them, two bytes, from first byte `low` on (C2 in the table)
abbrev pub beyond : ℕ → Rule
beyond low =
    range low 0xDF then tail
    or range 0xE0 0xE0 then range 0xA0 0xBF then tail
    or range 0xE1 0xEC then tail then tail
    or range 0xED 0xED then range 0x80 0x9F then tail
    or range 0xEE 0xEF then tail then tail
    or range 0xF0 0xF0 then range 0x90 0xBF then tail then tail
    or range 0xF1 0xF3 then tail then tail then tail
    or range 0xF4 0xF4 then range 0x80 0x8F then tail then tail

abbrev pub sequence : Rule
sequence = range 0x00 0x7F or beyond 0xC2

module _ (text : List ℕ) where
  -- the whole text is well-formed sequences from the front
  abbrev pub WellFormed : Type 0
  WellFormed = Takes text (many sequence) 0 (length text)

  -- the first byte at which, reading well-formed sequences from the front, none begins
  pub record BadAt (place : ℕ) : Type 0 where
    pub reached : Takes text (many sequence) 0 place
    pub within : place < length text
    pub none : Fails text sequence place

  -- what the answer of the test says
  abbrev pub Encoded : Result (Unit {0}) NotUtf8 → Type 0
  Encoded (Ok _) = WellFormed
  Encoded (Err bad) = BadAt bad.at
