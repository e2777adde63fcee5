-- Dividing space: 01, 'any run of the four bytes 09, 0A, 0D, 20 and whole comments (two grave accents and anything
-- between)'; 003's `sp`. Assumes nothing.
use Rattle.std.specs.Prelude.{List, [], ◌∷◌, ℕ}
use Rattle.rules.specs.Class.{Class, ◌upto◌, any_of}
use Rattle.rules.specs.Rule.{Rule, one, ◌then◌, ◌or◌, many, plus, opt, Longest}
use Rattle.lexicon.specs.Bytes.{dividing}

abbrev pub grave : Class
grave = any_of "`"

abbrev pub not_grave : Class
not_grave = 0x00 upto 0x5F ∷ 0x61 upto 0xFF ∷ []

abbrev pub comment : Rule
comment = one grave then many (one not_grave) then one grave

abbrev pub blank : Rule
blank = one dividing or comment

abbrev pub sp : Rule
sp = plus blank

-- the dividing space at i, if any, ends at j
abbrev pub Skips : List ℕ → ℕ → ℕ → Type 0
Skips text i j = Longest text (opt sp) i j
