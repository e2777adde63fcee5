-- A literal's bytes in the plain form: 02, request 5, 'no … comments, dividing space …, no `_` between digits', and
-- 'quoted segments are set side by side, each as it stands'. Assumes nothing.
use Rattle.std.specs.Prelude.{Bool, true, false, not, cond, List, [], ◌∷◌, ◌++◌, ℕ, eqb}
use Rattle.rules.specs.Class.{Class, byte_of, any_of, has}
use Rattle.lexicon.specs.Bytes.{dividing}

-- where a byte of a literal stands: outside quotes and comments, or inside
pub data Where : Type 0 where
  outside quotes comment : Where

-- where the byte behind it stands: quotes and comments reach from their mark to the next one, since no quotation mark
-- stands inside quotes and no grave accent inside a comment
abbrev pub behind : Where → ℕ → Where
behind outside b = cond (eqb b (byte_of "\"")) quotes (cond (eqb b (byte_of "`")) comment outside)
behind quotes b = cond (eqb b (byte_of "\"")) outside quotes
behind comment b = cond (eqb b (byte_of "`")) outside comment

-- the four dividing bytes, the mark of a comment, and `_`
abbrev pub dropped : Class
dropped = dividing ++ any_of "`_"

-- outside quotes all bytes are kept but these, in quotes every byte, in a comment none
abbrev pub kept : Where → ℕ → Bool
kept outside b = not (has dropped b)
kept quotes b = true
kept comment b = false

unfoldable pub bare_from : Where → List ℕ → List ℕ
bare_from w [] = []
bare_from w (b ∷ bs) = cond (kept w b) (b ∷ bare_from (behind w b) bs) (bare_from (behind w b) bs)

abbrev pub bare : List ℕ → List ℕ
bare bs = bare_from outside bs
