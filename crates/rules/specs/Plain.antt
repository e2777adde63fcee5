-- The usual notion: which byte strings a rule matches, with no text around them. proofs/Plain.antt shows that what a
-- rule takes of a text is this. Assumes nothing.
use Rattle.std.specs.Prelude.{List, [], ◌∷◌, ◌++◌, ℕ, ◌-◌, take, drop}
use Rattle.rules.specs.Class.{Class, In}
use Rattle.rules.specs.Rule.{Rule, empty, one, ◌then◌, ◌or◌, many}

pub data Matches : Rule → List ℕ → Type 0 where
  no_byte : Matches empty []
  one_byte : {c : Class} {b : ℕ} → In c b → Matches (one c) (b ∷ [])
  joined : {r s : Rule} {a b : List ℕ} → Matches r a → Matches s b → Matches (r then s) (a ++ b)
  in_left : {r s : Rule} {a : List ℕ} → Matches r a → Matches (r or s) a
  in_right : {r s : Rule} {a : List ℕ} → Matches s a → Matches (r or s) a
  no_more : {r : Rule} → Matches (many r) []
  one_more : {r : Rule} {a b : List ℕ} → Matches r a → Matches (many r) b → Matches (many r) (a ++ b)

-- the bytes of a text from place i up to place j
unfoldable pub between : List ℕ → ℕ → ℕ → List ℕ
between text i j = take (j - i) (drop i text)
