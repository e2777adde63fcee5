-- What the UTF-8 test answers as a call, with its steps: 02, request 2. Number, place and steps of each text. Assumes
-- nothing.
use Rattle.std.specs.Prelude.{[], ◌∷◌, ◌++◌}
use Rattle.rules.specs.Class.{codes}
use Rattle.values.specs.Utf8.{Utf8Answers}

pub record Steps : Type 0 where
  -- eight, eight and one
  pub seventeen : Utf8Answers (codes "aaaaaaaaaaaaaaaaa") 0 17 3
  pub eight : Utf8Answers (codes "aaaaaaaa") 0 8 1
  pub seven : Utf8Answers (codes "aaaaaaa") 0 7 7
  pub no_byte : Utf8Answers [] 0 0 0
  -- a longer sequence is one step
  pub behind_eight : Utf8Answers (codes "aaaaaaaa" ++ (0xC3 ∷ 0xA9 ∷ [])) 0 10 2
  -- seven, the sequence, eight from place 9, and one; the look at FF is no step
  pub refused_late : Utf8Answers (codes "aaaaaaa" ++ (0xC3 ∷ 0xA9 ∷ codes "bbbbbbbbb") ++ (0xFF ∷ [])) 3 18 10
  pub refused_at_once : Utf8Answers (0xFF ∷ []) 3 0 0
