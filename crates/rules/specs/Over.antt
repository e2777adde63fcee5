-- Numbers written over others, from a place on. Assumes nothing.
use Rattle.std.specs.Prelude.{List, [], ◌∷◌, ℕ, zero, suc}

-- the numbers ws written over t from place k on; those that do not fit are dropped
abbrev pub over : List ℕ → ℕ → List ℕ → List ℕ
over [] k ws = []
over (x ∷ t) zero [] = x ∷ t
over (x ∷ t) zero (w ∷ ws) = w ∷ over t zero ws
over (x ∷ t) (suc k) ws = x ∷ over t k ws
