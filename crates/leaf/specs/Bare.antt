-- A byte of a literal, as the code holds it. No rule. Assumes nothing.
use Rattle.std.specs.Prelude.{cond, List, [], ◌∷◌, ℕ}
use Rattle.form.specs.Bare as Bare
use Rattle.leaf.specs.declared.bare.Where.{Where}

-- where it stands
abbrev pub where_of : Where → Bare.Where
where_of Where.Outside = Bare.outside
where_of Where.Quotes = Bare.quotes
where_of Where.Comment = Bare.comment

-- the byte if it is kept, else none
abbrev pub kept_bytes : Bare.Where → ℕ → List ℕ
kept_bytes w b = cond (Bare.kept w b) (b ∷ []) []
