-- Tests in their order: the first that holds decides. Assumes nothing.
use Rattle.std.specs.Prelude.{◌≡◌, ◌⊎◌, List, [], ◌∷◌, ℕ}

-- a refusal's number, and when it is given
pub record Test : Type 1 where
  pub number : ℕ
  pub holds : Type 0

abbrev pub test : ℕ → Type 0 → Test
test n P = record { number = n; holds = P }

-- n is the number of the first test that holds
abbrev pub First : List Test → ℕ → Type 0
First [] n = ⊥
First (t ∷ ts) n = ((n ≡ t.number) × t.holds) ⊎ ((t.holds → ⊥) × First ts n)
