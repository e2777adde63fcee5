-- The listings that 01 prints, byte for byte. Assumes nothing.
use mathlib.Core.Path.{◌≡◌, refl}
use mathlib.Core.List.{[], ◌∷◌}
use Rattle.reading.specs.Answers.{answer}
use Rattle.listing.specs.Listing.{digits, decimal, node_lines, listing}

-- ok 2 3, 9 0 5 0 0 0 3, 7 1 2 0 1 2 2, 7 3 4 0 2 2 3: the listing of `(x:y)`, with the seventh words of 02's request 7
pub pair : listing 2 (answer 0 5 3) (9 ∷ 0 ∷ 5 ∷ 0 ∷ 0 ∷ 0 ∷ 3 ∷ 7 ∷ 1 ∷ 2 ∷ 0 ∷ 1 ∷ 2 ∷ 2 ∷ 7 ∷ 3 ∷ 4 ∷ 0 ∷ 2 ∷ 2 ∷ 3 ∷ []) ≡
    111 ∷ 107 ∷ 32 ∷ 50 ∷ 32 ∷ 51 ∷ 10 ∷
    57 ∷ 32 ∷ 48 ∷ 32 ∷ 53 ∷ 32 ∷ 48 ∷ 32 ∷ 48 ∷ 32 ∷ 48 ∷ 32 ∷ 51 ∷ 10 ∷
    55 ∷ 32 ∷ 49 ∷ 32 ∷ 50 ∷ 32 ∷ 48 ∷ 32 ∷ 49 ∷ 32 ∷ 50 ∷ 32 ∷ 50 ∷ 10 ∷
    55 ∷ 32 ∷ 51 ∷ 32 ∷ 52 ∷ 32 ∷ 48 ∷ 32 ∷ 50 ∷ 32 ∷ 50 ∷ 32 ∷ 51 ∷ 10 ∷ []
unfolding digits node_lines
pair = refl

-- no 6 4
pub refusal : listing 2 (answer 6 4 0) [] ≡ 110 ∷ 111 ∷ 32 ∷ 54 ∷ 32 ∷ 52 ∷ 10 ∷ []
unfolding digits
refusal = refl

pub ten : decimal 10 ≡ 49 ∷ 48 ∷ []
unfolding digits
ten = refl
