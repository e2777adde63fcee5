-- The states of the padding of base-64 characters, each by its number in the machine that tells which characters
-- encode bytes (lexicon/proofs/Paddings.antt). Assumes nothing.
use Rattle.std.specs.Prelude.{◌≡◌, ℕ, zero, suc, ◌+◌, ◌<◌, ◌≤◌, List, length, get_or, Bool, eqb}
use Rattle.rules.specs.Class.{byte_of}
use Rattle.lexicon.proofs.Paddings.{unfit, next_state_of}
use Rattle.number.specs.declared.padding.Padding.{Padding}
use Rattle.number.specs.declared.padding.Padding.TheVariants.{Start, Character, OneMore, NoMore, Unfit}

abbrev pub code_of : Padding → ℕ
code_of Start = 0
code_of (Character b) = b + 4
code_of OneMore = 1
code_of NoMore = 2
code_of Unfit = unfit

abbrev pub state_of : ℕ → Padding
state_of zero = Start
state_of (suc zero) = OneMore
state_of (suc (suc zero)) = NoMore
state_of (suc (suc (suc zero))) = Unfit
state_of (suc (suc (suc (suc b)))) = Character b

-- behind a character more
abbrev pub next_of : Padding → ℕ → Padding
next_of s b = state_of (next_state_of (code_of s) b)

-- the characters so far encode no bytes
abbrev pub unfit_of : Padding → Bool
unfit_of s = eqb (code_of s) unfit

-- the first n characters are no `=`
pub record Unpadded (ds : List ℕ) (n : ℕ) : Type 0 where
  pub within : n ≤ length ds
  pub no_pad : (i : ℕ) → i < n → get_or ds i 0 ≡ byte_of "=" → ⊥
