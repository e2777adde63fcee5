-- Base-64 characters as a row of bytes alone: how `=` may stand among them, and which bits of the last one before it must be zero.
-- Assumes nothing.
use mathlib.Core.Path.{◌≡◌, refl}
use mathlib.Core.List.{List, [], ◌∷◌, ◌++◌}
use Prim.Native.Nat.{ℕ, ◌%◌, ◌^◌, ◌≤◌}
use native.Mathlib.Omega.{arith}
use lib.ListN.{replicate}
use Rattle.rules.specs.Class.{byte_of}
use Rattle.rules.specs.Every.{Every, none}
use Rattle.lexicon.specs.Parts.{sextet}

-- the value of the last character, after one of value v
abbrev pub last_from : ℕ → List ℕ → ℕ
last_from v [] = v
last_from v (c ∷ cs) = last_from (sextet c) cs

-- such a row, after a character of value v
pub record FitFrom (v : ℕ) (ds : List ℕ) : Type 0 where
  pub characters : List ℕ
  pub padding : ℕ
  pub are : ds ≡ characters ++ replicate padding (byte_of "=")
  pub no_pad : Every (λ c. c ≡ byte_of "=" → ⊥) characters
  pub at_most_two : padding ≤ 2
  -- two bits of the last character are left over for each `=`
  pub left_over : last_from v characters % 4 ^ padding ≡ 0

abbrev pub Fit : List ℕ → Type 0
Fit ds = FitFrom 0 ds

pub fit_nothing : {v : ℕ} → FitFrom v []
fit_nothing = record { characters = []; padding = 0; are = refl; no_pad = none; at_most_two = omega arith; left_over = omega arith }
