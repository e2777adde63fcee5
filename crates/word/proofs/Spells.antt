-- Exactly these bytes, byte by byte. Assumes nothing.
use mathlib.Core.Bool.{Bool, true, false, not}
use mathlib.Core.List.{List}
use Prim.Native.Nat.{ℕ, ◌+◌, ◌-◌, ◌≤◌, ◌<◌}
use native.Mathlib.Omega.{arith}
use borrow.Author.Count.{below_more}
use borrow.Author.Tests.{not-true, not-false}
use mathlib.Core.Path.{◌≡◌}
use lib.ListN.{length, get_or}
use Rattle.rules.specs.Test.{Says}
use Rattle.rules.specs.Class.{just}
use Rattle.rules.specs.Rule.{one, row, Takes, At}
use Rattle.rules.proofs.Classes.{is_just, just_is}
use Rattle.rules.proofs.Matches.{row_end}
use Rattle.rules.proofs.Tests.{says_no, says_yes, there, not_there}
use Rattle.word.proofs.Words.{Same, row_takes, row_same}

-- the first k of the bytes stand from i on
pub record Matched (text w : List ℕ) (i k : ℕ) : Type 0 where
  pub same : Same text w i k
  pub within : k ≤ length w

module _ (text w : List ℕ) (i j : ℕ) where
  pub spells_back : j < i → Says false (Takes text (row w) i j)
  spells_back h = says_no (λ t. let e = row_end w t in omega arith)

  pub spells_longer : i ≤ j → (j - i ≡ length w → ⊥) → Says false (Takes text (row w) i j)
  spells_longer h n = says_no (λ t. let e = row_end w t in n (omega arith))

  pub spells_all : (k : ℕ) → i ≤ j → j - i ≡ length w → Matched text w i k → length w ≤ k → Says true (Takes text (row w) i j)
  spells_all k h e m l =
      says_yes (row_takes text w i j (omega arith) (λ n lt. m.same n (omega arith)))

  pub spells_other : (k : ℕ) (o : Bool) → k < length w → Says o (Takes text (one (just (get_or w k 0))) (i + k) (i + k + 1)) → not o ≡ true → Says false (Takes text (row w) i j)
  spells_other k o h s e =
      says_no (λ t.
      let p = row_same text w t k h in
      not_there s (not-true o e) (p.0, is_just (get_or w k 0) (get_or text (i + k) 0) p.1))

  pub spells_more : (k : ℕ) (o : Bool) → k < length w → Matched text w i k → Says o (Takes text (one (just (get_or w k 0))) (i + k) (i + k + 1)) → not o ≡ false → Matched text w i (k + 1)
  spells_more k o h m s e = record { same = below_more _ k m.same (a.0, just_is _ _ a.1); within = omega arith }
    where
      a : At text (just (get_or w k 0)) (i + k)
      a = there s (not-false o e)

  pub spells_none : Matched text w i 0
  spells_none = record { same = λ k h. absurd (omega arith); within = omega arith }
