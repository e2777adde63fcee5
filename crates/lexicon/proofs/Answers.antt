-- An answer taken apart: what a search's answer says once its variant is known. Assumes nothing.
use mathlib.Core.Path.{◌≡◌, subst}
use mathlib.Core.List.{List}
use Prim.Native.Nat.{ℕ}
use native.Mathlib.Nat.{le_antisymm}
use native.Mathlib.Omega.{arith}
use lib.ListN.{length}
use Rattle.rules.specs.Test.{Says}
use Rattle.rules.specs.Rule.{Rule, Takes, Longest, Fails}
use Rattle.rules.proofs.Matches.{inside}
use Rattle.std.specs.Prelude.{Option, Some, None, Result}
use Rattle.lexicon.specs.declared.NotUtf8.{NotUtf8}
use Rattle.lexicon.specs.declared.Literal.{Literal}
use Rattle.lexicon.specs.Found.{Finds, Judges}
use Rattle.lexicon.specs.Utf8.{Encoded}

module _ {text : List ℕ} {r : Rule} {i : ℕ} where
  pub found_at : {f : Option ℕ} {j : ℕ} → f ≡ Some j → Finds text r i f → Longest text r i j
  found_at e l = subst (λ (x : Option ℕ). Finds text r i x) e l

  pub found_none : {f : Option ℕ} → f ≡ None → Finds text r i f → Fails text r i
  found_none e l = subst (λ (x : Option ℕ). Finds text r i x) e l

module _ {text : List ℕ} {r : Rule} {i : ℕ} (P : ℕ → ℕ → Type 0) where
  pub judged_at : {l : Option Literal} {k : Literal} → l ≡ Some k → Judges text r P i l → Longest text r i k.end × Says k.bad (P i k.end)
  judged_at e y = subst (λ (x : Option Literal). Judges text r P i x) e y

  pub judged_none : {l : Option Literal} → l ≡ None → Judges text r P i l → Fails text r i
  judged_none e y = subst (λ (x : Option Literal). Judges text r P i x) e y

pub encoded_as : (text : List ℕ) {v w : Result (Unit {0}) NotUtf8} → v ≡ w → Encoded text v → Encoded text w
encoded_as text e x = subst (λ (y : Result (Unit {0}) NotUtf8). Encoded text y) e x

-- a longest match that ends before the text does is no match of all of it
pub shorter : {text : List ℕ} {r : Rule} {e : ℕ} → Longest text r 0 e → (e ≡ length text → ⊥) → Takes text r 0 (length text) → ⊥
shorter l n t = n (le_antisymm (inside l.takes (omega arith)) (l.most t))
