-- A byte that was read, and its sets by its class. Assumes nothing.
use mathlib.Core.Path.{◌≡◌, sym, ap, subst, ◌∙◌}
use mathlib.Core.Bool.{Bool}
use mathlib.Core.List.{List}
use Prim.Native.Nat.{ℕ, ◌+◌, ◌<◌}
use native.Mathlib.Omega.{arith}
use lib.ListN.{length, get_or}
use Rattle.rules.specs.Class.{In, has, just}
use Rattle.rules.specs.Rule.{At}
use Rattle.rules.proofs.Classes.{in_just, just_is}
use Rattle.lexicon.specs.declared.Set.{Set}
use Rattle.lexicon.specs.Bytes.{class_of, members}
use Rattle.text.specs.Classes.{in_sum}
use Rattle.text.proofs.Sets.{in_class}

pub add_two : (n : ℕ) → n + 2 ≡ n + 1 + 1
add_two n = omega arith

module _ (text : List ℕ) where
  -- a byte that was read
  pub read_at : (b m : ℕ) → m < length text → get_or text m 0 ≡ b → At text (just b) m
  read_at b m h e = (h, subst (In (just b)) (sym e) (in_just b))

  pub at_is : (b m : ℕ) → At text (just b) m → get_or text m 0 ≡ b
  at_is b m a = just_is b (get_or text m 0) a.1

  -- one that `get` lent
  pub got_at : (b : ℕ) {c m : ℕ} → (m < length text) × (c ≡ get_or text m 0) → c ≡ b → At text (just b) m
  got_at b g e = read_at b _ g.0 (sym g.1 ∙ e)

  pub got_not : (b : ℕ) {c m : ℕ} → c ≡ get_or text m 0 → (c ≡ b → ⊥) → At text (just b) m → ⊥
  got_not b e n a = n (e ∙ at_is b _ a)

-- a set's bit of its class, as true or false
pub by_class : (s : Set) {b x : ℕ} {o t : Bool} → b < 256 → x ≡ class_of b → o ≡ in_sum s x → o ≡ t → has (members s) b ≡ t
by_class s {b} h e f g = sym (f ∙ ap (in_sum s) e ∙ in_class s b h) ∙ g
