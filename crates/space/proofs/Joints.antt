-- What joins two units ends behind one `_`, or behind the dividing space if there is any; most bytes begin neither. Assumes nothing.
use mathlib.Core.Path.{◌≡◌, refl}
use mathlib.Core.Logic.{⊎_elim}
use mathlib.Core.Bool.{true}
use mathlib.Core.List.{List, [], ◌∷◌}
use Prim.Native.Nat.{ℕ, ◌+◌, ◌≤◌, ◌<◌}
use native.Mathlib.Omega.{arith}
use lib.ListN.{length, get_or}
use Rattle.rules.specs.Class.{Class, ◌upto◌, any_of}
use Rattle.rules.specs.Rule.{opt, Takes, nothing, byte, left, right, Longest}
use Rattle.rules.proofs.Classes.{in_some, includes, is_just, just_is, in_cons, low_in, in_high}
use Rattle.rules.proofs.Ways.{never_takes, opens, opens_at}
use Rattle.lexicon.specs.Space.{sp, Skips}
use Rattle.lexicon.specs.Literals.{joint}
use Rattle.lexicon.proofs.Groups.{underscore_space}
use Rattle.text.proofs.Searches.{opt_missed}

-- every joint begins with one of these: the dividing bytes are among the first, then `_` and the grave accent
abbrev first : Class
first = 0x00 upto 0x20 ∷ 0x5F upto 0x60 ∷ []

joint_first : opens first joint ≡ true
unfolding opens includes in_some
joint_first = refl

module _ (text : List ℕ) (at : ℕ) where
  -- behind `_`
  pub joint_line : at < length text → get_or text at 0 ≡ 0x5F → Longest text (opt joint) at (at + 1)
  joint_line h e = record { takes = left (left (byte (h, is_just 0x5F _ e) refl)); most = most }
    where
      most : {k : ℕ} → Takes text (opt joint) at k → k ≤ at + 1
      most (left (left (byte a f))) = omega arith
      most (left (right t)) = absurd (never_takes text (any_of "_") sp underscore_space (h, is_just 0x5F _ e) t)
      most (right (nothing f)) = omega arith

  -- behind dividing space, if any
  pub joint_space : (m : ℕ) → (get_or text at 0 ≡ 0x5F → ⊥) → Skips text at m → Longest text (opt joint) at m
  joint_space m n k = record { takes = widen k.takes; most = most }
    where
      widen : {j : ℕ} → Takes text (opt sp) at j → Takes text (opt joint) at j
      widen (left t) = left (right t)
      widen (right t) = right t

      most : {j : ℕ} → Takes text (opt joint) at j → j ≤ m
      most (left (left (byte a f))) = absurd (n (just_is 0x5F _ a.1))
      most (left (right t)) = k.most (left t)
      most (right t) = k.most (right t)

  -- where a byte stands that begins neither
  pub joint_none : 0x21 ≤ get_or text at 0 → (get_or text at 0 ≡ 0x5F → ⊥) → (get_or text at 0 ≡ 0x60 → ⊥) → Longest text (opt joint) at at
  joint_none l n g = opt_missed record { none = none }
    where
      none : {k : ℕ} → Takes text joint at k → ⊥
      none t =
          ⊎_elim (λ x. omega (arith, l, in_high 0x00 0x20 _ x)) (λ x. omega (arith, low_in 0x5F 0x60 _ x, in_high 0x5F 0x60 _ x, n, g))
          (in_cons (0x00 upto 0x20) (0x5F upto 0x60 ∷ []) _ (opens_at text first joint joint_first t).1)
