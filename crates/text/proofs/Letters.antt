-- The letter of a base's mark. Assumes nothing.
use mathlib.Core.Path.{◌≡◌, subst}
use Prim.Native.Nat.{ℕ}
use Rattle.lexicon.specs.declared.Base.{Base}
use Rattle.std.proofs.Common.{Option}
use Rattle.text.specs.Letters.{Letters}

-- what an answer says, once it is known which
pub answered : (b : ℕ) {r s : Option Base} → r ≡ s → Letters b r → Letters b s
answered b e l = subst (λ (x : Option Base). Letters b x) e l
