-- A row of bytes of which some are written and the rest is left to write. Assumes nothing.
use mathlib.Core.Path.{◌≡◌, refl, sym, subst, ◌∙◌}
use mathlib.Core.List.{List, [], ◌++◌, append_assoc, append-nil}
use Prim.Native.Nat.{ℕ}
use Rattle.buffer.specs.declared.Writer.{Writer}
use Rattle.buffer.specs.Appends.{Appends}
use Rattle.buffer.proofs.Appending.{appends_none, appends_then, appends_same}

pub record Going (u : Writer) (bs : List ℕ) (v : Writer) (rest : List ℕ) : Type 0 where
  pub done : List ℕ
  pub appends : Appends u done v
  pub all : done ++ rest ≡ bs

pub going : (u : Writer) (bs : List ℕ) → Going u bs u bs
going u bs = record { done = []; appends = appends_none u; all = refl }

-- the next bytes of the rest are written
pub going_on : {u v w : Writer} {bs rest : List ℕ} (xs : List ℕ) → Going u bs v (xs ++ rest) → Appends v xs w → Going u bs w rest
going_on {rest = rest} xs g a =
    record { done = g.done ++ xs; appends = appends_then g.appends a; all = append_assoc g.done xs rest ∙ g.all }

pub going_same : {u v : Writer} {bs xs ys : List ℕ} → xs ≡ ys → Going u bs v xs → Going u bs v ys
going_same {u} {v} {bs} e g = subst (λ (l : List ℕ). Going u bs v l) e g

pub gone : {u v : Writer} {bs : List ℕ} → Going u bs v [] → Appends u bs v
gone g = appends_same (sym (append-nil g.done) ∙ g.all) g.appends
