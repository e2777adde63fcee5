-- What is appended is what the part has. Assumes nothing.
use mathlib.Core.Path.{◌≡◌, refl, ap, ◌∙◌}
use mathlib.Core.List.{List}
use Prim.Native.Nat.{ℕ}
use lib.ListN.{length}
use Rattle.std.specs.Borrow.{MutBor}
use Rattle.buffer.specs.Appends.{Begins, Appends, AppendsPart}
use Rattle.buffer.specs.Wrote.{Wrote}
use Rattle.buffer.specs.declared.Writer.{Writer}
use Rattle.buffer.proofs.Appending.{appends_same, appends_length, lent_back, put_in}

module _ {Part : List ℕ → Type 0} {u v : Writer} where
  pub part_of : {xs : List ℕ} → ((bs : List ℕ) → Part bs → xs ≡ bs) → Appends u xs v → AppendsPart Part u v
  part_of f a =
      record { appends = λ bs x. appends_same (f bs x) a; same_buffer = a.same_buffer; same_length = appends_length a }

  -- another part has the same bytes
  pub part_as : {Same : List ℕ → Type 0} → ((bs : List ℕ) → Same bs → Part bs) → AppendsPart Part u v → AppendsPart Same u v
  part_as f w =
      record { appends = λ bs x. w.appends bs (f bs x); same_buffer = w.same_buffer; same_length = w.same_length }

  -- they are in the lent buffer when the writer is dropped: t is then its bytes
  pub part_in : {lent : MutBor (List ℕ)} {t : List ℕ} → Begins lent u → AppendsPart Part u v →
      (lent.ghost_name ≡ v.buffer.ghost_name → t ≡ v.buffer.now) → Wrote Part lent.now 0 t v.at
  part_in b a f =
      record {
        puts = λ bs x. put_in b (a.appends bs x) f;
        same_length = ap length (lent_back v b a.same_buffer f) ∙ a.same_length ∙ ap length b.same_bytes;
      }

-- no bytes are the part's
pub part_none : {Part : List ℕ → Type 0} {w : Writer} → ((bs : List ℕ) → Part bs → ⊥) → AppendsPart Part w w
part_none f = record { appends = λ bs x. absurd (f bs x); same_buffer = refl; same_length = refl }
