-- What a writer appends: nothing, one byte, one row of bytes behind another; and what is then in the buffer that it was lent.
-- Assumes nothing.
use mathlib.Core.Path.{◌≡◌, refl, sym, subst, ◌∙◌}
use mathlib.Core.List.{List, [], ◌∷◌, ◌++◌}
use Prim.Native.Nat.{ℕ, ◌+◌, ◌<◌}
use lib.ListN.{length, get_or, take}
use Rattle.std.specs.Borrow.{MutBor}
use Rattle.buffer.specs.Puts.{Puts}
use Rattle.buffer.specs.Appends.{Begins, Appends}
use Rattle.buffer.specs.declared.Writer.{Writer}
use Rattle.buffer.proofs.Puts.{puts_none, puts_same, puts_length, puts_then, puts_next}

pub appends_none : (w : Writer) → Appends w [] w
appends_none w = record { same_buffer = refl; puts = puts_none _ _ w.within w.placed }

-- a row that has no bytes, whatever test shows it
pub appends_nothing : {w : Writer} {bs : List ℕ} → bs ≡ [] → Appends w bs w
appends_nothing {w} e = subst (λ (xs : List ℕ). Appends w xs w) (sym e) (appends_none w)

module _ {u v : Writer} where
  -- a row of bytes that is written in another way
  pub appends_same : {xs bs : List ℕ} → xs ≡ bs → Appends u xs v → Appends u bs v
  appends_same e a = record { same_buffer = a.same_buffer; puts = puts_same e a.puts }

  pub appends_length : {bs : List ℕ} → Appends u bs v → length v.buffer.now ≡ length u.buffer.now
  appends_length a = puts_length a.puts

  -- one row of bytes behind another
  pub appends_then : {w : Writer} {xs bs : List ℕ} → Appends u xs v → Appends v bs w → Appends u (xs ++ bs) w
  appends_then a b = record { same_buffer = b.same_buffer ∙ a.same_buffer; puts = puts_then a.puts b.puts }

  -- the bytes of a slice, one more
  pub appends_next : (bytes : List ℕ) (i : ℕ) → i < length bytes → {w : Writer} → Appends u (take i bytes) v →
      Appends v (get_or bytes i 0 ∷ []) w → Appends u (take (i + 1) bytes) w
  appends_next bytes i h a b = record { same_buffer = b.same_buffer ∙ a.same_buffer; puts = puts_next bytes i h a.puts b.puts }

-- when a writer is dropped, the lent buffer has the bytes t that the writer had
pub lent_back : {lent : MutBor (List ℕ)} {t : List ℕ} {u : Writer} (v : Writer) → Begins lent u →
    v.buffer.ghost_name ≡ u.buffer.ghost_name → (lent.ghost_name ≡ v.buffer.ghost_name → t ≡ v.buffer.now) → t ≡ v.buffer.now
lent_back v b e f = f (sym (e ∙ b.same_buffer))

-- among them what was appended from the start on
pub put_in : {lent : MutBor (List ℕ)} {t bs : List ℕ} {u v : Writer} → Begins lent u → Appends u bs v →
    (lent.ghost_name ≡ v.buffer.ghost_name → t ≡ v.buffer.now) → Puts lent.now 0 bs t v.at
put_in {lent} {t} {bs} {u} {v} b a f =
    subst (λ (s : List ℕ). Puts s 0 bs t v.at) b.same_bytes
    (subst (λ (k : ℕ). Puts u.buffer.now k bs t v.at) b.start
    (subst (λ (s : List ℕ). Puts u.buffer.now u.at bs s v.at) (sym (lent_back v b a.same_buffer f)) a.puts))
