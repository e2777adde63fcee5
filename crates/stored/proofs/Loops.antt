-- The bytes of a file one after the other: put into a buffer, and compared. Assumes nothing.
use mathlib.Core.Path.{◌≡◌, sym, ap, ◌∙◌}
use mathlib.Core.List.{List, [], ◌∷◌}
use Prim.Native.Nat.{ℕ, ◌+◌, ◌*◌, ◌<◌}
use native.Mathlib.Omega.{arith}
use lib.ListN.{length, get_or, take}
use lib.Seq.{ext_get_or, take-length}
use Rattle.grammar.specs.Tree.{Value}
use Rattle.files.specs.File.{file}
use Rattle.files.proofs.Bytes.{file_length}
use Rattle.buffer.specs.declared.Writer.{Writer}
use Rattle.buffer.specs.Appends.{Appends}
use Rattle.buffer.proofs.Appending.{appends_same, appends_next}
use Rattle.stored.specs.Holds.{Holds}

module _ {t : List ℕ} {nodes size : ℕ} {text : List ℕ} {v : Value} (held : Holds t nodes size text v) where
  -- as many bytes as the nodes tell
  pub told_length : length (file text v) ≡ 9 + 12 * nodes
  told_length = omega (arith, file_length text v, held.nodes_are)

  -- ---- put

  pub put_more : {u w x : Writer} (at : ℕ) {b : ℕ} → at < 9 + 12 * nodes → b ≡ get_or (file text v) at 0 → Appends u (take at (file text v)) w →
      Appends w (b ∷ []) x → Appends u (take (at + 1) (file text v)) x
  put_more at h e p q = appends_next (file text v) at (omega (arith, h, told_length)) p (appends_same (ap (λ (x : ℕ). x ∷ []) e) q)

  pub put_all : {u w : Writer} (at : ℕ) → at ≡ 9 + 12 * nodes → Appends u (take at (file text v)) w → Appends u (file text v) w
  put_all at e p =
      let m : at ≡ length (file text v) = omega (arith, e, told_length) in
      appends_same (ap (λ (n : ℕ). take n (file text v)) m ∙ take-length (file text v)) p

  -- ---- compared

  pub other_length : (bytes : List ℕ) → (length bytes ≡ 9 + 12 * nodes → ⊥) → bytes ≡ file text v → ⊥
  other_length bytes n e = n (ap length e ∙ told_length)

  pub all_same : (bytes : List ℕ) → length bytes ≡ 9 + 12 * nodes → ((k : ℕ) → k < length bytes → get_or bytes k 0 ≡ get_or (file text v) k 0) →
      bytes ≡ file text v
  all_same bytes l same = ext_get_or 0 bytes (file text v) (l ∙ sym told_length) same
