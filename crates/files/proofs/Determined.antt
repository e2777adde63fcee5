-- What the writer and the checker answer is one: number, place, count and every byte of the buffer. Assumes nothing.
use mathlib.Core.Path.{◌≡◌, refl, sym, ap, subst, ◌∙◌}
use mathlib.Core.Logic.{◌⊎◌, inl, inr}
use mathlib.Core.List.{List, ◌++◌}
use mathlib.Core.Option.{none, some, none-ne-some, some-injective}
use Prim.Native.Nat.{ℕ}
use native.Mathlib.Omega.{arith}
use lib.ListN.{length, drop}
use Rattle.grammar.specs.Tree.{Value}
use Rattle.reading.specs.declared.Answer.{Answer}
use Rattle.reading.specs.declared.Rules.{Rules}
use Rattle.reading.specs.Answers.{answer}
use Rattle.reading.proofs.Tests.{None, one_test, no_test}
use Rattle.reading.proofs.Unique.{one_reading}
use Rattle.files.specs.File.{file}
use Rattle.files.specs.Writes.{Read, Writes, no_room, written}
use Rattle.files.specs.Checks.{Unmarked, OtherVersion, Stored, tests, Checks, refused, accepted}
use Rattle.files.proofs.Bytes.{file_length}

module _ (rules : Rules) (text : List ℕ) where
  -- ---- the readings of a text

  pub no_tree : {a b : Answer} {v : Value} → Read rules text a none → Read rules text b (some v) → ⊥
  no_tree {v = v} x y = none-ne-some v (one_reading rules text x y).1

  pub one_file : {a b : Answer} {v w : Value} → Read rules text a (some v) → Read rules text b (some w) → file text v ≡ file text w
  one_file {v = v} {w = w} x y = ap (file text) (some-injective v w (one_reading rules text x y).1)

  -- ---- the writer

  module _ {lent : List ℕ} where
    pub one_writing : {r s : Answer} {t u : List ℕ} → Writes rules text lent r t → Writes rules text lent s u → (r ≡ s) × (t ≡ u)
    one_writing (Writes.refused x) (Writes.refused y) = ((one_reading rules text x y).0, refl)
    one_writing (Writes.refused x) (no_room y h) = absurd (no_tree x y)
    one_writing (Writes.refused x) (written y h) = absurd (no_tree x y)
    one_writing (no_room x h) (Writes.refused y) = absurd (no_tree y x)
    one_writing (no_room x h) (no_room y g) = (ap (λ (f : List ℕ). answer 8 (length text) (length f)) (one_file x y), refl)
    one_writing (no_room x h) (written y g) = absurd (omega (arith, h, g, ap length (one_file x y)))
    one_writing (written x h) (Writes.refused y) = absurd (no_tree y x)
    one_writing (written x h) (no_room y g) = absurd (omega (arith, h, g, ap length (one_file x y)))
    one_writing (written x h) (written y g) =
        let e = one_file x y in
        (ap (λ (f : List ℕ). answer 0 (length text) (length f)) e, ap (λ (f : List ℕ). f ++ drop (length f) lent) e)

  -- ---- the checker

  pub one_stored : {a b : List ℕ} → Stored rules text a → Stored rules text b → a ≡ b
  one_stored x y = x.bytes_are ∙ one_file x.read y.read ∙ sym y.bytes_are

  -- a file has the mark and the version, so no test holds of it
  passes : {bytes : List ℕ} → Stored rules text bytes → None (tests rules text bytes)
  passes s = ((λ n. marked (subst Unmarked s.bytes_are n)), ((λ n. subst OtherVersion s.bytes_are n refl), ((λ n. n s), tt)))
    where
      marked : Unmarked (file text s.tree) → ⊥
      marked (inl n) = n refl
      marked (inr h) = omega (arith, h, file_length text s.tree)

  pub one_checking : {bytes : List ℕ} {r s : Answer} → Checks rules text bytes r → Checks rules text bytes s → r ≡ s
  one_checking {bytes} (refused f) (refused g) = ap (λ (n : ℕ). answer n 0 0) (one_test (tests rules text bytes) f g)
  one_checking {bytes} (refused f) (accepted s) = absurd (no_test (tests rules text bytes) _ (passes s) f)
  one_checking {bytes} (accepted s) (refused f) = absurd (no_test (tests rules text bytes) _ (passes s) f)
  one_checking (accepted s) (accepted t) = refl

  -- 12 and 13 are given whatever the text
  pub whatever_text : {bytes : List ℕ} {r : Answer} (other : List ℕ) → Checks rules text bytes r → (r.number ≡ 12) ⊎ (r.number ≡ 13) → Checks rules other bytes r
  whatever_text other (refused (inl x)) e = refused (inl x)
  whatever_text other (refused (inr (m, inl x))) e = refused (inr (m, inl x))
  whatever_text other (refused (inr (m, inr (v, inl x)))) (inl e) = absurd (omega (arith, e, x.0))
  whatever_text other (refused (inr (m, inr (v, inl x)))) (inr e) = absurd (omega (arith, e, x.0))
  whatever_text other (refused (inr (m, inr (v, inr x)))) e = absurd x.1
  whatever_text other (accepted s) (inl e) = absurd (omega (arith, e))
  whatever_text other (accepted s) (inr e) = absurd (omega (arith, e))
