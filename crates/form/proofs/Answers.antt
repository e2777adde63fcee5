-- Writer and converter have an answer for every text that has a reading, every table and every buffer, and no other; a refusal writes nothing.
-- Assumes nothing.
use mathlib.Core.Path.{◌≡◌, refl, subst}
use mathlib.Core.Logic.{◌⊎◌, inl, inr}
use mathlib.Core.List.{List}
use mathlib.Core.Option.{Option, none, some, none-ne-some, some-injective}
use Prim.Native.Nat.{ℕ, ◌*◌}
use lib.ListN.{length, take}
use Rattle.grammar.specs.Tree.{Value}
use Rattle.grammar.specs.Nodes.{table, table_words, node_words}
use Rattle.decisions.proofs.Tests.{settled, same_as_lem}
use Rattle.reading.specs.declared.Answer.{Answer}
use Rattle.reading.specs.declared.Rules.{Rules}
use Rattle.reading.specs.Answers.{Reading}
use Rattle.reading.specs.Tabled.{Holds, Judged, Tabled}
use Rattle.reading.specs.Buffer.{Fills, no_room, written}
use Rattle.reading.proofs.Unique.{one_reading}
use Rattle.reading.proofs.Tabled.{one_tabled}
use Rattle.reading.proofs.Buffer.{one_filling, some_filling}
use Rattle.form.specs.Spell.{plain_form}
use Rattle.form.specs.Writes.{Rewrites, Writes, Converts, refused, told}

-- ---- however the text is judged

module _ (Judges : Answer → Option Value → Type 0) (text lent : List ℕ) where
  some_rewriting : {a : Answer} (t : Option Value) → Judges a t → (r : Answer) × (left : List ℕ) × Rewrites Judges text lent r left
  some_rewriting none x = (_, lent, refused x)
  some_rewriting (some v) x = let f = some_filling lent (length text) (plain_form text v) in (_, _, told x f.2)

  nothing_rewritten : {r : Answer} {left : List ℕ} → Rewrites Judges text lent r left → (r.number ≡ 0 → ⊥) → left ≡ lent
  nothing_rewritten (refused x) n = refl
  nothing_rewritten (told x (no_room h)) n = refl
  nothing_rewritten (told x (written h)) n = absurd (n refl)

  -- where it is judged in one way
  module _ (one : (a b : Answer) (t u : Option Value) → Judges a t → Judges b u → (a ≡ b) × (t ≡ u)) where
    one_rewriting : {r s : Answer} {t u : List ℕ} → Rewrites Judges text lent r t → Rewrites Judges text lent s u → (r ≡ s) × (t ≡ u)
    one_rewriting (refused x) (refused y) = ((one _ _ _ _ x y).0, refl)
    one_rewriting (refused x) (told {v = v} y g) = absurd (none-ne-some v (one _ _ _ _ x y).1)
    one_rewriting (told {v = v} x f) (refused y) = absurd (none-ne-some v (one _ _ _ _ y x).1)
    one_rewriting {s = s} {u = u} (told {v = v} x f) (told {v = w} y g) =
        let e = some-injective w v (one _ _ _ _ y x).1 in
        one_filling lent (length text) (plain_form text v) f (subst (λ (z : Value). Fills lent (length text) (plain_form text z) s u) e g)

module _ (rules : Rules) (text words : List ℕ) {number : ℕ} where
  -- ---- a text with its table

  pub some_tabled : {a : Answer} (t : Option Value) → Judged rules text words number a t → (r : Answer) × (u : Option Value) × Tabled rules text words number r u
  some_tabled none x = (_, _, Tabled.refused x)
  some_tabled (some v) x = by (settled (same_as_lem (table_words (table v)) (take (node_words * length (table v)) words)))
    where
      by : Holds words v ⊎ (Holds words v → ⊥) → (r : Answer) × (u : Option Value) × Tabled rules text words number r u
      by (inl h) = (_, _, Tabled.shown x h)
      by (inr n) = (_, _, Tabled.other_table x n)

  -- ---- the writer

  module _ (lent : List ℕ) where
    pub some_writing : {a : Answer} (t : Option Value) → Tabled rules text words number a t →
        (r : Answer) × (left : List ℕ) × Writes rules text words lent number r left
    some_writing t x = some_rewriting (Tabled rules text words number) text lent t x

    pub one_writing : {r s : Answer} {t u : List ℕ} → Writes rules text words lent number r t → Writes rules text words lent number s u → (r ≡ s) × (t ≡ u)
    one_writing x y = one_rewriting (Tabled rules text words number) text lent (λ a b t u i j. one_tabled rules text words i j) x y

    pub nothing_written : {r : Answer} {left : List ℕ} → Writes rules text words lent number r left → (r.number ≡ 0 → ⊥) → left ≡ lent
    nothing_written x n = nothing_rewritten (Tabled rules text words number) text lent x n

-- ---- the converter

module _ (rules : Rules) (text lent : List ℕ) {number : ℕ} where
  pub some_conversion : {a : Answer} (t : Option Value) → Reading rules text rules.nodes number a t →
      (r : Answer) × (left : List ℕ) × Converts rules text lent number r left
  some_conversion t x = some_rewriting (Reading rules text rules.nodes number) text lent t x

  pub one_conversion : {r s : Answer} {t u : List ℕ} → Converts rules text lent number r t → Converts rules text lent number s u → (r ≡ s) × (t ≡ u)
  one_conversion x y = one_rewriting (Reading rules text rules.nodes number) text lent (λ a b t u i j. one_reading rules text i j) x y

  pub nothing_converted : {r : Answer} {left : List ℕ} → Converts rules text lent number r left → (r.number ≡ 0 → ⊥) → left ≡ lent
  nothing_converted x n = nothing_rewritten (Reading rules text rules.nodes number) text lent x n
