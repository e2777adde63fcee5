-- The UTF-8 test as a call has an answer for every text, and only one; and it is what the test of the code says. Assumes nothing.
use mathlib.Core.Path.{◌≡◌, refl, subst}
use mathlib.Core.List.{List}
use Prim.Native.Nat.{ℕ}
use lib.ListN.{length}
use Rattle.std.specs.Prelude.{Result, Ok, Err}
use Rattle.lexicon.specs.declared.NotUtf8.{NotUtf8}
use Rattle.lexicon.specs.declared.Tested.{Tested}
use Rattle.lexicon.specs.Utf8.{Encoded}
use Rattle.lexicon.specs.Steps.{Steps, place_of, TestedAs}
use Rattle.lexicon.proofs.Determined.{formed_or_bad, one_bad}
use Rattle.lexicon.proofs.Steps.{one_count}
use Rattle.decisions.proofs.Utf8.{tested}
use Rattle.values.specs.Utf8.{Utf8Answers, well_formed, not_utf8}

module _ (text : List ℕ) where
  pub one_answer : {m n p q s t : ℕ} → Utf8Answers text m p s → Utf8Answers text n q t → (m ≡ n) × (p ≡ q) × (s ≡ t)
  one_answer (well_formed v s) (well_formed w t) = (refl, refl, one_count text s t)
  one_answer (well_formed w s) (not_utf8 b t) = absurd (formed_or_bad text w b)
  one_answer (not_utf8 b s) (well_formed w t) = absurd (formed_or_bad text w b)
  one_answer (not_utf8 {n = n} a s) (not_utf8 b t) =
      let e = one_bad text a b in (refl, e, one_count text (subst (λ (p : ℕ). Steps text p n) e s) t)

  -- ---- by the variant of the test's answer

  abbrev number_of : Result (Unit {0}) NotUtf8 → ℕ
  number_of (Ok _) = 0
  number_of (Err p) = 3

  answer : (e : Result (Unit {0}) NotUtf8) {n : ℕ} → Encoded text e → Steps text (place_of text e) n → Utf8Answers text (number_of e) (place_of text e) n
  answer (Ok _) w s = well_formed w s
  answer (Err p) b s = not_utf8 b s

  -- the same where the variant is known by an equation
  answer_as : {r : Tested} {e : Result (Unit {0}) NotUtf8} → r.encoding ≡ e → TestedAs text r → Utf8Answers text (number_of e) (place_of text e) r.steps
  answer_as {r} q t =
      subst (λ (x : Result (Unit {0}) NotUtf8). Utf8Answers text (number_of x) (place_of text x) r.steps) q (answer r.encoding t.encoded t.steps_are)

  pub formed_answer : {r : Tested} → r.encoding ≡ Ok tt → TestedAs text r → Utf8Answers text 0 (length text) r.steps
  formed_answer q t = answer_as q t

  pub bad_answer : {r : Tested} {p : NotUtf8} → r.encoding ≡ Err p → TestedAs text r → Utf8Answers text 3 p.at r.steps
  bad_answer q t = answer_as q t

  -- ---- exactly one

  pub exactly_one : (number : ℕ) × (place : ℕ) × (steps : ℕ) × Utf8Answers text number place steps ×
      ((m p s : ℕ) → Utf8Answers text m p s → (m ≡ number) × (p ≡ place) × (s ≡ steps))
  exactly_one = let x = answer_as refl (tested text).1 in (_, _, _, x, λ m p s y. one_answer y x)
