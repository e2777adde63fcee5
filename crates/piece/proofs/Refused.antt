-- A piece that is refused: what the steps of a call found is its answer. Assumes nothing.
use Rattle.std.proofs.Common.{◌≡◌, ℕ, ◌≤◌, List, length}
use mathlib.Core.Path.{sym, subst⁻¹, ◌∙◌}
use mathlib.Core.Bool.{Bool, true, false, not}
use native.Mathlib.Nat.{le_antisymm}
use native.Mathlib.Omega.{arith}
use borrow.Author.Tests.{eqb-true, eq-eqb, not-true, not-false}
use lib.Dec.{eqb}
use Rattle.std.specs.Option.{option_eq}
use Rattle.rules.specs.Test.{Says}
use Rattle.rules.specs.Rule.{Rule}
use Rattle.rules.proofs.Matches.{inside, ending}
use Rattle.rules.proofs.Tests.{says_no, refuted}
use Rattle.lexicon.specs.Found.{Finds}
use Rattle.values.specs.Exactly.{Exactly}
use Rattle.std.specs.Prelude.{Option, Some, None, Result, Ok, Err, IsErrAnd}
use Rattle.lexicon.specs.declared.NotUtf8.{NotUtf8}
use Rattle.lexicon.specs.Utf8.{WellFormed, Encoded}
use Rattle.lexicon.proofs.Answers.{encoded_as}
use Rattle.reading.specs.declared.Refusal.{Refusal}
use Rattle.reading.specs.declared.Refused.{Refused}
use Rattle.reading.specs.declared.Rules.{Rules}
use Rattle.reading.specs.Refusals.{number_of}
use Rattle.values.specs.Bytes.{Call}
use Rattle.values.specs.Bytes as Bytes
use Rattle.values.specs.Integer.{refusal, IntegerAnswers}
use Rattle.values.specs.Integer as Integer
use Rattle.piece.specs.Sounds.{Unsound, too_long, not_utf8}
use Rattle.piece.specs.Fits.{Unfit, not_the_literal, bad, Refuses, Fits, Judges}

-- by the answer of the UTF-8 test
pub not_utf8_by : {rules : Rules} {piece : List ℕ} {r : Result (Unit {0}) NotUtf8} {b : NotUtf8} → length piece ≤ rules.text →
    Encoded piece r → r ≡ Err b → Unsound rules piece (record { refusal = Refusal.NotUtf8; place = b.at })
not_utf8_by {piece = piece} h u e = not_utf8 h (encoded_as piece e u)

-- whether a literal that was looked for at the front is all of the piece, by the test that says no
module _ {piece : List ℕ} {literal : Rule} where
  whole : (f : Option ℕ) → Finds piece literal 0 f → Says (option_eq eqb f (Some (length piece))) (Exactly literal piece)
  whole (Some j) l =
      record {
        true_holds = λ e. ending (eqb-true j (length piece) e) l.takes;
        holds_true = λ t. eq-eqb j (length piece) (le_antisymm (inside l.takes (omega arith)) (l.most t));
      }
  whole None f = says_no (λ t. f.none t)

  module _ (f : Option ℕ) {o : Bool} (l : Finds piece literal 0 f) (e : o ≡ not (option_eq eqb f (Some (length piece)))) where
    pub is_whole : o ≡ false → Exactly literal piece
    is_whole n = (whole f l).true_holds (not-false _ (sym e ∙ n))

    pub not_whole : o ≡ true → Exactly literal piece → ⊥
    not_whole n = refuted (whole f l) (not-true _ (sym e ∙ n))

-- ---- the answer of each call

module _ {rules : Rules} {piece : List ℕ} where
  pub unsound_integer : {r : Refused} → Unsound rules piece r → IntegerAnswers rules piece (refusal (number_of r.refusal) r.place)
  unsound_integer (too_long h) = Integer.too_long h
  unsound_integer (not_utf8 h b) = Integer.not_utf8 h b

  pub unsound_bytes : {call : Call} {r : Refused} → Unsound rules piece r → Refuses call piece rules r
  unsound_bytes (too_long h) lent = Bytes.too_long h
  unsound_bytes (not_utf8 h b) lent = Bytes.not_utf8 h b

  pub unfit_bytes : {call : Call} {r : Refused} → length piece ≤ rules.text → WellFormed piece → Unfit call piece r → Refuses call piece rules r
  unfit_bytes h w (not_the_literal n) lent = Bytes.not_the_literal h w n
  unfit_bytes h w (bad x b) lent = Bytes.bad h w x b

-- a sound piece that is found to fit or not is so judged
pub fits_judges : {Fit : Type 0} (call : Call) {piece : List ℕ} (Is : Fit → Type 0) (rules : Rules) (r : Result Fit Refused) →
    (length piece ≤ rules.text) × WellFormed piece → Fits call piece Is r → Judges call piece Is rules r
fits_judges call Is rules (Ok x) s f = (f, s.0, s.1)
fits_judges call Is rules (Err r) s u = unfit_bytes s.0 s.1 u

pub judged_unsound : {Fit : Type 0} (call : Call) {piece : List ℕ} (Is : Fit → Type 0) (rules : Rules) (r : Result Fit Refused) {x : Refused} →
    Unsound rules piece x → IsErrAnd r (λ y. y ≡ x) → Judges call piece Is rules r
judged_unsound call {piece} Is rules (Ok v) u e = absurd e
judged_unsound call {piece} Is rules (Err y) u e = subst⁻¹ (λ (z : Refused). Refuses call piece rules z) e (unsound_bytes u)
