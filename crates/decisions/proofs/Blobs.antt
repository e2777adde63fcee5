-- Whether a Blob's value is bad: in base 64, by the padding's machine. Assumes nothing.
use mathlib.Core.Bool.{Bool}
use mathlib.Core.List.{List}
use Prim.Native.Nat.{ℕ}
use native.Mathlib.Omega.{arith}
use lib.Dec.{eqb}
use Rattle.rules.specs.Test.{Says}
use Rattle.rules.specs.Rule.{◌then◌, opt, lit, Takes}
use Rattle.lexicon.specs.Bytes.{base64}
use Rattle.lexicon.specs.Space.{sp}
use Rattle.lexicon.specs.Literals.{blob}
use Rattle.lexicon.specs.Values.{Digits, Behind, mark_alone, mark_digits}
use Rattle.lexicon.specs.Bad.{NoBytes}
use Rattle.lexicon.proofs.Fit.{Fit, fit_nothing}
use Rattle.lexicon.proofs.Paddings.{run, unfit, unfit_says}
use Rattle.lexicon.proofs.Unfit.{unfit_no_bytes, no_bytes_unfit, no_bytes_only}
use Rattle.decisions.proofs.Tests.{by}
use Rattle.decisions.proofs.Cuts.{leads, cut}
use Rattle.decisions.proofs.Digits.{rows, row}

abbrev is_unfit : List ℕ → Bool
is_unfit ds = eqb (run 0 ds) unfit

module _ (text : List ℕ) where
  -- digits behind the mark that encode nothing
  abbrev Unfit : ℕ → ℕ → Type 0
  Unfit i j = (s : ℕ) × Takes text (lit "0xy" then opt sp) i s × ((ds : List ℕ) × Digits text 4 base64 s j ds × (Fit ds → ⊥))

  no_bytes : {i j : ℕ} → Unfit i j → NoBytes text i j
  no_bytes (s, t, (ds, d, f)) = unfit_no_bytes (mark_digits t d) f

  unfit_digits : {i j : ℕ} → Takes text blob i j → NoBytes text i j → Unfit i j
  unfit_digits t n = go (no_bytes_only text t n).1 n
    where
      go : {i j : ℕ} {ds : List ℕ} → Behind text "0xy" 4 base64 i j ds → NoBytes text i j → Unfit i j
      go (mark_alone u) n = absurd (no_bytes_unfit (mark_alone u) n fit_nothing)
      go (mark_digits {m = s} {ds = ds} u d) n = (s, u, (ds, d, no_bytes_unfit (mark_digits u d) n))

  abbrev pub bad_blob : ℕ → ℕ → Bool
  bad_blob i j = leads text (lit "0xy" then opt sp) i (λ s. rows text 3 base64 j is_unfit s j)

  pub bad_blob_lem : (i j : ℕ) → Takes text blob i j → Says (bad_blob i j) (NoBytes text i j)
  bad_blob_lem i j t =
      by no_bytes (unfit_digits t)
      (cut text (lit "0xy" then opt sp) i (λ s. rows text 3 base64 j is_unfit s j) (λ s. (ds : List ℕ) × Digits text 4 base64 s j ds × (Fit ds → ⊥))
      (λ s u. row text 3 base64 j is_unfit (λ ds. Fit ds → ⊥) unfit_says s j (omega arith)))
