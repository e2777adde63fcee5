-- The answers of the UTF-8 test for the texts of the table, each by a test that computes. Assumes nothing.
use mathlib.Core.Path.{◌≡◌, refl, subst}
use mathlib.Core.Bool.{Bool, true, false}
use mathlib.Core.List.{List}
use Prim.Native.Nat.{ℕ, zero, suc, ◌+◌}
use native.Mathlib.Omega.{arith}
use borrow.Author.Tests.{eqb-true, ltb-true}
use lib.Dec.{eqb, ltb}
use lib.ListN.{length}
use Rattle.rules.specs.Class.{has}
use Rattle.rules.proofs.Tests.{refuted}
use Rattle.lexicon.specs.Utf8.{sequence}
use Rattle.lexicon.specs.Steps.{eight, start, eight_bytes, one_sequence}
use Rattle.lexicon.specs.Steps as Lexicon
use Rattle.lexicon.proofs.Steps.{no_eight, steps_reach}
use Rattle.decisions.proofs.Cuts.{reaches, takes, leads, cut, begins, none_begins_lem}
use Rattle.values.specs.Utf8.{Utf8Answers, well_formed, not_utf8}
use Rattle.examples.specs.Steps.{Steps}

module _ (text : List ℕ) where
  -- n steps lead from i to j
  abbrev walks : ℕ → ℕ → ℕ → Bool
  walks zero i j = eqb i j
  walks (suc n) i j =
      elim (reaches text eight i (i + 8)) [ true ↦ walks n (i + 8) j | false ↦ leads text sequence i (λ m. walks n m j) ]

  walked : (n i j k : ℕ) → walks n i j ≡ true → Lexicon.Steps text i k → Lexicon.Steps text j (k + n)
  walked zero i j k e s = subst (λ (m : ℕ). Lexicon.Steps text j m) (omega arith) (subst (λ (x : ℕ). Lexicon.Steps text x k) (eqb-true i j e) s)
  walked (suc n) i j k e s =
      subst (λ (m : ℕ). Lexicon.Steps text j m) (omega arith) (go (reaches text eight i (i + 8)) refl e (λ m e t. walked n m j (suc k) e t))
    where
      go : (b : Bool) → reaches text eight i (i + 8) ≡ b →
          elim b [ true ↦ walks n (i + 8) j | false ↦ leads text sequence i (λ m. walks n m j) ] ≡ true →
          ((m : ℕ) → walks n m j ≡ true → Lexicon.Steps text m (suc k) → Lexicon.Steps text j (suc k + n)) → Lexicon.Steps text j (suc k + n)
      go true q e on = on (i + 8) e (eight_bytes s ((takes text eight i (i + 8)).true_holds q))
      go false q e on =
          let x =
          (cut text sequence i (λ m. walks n m j) (λ m. walks n m j ≡ true) (λ m t. record { true_holds = λ e. e; holds_true = λ e. e })).true_holds e in
          on x.0 x.2 (one_sequence s (no_eight text (refuted (takes text eight i (i + 8)) q)) x.1)

  steps : (n j : ℕ) → walks n 0 j ≡ true → Lexicon.Steps text j n
  steps n j e = subst (λ (m : ℕ). Lexicon.Steps text j m) (omega arith) (walked n 0 j 0 e start)

  accepts : {n : ℕ} → walks n 0 (length text) ≡ true → Utf8Answers text 0 (length text) n
  accepts {n} e = let s = steps n (length text) e in well_formed (steps_reach text s) s

  -- no sequence begins at p
  refuses : {n p : ℕ} → walks n 0 p ≡ true → ltb p (length text) ≡ true → begins text sequence p ≡ false → Utf8Answers text 3 p n
  refuses {n} {p} e l f =
      let s = steps n p e in
      not_utf8 (record { reached = steps_reach text s; within = ltb-true p (length text) l; none = none_begins_lem text f }) s

pub all_steps : Steps
unfolding has
all_steps =
    record {
      seventeen = accepts _ refl;
      eight = accepts _ refl;
      seven = accepts _ refl;
      no_byte = accepts _ refl;
      behind_eight = accepts _ refl;
      refused_late = refuses _ refl refl refl;
      refused_at_once = refuses _ refl refl refl;
    }
