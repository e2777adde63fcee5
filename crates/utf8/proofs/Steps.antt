-- The steps of the test: how each way through its loops goes on with them, and how they end. Assumes nothing.
use mathlib.Core.Path.{◌≡◌, refl, subst}
use mathlib.Core.Bool.{Bool, false}
use mathlib.Core.List.{List}
use Prim.Native.Nat.{ℕ, suc, ◌+◌, ◌-◌, ◌/◌, ◌≤◌, ◌<◌}
use native.Mathlib.Decide.{dec_le}
use native.Mathlib.Omega.{arith}
use lib.ListN.{length, get_or}
use Rattle.rules.specs.Test.{Says}
use Rattle.rules.specs.Rule.{many, Takes, byte, left, stop, more, Longest, Fails}
use Rattle.rules.proofs.Classes.{apart, apart_span}
use Rattle.rules.proofs.Chains.{snoc}
use Rattle.rules.proofs.Ways.{never}
use Rattle.rules.proofs.Tests.{refuted}
use Rattle.rules.proofs.Matches.{ending, starting, forward}
use Rattle.lexicon.specs.Utf8.{range, sequence}
use Rattle.lexicon.specs.Steps.{eight, Steps, eight_bytes, one_sequence, TestedAs}
use Rattle.std.proofs.Common.{Ok, Err}
use Rattle.lexicon.proofs.Steps.{eight_end, no_eight_next, steps_reach}
use Rattle.text.proofs.Ranges.{in_range}
use Rattle.text.proofs.Searches.{fails}

module _ {text : List ℕ} where
  -- behind the last eights in a row no more come
  pub no_eight_behind : {i j : ℕ} → Longest text (many eight) i j → Fails text eight j
  no_eight_behind l = record { none = λ t. omega (arith, l.most (snoc l.takes t), eight_end text t) }

  -- the steps as the code counts them
  one_more_lem : {j n : ℕ} → Steps text j (suc n) → Steps text j (n + 1)
  one_more_lem s = subst (Steps text _) (omega arith) s

  pub step_sequence : {i j n : ℕ} → Steps text i n → Fails text eight i → Takes text sequence i j → Steps text j (n + 1)
  step_sequence s f t = one_more_lem (one_sequence s f t)

  -- eights in a row, each a step
  pub step_eights : {i j n : ℕ} → Steps text i n → Takes text (many eight) i j → Steps text j (n + (j - i) / 8)
  step_eights {i} {j} {n} s (stop e) = subst (Steps text j) (omega arith) (subst (λ (x : ℕ). Steps text x n) e s)
  step_eights {i} {j} {n} s (more t u) = subst (Steps text j) (omega (arith, eight_end text t, forward u)) (step_eights (one_more_lem (eight_bytes s t)) u)

  -- a run of plain bytes where eight do not come next: each is a step, and eight do not come behind them either
  pub step_bytes : {i j n : ℕ} → Steps text i n → Fails text eight i → Takes text (many (range 0x00 0x7F)) i j → Steps text j (n + (j - i)) × Fails text eight j
  step_bytes {i} {j} {n} s f (stop e) =
      (subst (Steps text j) (omega arith) (subst (λ (x : ℕ). Steps text x n) e s), subst (Fails text eight) e f)
  step_bytes {i} {j} {n} s f (more (byte a e) t) =
      let next = step_bytes (step_sequence s f (left (byte a e))) (no_eight_next text f (byte a e)) t in
      (subst (Steps text j) (omega (arith, forward t)) next.0, next.1)

  -- a byte above 7F: eight do not come next
  pub no_eight_beyond : {i : ℕ} → Takes text (range 0x80 0xFF) i (i + 1) → Fails text eight i
  unfolding never apart apart_span
  no_eight_beyond t = fails refl t

  -- plain bytes up to p, and from there on what leads to j, where no byte above 7F stands: not nothing, since each byte is one or the other
  pub onward : {i e p j : ℕ} {o : Bool} → i < length text → get_or text i 0 < 256 → i ≤ e → Longest text (many (range 0x00 0x7F)) e p → p ≤ j → Says o (Takes text (range 0x80 0xFF) j (j + 1)) → o ≡ false → i < j
  onward {i} {e} {p} {j} here fits h run k s n = by (dec_le (suc i) j) (dec_le (get_or text i 0) 0x7F)
    where
      by : Dec (suc i ≤ j) → Dec (get_or text i 0 ≤ 0x7F) → i < j
      by (yes l) d = l
      by (no l) (yes b) =
          let q : i ≡ e = omega (arith, l, h, forward run.takes, k) in
          omega (arith, run.most (starting q (snoc (stop refl) (in_range text 0x00 0x7F i here (omega arith) b))), k)
      by (no l) (no b) =
          let q : i ≡ j = omega (arith, l, h, forward run.takes, k) in
          absurd (refuted s n (subst (λ (x : ℕ). Takes text (range 0x80 0xFF) x (x + 1)) q (in_range text 0x80 0xFF i here (omega (arith, b)) (omega (arith, fits)))))

  -- ---- the two ends

  pub all_formed : {i n : ℕ} → Steps text i n → i ≡ length text → TestedAs text (record { encoding = Ok tt; steps = n })
  all_formed {i} {n} s e = record { encoded = ending e (steps_reach text s); steps_are = subst (λ (x : ℕ). Steps text x n) e s }

  pub bad_here : {i n : ℕ} → Steps text i n → i < length text → Fails text sequence i → TestedAs text (record { encoding = Err record { at = i }; steps = n })
  bad_here s here f = record { encoded = record { reached = steps_reach text s; within = here; none = f }; steps_are = s }
