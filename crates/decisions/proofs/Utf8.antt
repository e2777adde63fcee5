-- Every text is UTF-8 or has a first place at which it is not, and some count of steps leads there. Assumes nothing.
use mathlib.Core.Path.{◌≡◌, refl, subst}
use mathlib.Core.Logic.{◌⊎◌, inl, inr}
use mathlib.Core.Bool.{Bool, true, false}
use mathlib.Core.List.{List}
use Prim.Native.Nat.{ℕ, zero, suc, ◌+◌, ◌≤◌, ◌<◌}
use native.Mathlib.Omega.{arith}
use borrow.Author.Tests.{ltb-true, ltb-false}
use lib.Dec.{ltb}
use lib.ListN.{length}
use Rattle.rules.specs.Rule.{many, Takes, stop, more, Longest, Fails}
use Rattle.rules.proofs.Matches.{forward, inside}
use Rattle.rules.proofs.Chains as Chains
use Rattle.rules.proofs.Chains.{snoc}
use Rattle.rules.proofs.Ways.{grows, end_takes}
use Rattle.std.specs.Prelude.{Result, Ok, Err}
use Rattle.lexicon.specs.declared.NotUtf8.{NotUtf8}
use Rattle.lexicon.specs.declared.Tested.{Tested}
use Rattle.lexicon.specs.Utf8.{sequence, WellFormed, Encoded}
use Rattle.lexicon.specs.Steps.{eight, Steps, start, eight_bytes, one_sequence, place_of, TestedAs}
use Rattle.lexicon.proofs.Determined.{sequence_single}
use Rattle.lexicon.proofs.Steps.{sequences, no_eight}
use Rattle.decisions.proofs.Tests.{settled}
use Rattle.decisions.proofs.Ends.{furthest, furthest_longest}
use Rattle.decisions.proofs.Cuts.{reaches, takes}

module _ (text : List ℕ) where
  abbrev pub formed : Bool
  formed = reaches text (many sequence) 0 (length text)

  pub formed_is : formed ≡ true → WellFormed text
  formed_is e = (takes text (many sequence) 0 (length text)).true_holds e

  pub encoded : (r : Result (Unit {0}) NotUtf8) × Encoded text r
  encoded = go (furthest text (many sequence) 0) (furthest_longest text (many sequence) 0 (stop refl)) (ltb (furthest text (many sequence) 0) (length text)) refl
    where
      go : (j : ℕ) → Longest text (many sequence) 0 j → (b : Bool) → ltb j (length text) ≡ b → (r : Result (Unit {0}) NotUtf8) × Encoded text r
      go j o true e =
          (Err (record { at = j }), record { reached = o.takes; within = ltb-true j (length text) e; none = record { none = λ {k} t. omega (arith, o.most (snoc o.takes t), grows sequence refl t) } })
      go j o false e =
          (Ok tt, subst (λ (x : ℕ). Takes text (many sequence) 0 x) (omega (arith, ltb-false j (length text) e, inside o.takes (omega arith))) o.takes)

  -- steps lead to a place at which no sequence begins: eight bytes that come next do not lead past it
  module _ {j : ℕ} (f : Fails text sequence j) where
    -- the place is reached, or one more step leads nearer
    abbrev Nearer : ℕ → ℕ → Type 0
    Nearer i n = (i ≡ j) ⊎ ((k : ℕ) × (i < k) × Steps text k (suc n) × Takes text (many sequence) k j)

    step : {i n : ℕ} → Steps text i n → Takes text (many sequence) i j → Nearer i n
    step s (stop e) = inl e
    step {n = n} s (more {i = i} {m = m} t u) = inr (go (settled (takes text eight i (i + 8))))
      where
        go : Takes text eight i (i + 8) ⊎ (Takes text eight i (i + 8) → ⊥) → (k : ℕ) × (i < k) × Steps text k (suc n) × Takes text (many sequence) k j
        go (inl e) = (i + 8, omega arith, eight_bytes s e, Chains.reaches (sequence_single text) (more t u) f (sequences text e))
        go (inr o) = (m, grows sequence refl t, one_sequence s (no_eight text o) t, u)

    steps : (left i n : ℕ) → j ≤ i + left → Steps text i n → Takes text (many sequence) i j → (m : ℕ) × Steps text j m
    steps zero i n h s c = (n, subst (λ (x : ℕ). Steps text x n) (omega (arith, h, forward c)) s)
    steps (suc left) i n h s c = go (step s c) (λ k g t u. steps left k (suc n) (omega (arith, h, g)) t u)
      where
        go : Nearer i n → ((k : ℕ) → i < k → Steps text k (suc n) → Takes text (many sequence) k j → (m : ℕ) × Steps text j m) → (m : ℕ) × Steps text j m
        go (inl e) on = (n, subst (λ (x : ℕ). Steps text x n) e s)
        go (inr x) on = on x.0 x.1 x.2 x.3

    pub counted : Takes text (many sequence) 0 j → (n : ℕ) × Steps text j n
    counted c = steps j 0 0 (omega arith) start c

  pub tested : (r : Tested) × TestedAs text r
  tested = go encoded.0 encoded.1
    where
      ends : (r : Result (Unit {0}) NotUtf8) → Encoded text r → (n : ℕ) × Steps text (place_of text r) n
      ends (Ok _) w = counted (record { none = λ t. end_takes text sequence refl (omega arith) t }) w
      ends (Err p) b = counted b.none b.reached

      go : (r : Result (Unit {0}) NotUtf8) → Encoded text r → (r : Tested) × TestedAs text r
      go r x = let s = ends r x in (record { encoding = r; steps = s.0 }, record { encoded = x; steps_are = s.1 })
