-- The running sum over a run of bytes, whatever is done with each; of a number and of padding. Assumes nothing.
use mathlib.Core.Path.{◌≡◌, refl, sym, ap, ◌∙◌}
use mathlib.Core.List.{List, [], ◌∷◌, foldl}
use mathlib.Core.Logic.{◌⊎◌, inl, inr}
use Prim.Native.Nat.{ℕ, zero, suc, ◌+◌, ◌-◌, ◌≤◌, ◌<◌}
use native.Mathlib.Nat.{add-zero, zero-add, suc-add}
use native.Mathlib.Decide.{ℕ_discrete}
use native.Mathlib.Omega.{arith}
use lib.ListN.{get_or, length, take, drop}
use Rattle.std.specs.List.{slice_range}
use Rattle.std.proofs.lemmas.List.{take_all, length-drop}
use Rattle.lexicon.specs.declared.Base.{Base}
use Rattle.lexicon.specs.Bytes.{radix}
use Rattle.lexicon.specs.Parts.{sextet}
use Rattle.lexicon.specs.Values.{read}
use Rattle.lexicon.specs.Limited.{limited}
use Rattle.lexicon.proofs.Encodings.{NoPad}
use Rattle.lexicon.proofs.Paddings.{unfit, opened, pad, pad_first, pad_next, pad_stays, next_state_of, run, state_character, state_first, state_unfit}
use Rattle.number.specs.declared.tally.Value.{Value}
use Rattle.number.specs.declared.padding.Padding.{Padding}
use Rattle.number.specs.declared.padding.Padding.TheVariants.{Start, Character, OneMore, NoMore, Unfit}
use Rattle.number.specs.Tally.{value_more}
use Rattle.number.specs.Padding.{code_of, state_of, next_of, Unpadded}

-- ---- a run of bytes

module _ {S : Type 0} (f : S → ℕ → S) (text : List ℕ) where
  -- the first bytes of a run, then the others
  pub split : (s : S) (i n k : ℕ) → foldl f s (read text i (n + k)) ≡ foldl f (foldl f s (read text i n)) (read text (i + n) k)
  split s i zero k = rw (zero-add, add-zero) refl
  split s i (suc n) k =
      let e : i + 1 + n ≡ i + suc n = omega arith in
      rw (suc-add n k)
      (split (f s (get_or text i 0)) (i + 1) n k ∙ ap (λ (m : ℕ). foldl f (foldl f s (read text i (suc n))) (read text m k)) e)

pub nothing_more : {A : Type 0} (s : A) (ds : List ℕ) → s ≡ foldl (λ sum _. sum) s ds
nothing_more s [] = refl
nothing_more s (d ∷ ds) = nothing_more s ds

-- ---- a number

pub value_folds : (b : Base) (v : ℕ) (ds : List ℕ) → foldl value_more (record { base = b; value = v }) ds ≡ record { base = b; value = foldl (limited (radix b)) v ds }
value_folds b v [] = refl
value_folds b v (d ∷ ds) = value_folds b (limited (radix b) v d) ds

pub value_with : (s : Value) {v : ℕ} (ds : List ℕ) → v ≡ foldl (limited (radix s.base)) s.value ds → record { base = s.base; value = v } ≡ foldl value_more s ds
value_with s ds e = ap (λ (v : ℕ). let w : Value = record { base = s.base; value = v } in w) e ∙ sym (value_folds s.base s.value ds)

-- ---- padding: each state by its number in the machine that tells `Fit`

code_state : (n : ℕ) → code_of (state_of n) ≡ n
code_state zero = refl
code_state (suc zero) = refl
code_state (suc (suc zero)) = refl
code_state (suc (suc (suc zero))) = refl
code_state (suc (suc (suc (suc b)))) = omega arith

pub code_run : (s : Padding) (ds : List ℕ) → code_of (foldl next_of s ds) ≡ run (code_of s) ds
code_run s [] = refl
code_run s (d ∷ ds) = code_run (next_of s d) ds ∙ ap (λ (x : ℕ). run x ds) (code_state (next_state_of (code_of s) d))

-- of two characters that are no `=` the second alone counts
again : (s b d : ℕ) → NoPad b → NoPad d → next_state_of (next_state_of s b) d ≡ next_state_of s d
again s b d m n = by (ℕ_discrete s 0)
  where
    behind : {t u : ℕ} → t ≡ next_state_of s b → u ≡ next_state_of t d → u ≡ next_state_of s d → next_state_of (next_state_of s b) d ≡ next_state_of s d
    behind e f g = ap (λ (x : ℕ). next_state_of x d) (sym e) ∙ sym f ∙ g

    more : Dec (4 - s ≡ 0) → (s ≡ 0 → ⊥) → next_state_of (next_state_of s b) d ≡ next_state_of s d
    more (yes e) z = behind (state_character s b m (omega (arith, e))) (state_character (b + 4) d n (omega arith)) (state_character s d n (omega (arith, e)))
    more (no h) z = behind (state_unfit s b m (omega (arith, h)) z) (state_unfit unfit d n (omega arith) (λ e. omega (arith, e))) (state_unfit s d n (omega (arith, h)) z)

    by : Dec (s ≡ 0) → next_state_of (next_state_of s b) d ≡ next_state_of s d
    by (yes e) = behind (state_first s b m e) (state_character (b + 4) d n (omega arith)) (state_first s d n e)
    by (no z) = more (ℕ_discrete (4 - s) 0) z

-- so that of those before the first `=` the last does
skipped : (s : Padding) (ds : List ℕ) (j k : ℕ) → j ≤ k - 1 → k ≤ length ds → ((i : ℕ) → i < k → NoPad (get_or ds i 0)) → foldl next_of s (drop j ds) ≡ foldl next_of s ds
skipped s ds zero k e h f = refl
skipped s [] (suc j) k e h f = absurd (omega (arith, e, h))
skipped s (d ∷ []) (suc j) k e h f = absurd (omega (arith, e, h))
skipped s (d ∷ c ∷ ds) (suc j) k e h f =
    skipped s (c ∷ ds) j (k - 1) (omega (arith, e)) (omega (arith, e, h)) (λ i p. f (suc i) (omega (arith, e, p)))
    ∙ ap (λ (x : ℕ). foldl next_of (state_of x) ds) (sym (ap (λ (x : ℕ). next_state_of x c) (code_state (next_state_of (code_of s) d)) ∙ again (code_of s) d c (f 0 (omega (arith, e))) (f 1 (omega (arith, e)))))

-- a `=` more
module _ {s : Padding} where
  pub padded_start : s ≡ Start → 1 ≡ pad (code_of s)
  padded_start e = rw e (pad_next 0 (omega arith))

  pub padded_character : {b c v n : ℕ} → s ≡ Character b → v ≡ sextet c → c ≡ b → n ≡ opened v → n ≡ pad (code_of s)
  padded_character {b} {c} e f i g = rw e (pad_first (b + 4) _ _ (omega arith) (f ∙ (let k : c ≡ b + 4 - 4 = omega (arith, i) in ap sextet k)) g)

  pub padded_one : s ≡ OneMore → 2 ≡ pad (code_of s)
  padded_one e = rw e (pad_next 1 (omega arith))

  pub padded_unfit : (s ≡ NoMore) ⊎ (s ≡ Unfit) → unfit ≡ pad (code_of s)
  padded_unfit (inl e) = rw e (pad_next 2 (omega arith))
  padded_unfit (inr e) = rw e (pad_stays unfit (omega arith) (omega arith))

-- another character more
pub followed_character : {s : Padding} {b : ℕ} → NoPad b → (s ≡ Start) ⊎ ((c : ℕ) × (s ≡ Character c)) → b + 4 ≡ next_state_of (code_of s) b
followed_character {b = b} n (inl e) = rw e (state_first 0 b n refl)
followed_character {b = b} n (inr (c, e)) = rw e (state_character (c + 4) b n (omega arith))

pub followed_unfit : {s : Padding} {b : ℕ} → NoPad b → (s ≡ Start → ⊥) → ((c : ℕ) → s ≡ Character c → ⊥) → unfit ≡ next_state_of (code_of s) b
followed_unfit {s = Start} n x y = absurd (x refl)
followed_unfit {s = Character c} n x y = absurd (y c refl)
followed_unfit {s = OneMore} {b = b} n x y = state_unfit 1 b n (omega arith) (λ e. omega (arith, e))
followed_unfit {s = NoMore} {b = b} n x y = state_unfit 2 b n (omega arith) (λ e. omega (arith, e))
followed_unfit {s = Unfit} {b = b} n x y = state_unfit unfit b n (omega arith) (λ e. omega (arith, e))

-- behind all of them, when all but the last before the first `=` are passed over
pub rest_counted : (s : Padding) (ds : List ℕ) {j k n : ℕ} {t : Padding} → Unpadded ds k → j ≤ k - 1 → length (slice_range ds j (length ds)) ≤ n → t ≡ foldl next_of s (take n (slice_range ds j (length ds))) → t ≡ foldl next_of s ds
rest_counted s ds {j} {k} {n} u e h f =
    f
    ∙ ap (foldl next_of s) (take_all n (slice_range ds j (length ds)) h ∙ take_all (length ds - j) (drop j ds) (omega (arith, length-drop j ds)))
    ∙ skipped s ds j k e u.within u.no_pad
