-- A number counted digit by digit, and the bytes of a part of a text. Assumes nothing.
use mathlib.Core.Path.{◌≡◌, refl, sym, ap, ◌∙◌}
use mathlib.Core.List.{List, [], ◌∷◌, foldl, foldl-append}
use Prim.Native.Nat.{ℕ, zero, suc, ◌+◌, ◌*◌, ◌-◌, ◌≤◌, ◌<◌}
use native.Mathlib.Nat.{mul-le-mul_left}
use native.Mathlib.Omega.{arith}
use lib.ListN.{length, get_or, take, drop}
use Rattle.std.specs.List.{slice_range}
use Rattle.std.proofs.Common.{take-append-drop}
use Rattle.std.proofs.Math.Seq.{drop-cons}
use Rattle.std.proofs.lemmas.List.{take_more}
use Rattle.lexicon.specs.declared.Base.{Base}
use Rattle.lexicon.specs.declared.Base.TheVariants.{Two, Eight, Ten, Sixteen}
use Rattle.lexicon.specs.declared.Set.{Set}
use Rattle.lexicon.specs.Bytes.{digit_set_of, radix}
use Rattle.lexicon.specs.Parts.{size}
use Rattle.lexicon.proofs.Bases.{size_radix}
use Rattle.lexicon.specs.Values.{read}
use Rattle.lexicon.specs.Limited.{limit, limited}

-- ---- digit by digit

module _ {S : Type 0} (f : S → ℕ → S) (s : S) (ds : List ℕ) where
  -- one more
  pub folded_more : {k : ℕ} {t u : S} → k < length ds → t ≡ foldl f s (take k ds) → u ≡ f t (get_or ds k 0) → u ≡ foldl f s (take (k + 1) ds)
  folded_more {k} h e g =
      g
      ∙ ap (λ (x : S). f x (get_or ds k 0)) e
      ∙ sym (foldl-append f s (take k ds) (get_or ds k 0 ∷ []))
      ∙ ap (foldl f s) (sym (take_more ds k 0 h))

  pub folded_parts : (k : ℕ) → foldl f s ds ≡ foldl f (foldl f s (take k ds)) (drop k ds)
  folded_parts k = ap (foldl f s) (sym (take-append-drop k ds)) ∙ foldl-append f s (take k ds) (drop k ds)

-- ---- a number at the limit is not below it with digits more

some_radix : (b : Base) → 1 ≤ radix b
some_radix Two = omega arith
some_radix Eight = omega arith
some_radix Ten = omega arith
some_radix Sixteen = omega arith

-- the code's radix
pub radix_is : (b : Base) {s : Set} {n : ℕ} → s ≡ digit_set_of b → n ≡ size s → n ≡ radix b
radix_is b e f = f ∙ ap size e ∙ size_radix b

module _ (b : Base) where
  once : (sum d : ℕ) → sum ≡ limit → sum ≡ limited (radix b) sum d
  unfolding limited
  once sum d f = let m : sum * 1 ≤ sum * radix b = mul-le-mul_left sum (some_radix b) in omega (arith, f, m)

  stays : (sum : ℕ) (ds : List ℕ) → sum ≡ limit → sum ≡ foldl (limited (radix b)) sum ds
  stays sum [] f = refl
  stays sum (d ∷ ds) f = stays sum ds f ∙ ap (λ (s : ℕ). foldl (limited (radix b)) s ds) (once sum d f)

  pub counted_full : (sum k : ℕ) (ds : List ℕ) {total : ℕ} → total ≡ foldl (limited (radix b)) sum (take k ds) → total ≡ limit → total ≡ foldl (limited (radix b)) sum ds
  counted_full sum k ds {total} e f =
      stays total (drop k ds) f ∙ ap (λ (t : ℕ). foldl (limited (radix b)) t (drop k ds)) e ∙ sym (folded_parts (limited (radix b)) sum ds k)

-- ---- a part of a text

part_read : (text : List ℕ) (i n : ℕ) → i + n ≤ length text → take n (drop i text) ≡ read text i n
part_read text i zero h = refl
part_read text i (suc n) h =
    ap (take (suc n)) (drop-cons text i 0 (omega arith))
    ∙ ap (λ (l : List ℕ). get_or text i 0 ∷ l) (ap (λ (k : ℕ). take n (drop k text)) (let e : suc i ≡ i + 1 = omega arith in e) ∙ part_read text (i + 1) n (omega arith))

pub slice_read : (text : List ℕ) (i j : ℕ) → i ≤ j → j ≤ length text → slice_range text i j ≡ read text i (j - i)
slice_read text i j h l = part_read text i (j - i) (omega arith)
