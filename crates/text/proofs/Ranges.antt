-- A byte of a range, by its bounds. Assumes nothing.
use mathlib.Core.Path.{◌≡◌, refl, sym, subst, subst⁻¹, ◌∙◌}
use mathlib.Core.Logic.{⊎_elim}
use mathlib.Core.Bool.{Bool, false}
use mathlib.Core.List.{List, [], ◌∷◌}
use Prim.Native.Nat.{ℕ, ◌+◌, ◌≤◌, ◌<◌}
use lib.Dec.{leb, eqb}
use lib.ListN.{length, get_or}
use native.Mathlib.Omega.{arith}
use borrow.Author.Tests.{leb-true, leb-false, eqb-true, eq-eqb}
use Rattle.rules.specs.Test.{Says}
use Rattle.rules.specs.Class.{Class, ◌upto◌, just, In}
use Rattle.rules.specs.Rule.{one, Takes, byte}
use Rattle.rules.proofs.Bools.{decide}
use Rattle.rules.proofs.Classes.{is_just, just_is, in_first_lem, in_later, low_in, in_high}
use Rattle.rules.proofs.Matches.{byte_at}
use Rattle.rules.proofs.Tests.{says_no}
use Rattle.std.proofs.Common.{Option, Some, None, Bor}
use Rattle.std.specs.Bool.{Decides}
use Rattle.std.specs.Option.{MatchOption, option_eq}
use Rattle.std.specs.Slice.{IsItemAt}
use Rattle.lexicon.specs.Utf8.{range}

-- what `get` lends at a place, if a byte stands there, and what a test of it answered
module _ {text : List ℕ} {at : ℕ} where
  pub class_at : (c : Class) (r : Option (Bor ℕ)) (o : Bool) → IsItemAt text at r → MatchOption r (o ≡ false) (λ x. Decides o (In c x.now)) → Says o (Takes text (one c) at (at + 1))
  class_at c None o i t = subst⁻¹ (λ (b : Bool). Says b (Takes text (one c) at (at + 1))) t (says_no (λ u. omega (arith, i.3, (byte_at u).0)))
  class_at c (Some x) o i t =
      let same : x.now ≡ get_or text at 0 = i.4 (omega arith) 0 in
      record {
        true_holds = λ e. byte (i.3.0, subst (In c) same (t.0 e)) refl;
        holds_true = λ u. t.1 (subst⁻¹ (In c) same (byte_at u).1);
      }

  pub range_at : (low high : ℕ) (r : Option (Bor ℕ)) (o : Bool) → IsItemAt text at r → MatchOption r (o ≡ false) (λ x. Decides o ((low ≤ x.now) × (x.now ≤ high))) → Says o (Takes text (range low high) at (at + 1))
  range_at low high None o i t = class_at (low upto high ∷ []) None o i t
  range_at low high (Some x) o i t = class_at (low upto high ∷ []) (Some x) o i (λ e. let p = t.0 e in in_first_lem low high [] x.now p.0 p.1, λ m. t.1 (low_in low high x.now m, in_high low high x.now m))

  pub byte_stands : (b : Bor ℕ) (r : Option (Bor ℕ)) (o : Bool) → IsItemAt text at r → o ≡ option_eq (λ x y. eqb x.now y.now) r (Some b) → Says o (Takes text (one (just b.now)) at (at + 1))
  byte_stands b None o i e = class_at (just b.now) None o i e
  byte_stands b (Some x) o i e = class_at (just b.now) (Some x) o i (λ t. is_just b.now x.now (eqb-true x.now b.now (sym e ∙ t)), λ m. e ∙ eq-eqb x.now b.now (just_is b.now x.now m))

-- a byte that is known
pub byte_is : {text : List ℕ} (b i : ℕ) → i < length text → get_or text i 0 ≡ b → Takes text (one (just b)) i (i + 1)
byte_is b i h e = byte (h, is_just b _ e) refl

-- any byte but n + 1
pub byte_but : {text : List ℕ} (n i : ℕ) → i < length text → (get_or text i 0 ≡ n + 1 → ⊥) → get_or text i 0 < 256 → Takes text (one (0 upto n ∷ (n + 2) upto 255 ∷ [])) i (i + 1)
byte_but {text} n i h other f =
    byte (h, ⊎_elim (λ e. below (leb-true (get_or text i 0) n e)) (λ e. above (leb-false (get_or text i 0) n e)) (decide (leb (get_or text i 0) n))) refl
  where
    below : get_or text i 0 ≤ n → In (0 upto n ∷ (n + 2) upto 255 ∷ []) (get_or text i 0)
    below l = in_first_lem 0 n ((n + 2) upto 255 ∷ []) (get_or text i 0) (omega arith) l

    above : n < get_or text i 0 → In (0 upto n ∷ (n + 2) upto 255 ∷ []) (get_or text i 0)
    above l = in_later 0 n ((n + 2) upto 255 ∷ []) (get_or text i 0) (in_first_lem (n + 2) 255 [] (get_or text i 0) (omega arith) (omega arith))

-- a byte that stands within the bounds
pub in_range : (text : List ℕ) (low high i : ℕ) → i < length text → low ≤ get_or text i 0 → get_or text i 0 ≤ high → Takes text (range low high) i (i + 1)
in_range text low high i l a b = byte (l, in_first_lem low high [] (get_or text i 0) a b) refl
