-- What stands before an Integer's digits. Behind the sign and the mark of a literal stand its digits, and these are its integer.
-- Assumes nothing.
use mathlib.Core.Path.{◌≡◌, refl, sym, ap, subst}
use mathlib.Core.Bool.{Bool, true, false, cond}
use mathlib.Core.List.{List, [], ◌∷◌}
use Prim.Native.Nat.{ℕ, ◌+◌, ◌<◌}
use native.Mathlib.Omega.{arith}
use borrow.Author.Tests.{eq-eqb, ne_eqb}
use lib.IntN.{pos, neg_ℤ}
use lib.ListN.{length, get_or}
use Rattle.rules.specs.Test.{Says}
use Rattle.rules.specs.Class.{just}
use Rattle.rules.specs.Rule.{one, At, Takes}
use Rattle.rules.proofs.Classes.{is_just, just_is}
use Rattle.rules.proofs.Tests.{there, not_there}
use Rattle.lexicon.specs.declared.Base.{Base}
use Rattle.lexicon.specs.Bytes.{digits, radix}
use Rattle.lexicon.specs.Literals.{integer}
use Rattle.lexicon.specs.Values.{Digits, value, IntegerOf}
use Rattle.lexicon.proofs.Spaces.{skips_same, landed}
use Rattle.lexicon.proofs.Groups.{digits_at}
use Rattle.lexicon.specs.Parts.{Numeral, marked, bare, letter, Start}
use Rattle.lexicon.proofs.Numbers.{clear, in_marks, bare_short, same_base, valued}
use Rattle.lexicon.proofs.Integers.{start_sign, of_integer}
use Rattle.values.specs.Exactly.{Exactly}
use Rattle.integer_value.specs.Parts.{SignOf, MarkOf, has_mark, no_mark, Ends}

-- ---- the sign

-- a byte that does not stand at the front is not what the front reads as
front_other : (piece : List ℕ) (b : ℕ) → 0 < b → (At piece (just b) 0 → ⊥) → get_or piece 0 0 ≡ b → ⊥
front_other [] b h f e = omega arith
front_other (x ∷ xs) b h f e = f (omega arith, is_just b x e)

module _ (piece : List ℕ) where
  pub sign_lem : {g : ℕ} (o : Bool) → Says o (Takes piece (one (just 0x2D)) 0 1) → Start piece 0 g → SignOf piece o g
  sign_lem true s t = record { start = t; minus_is = sym (eq-eqb (get_or piece 0 0) 0x2D (just_is 0x2D (get_or piece 0 0) (there s refl).1)) }
  sign_lem false s t = record { start = t; minus_is = sym (ne_eqb (get_or piece 0 0) 0x2D (front_other piece 0x2D (omega arith) (not_there s refl))) }

-- ---- the digits behind the mark

module _ (piece : List ℕ) where
  -- digits behind the mark are a number
  pub numeral_of : {b : Base} {i s j : ℕ} {ds : List ℕ} → MarkOf piece i b s → Digits piece 1 (digits b) s j ds → Numeral piece b i j ds
  numeral_of (has_mark m k) d = marked m.zero m.letter_is k.takes d
  numeral_of (no_mark n) d = bare d

  -- and those of a number to the piece's end stand there
  pub digits_of_lem : {b c : Base} {i s j : ℕ} {ds : List ℕ} → j ≡ length piece → MarkOf piece i b s → Numeral piece c i j ds → Digits piece 1 (digits b) s j ds
  digits_of_lem {c = c} {j = j} {ds = ds} e (has_mark {b = b} {g = g} m k) (marked {i = i} {g = h} z x t d) =
      let p : c ≡ b = same_base b c (just_is (letter b) (get_or piece (i + 1) 0) m.letter_is.1) (just_is (letter c) (get_or piece (i + 1) 0) x.1) in
      let q : h ≡ g = skips_same (landed (digits c) (clear c).no_blank t (digits_at piece 0 (digits c) (clear c) d)) k in
      subst (λ (o : Base). Digits piece 1 (digits o) g j ds) p (subst (λ (o : ℕ). Digits piece 1 (digits c) o j ds) q d)
  digits_of_lem e (has_mark {b = b} m k) (bare {i = i} {j = j} d) =
      let x = bare_short piece i j d (in_marks piece b (i + 1) m.letter_is) in let y = m.letter_is.0 in absurd (omega arith)
  digits_of_lem {c = c} e (no_mark n) (marked z x t d) = absurd (n.none {b = c} (record { zero = z; letter_is = x }))
  digits_of_lem e (no_mark n) (bare d) = d

  -- the digits of a literal
  pub literal_digits : {minus : Bool} {g s : ℕ} {b : Base} → Exactly integer piece → SignOf piece minus g → MarkOf piece g b s → Ends piece b s
  literal_digits t n m = let x = of_integer piece n.start t in record { bytes = x.bytes; digits_are = digits_of_lem refl m x.is }

  -- and its integer
  pub integer_of : {minus : Bool} {g s : ℕ} {b : Base} {ds : List ℕ} → SignOf piece minus g → MarkOf piece g b s → Digits piece 1 (digits b) s (length piece) ds → IntegerOf piece 0 (length piece) (cond minus (neg_ℤ (pos (value (radix b) ds))) (pos (value (radix b) ds)))
  integer_of {b = b} {ds = ds} n m d =
      record {
        start = _;
        before = start_sign piece n.start;
        size = value (radix b) ds;
        number = (b, valued piece (numeral_of m d));
        value_is = ap (λ (o : Bool). cond o (neg_ℤ (pos (value (radix b) ds))) (pos (value (radix b) ds))) n.minus_is;
      }
