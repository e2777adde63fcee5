-- What is computed of a byte is computed of all bytes of a number at once, as long as no result needs more than a byte: no carry
-- goes from one to the next. So a comparison of the whole says what the byte's comparison says of each. Assumes nothing.
use mathlib.Core.Path.{◌≡◌, refl, sym, ap₂, subst⁻¹, ◌∙◌}
use mathlib.Core.Bool.{Bool, true, false, ◌&&◌, not}
use mathlib.Core.List.{List}
use Prim.Native.Nat.{ℕ, zero, suc, ◌+◌, ◌*◌, ◌≤◌, ◌<◌}
use native.Mathlib.Omega.{arith}
use native.Mathlib.Nat.{add-zero}
use lib.Bits.{bit_and, bit_or, bit_xor, and_block, or_block, xor_block}
use lib.Dec.{eqb, leb}
use lib.ListN.{length, get_or}
use borrow.Author.Tests.{eqb-true, eq-eqb, leb-true}
use Rattle.std.proofs.Common.{Option, Some, None, MatchOption}
use Rattle.rules.specs.Test.{Says}
use Rattle.rules.specs.Class.{Class, has}
use Rattle.rules.specs.Rule.{Takes, nothing, byte, both}
use Rattle.rules.proofs.Bools.{and_left, and_right, below, all_below_lem}
use Rattle.rules.proofs.Tests.{says_no}
use Rattle.rules.proofs.Matches.{starting, ending}
use Rattle.lexicon.specs.Literals.{unit}
use Rattle.lexicon.proofs.Groups.{unit_at, unit_inside}
use Rattle.eight.specs.Joined.{joined, Joins}

pub data Operation : Type 0 where
  And : Operation
  Or : Operation
  Xor : Operation
  Plus : Operation

abbrev pub of : Operation → ℕ → ℕ → ℕ
of And = bit_and
of Or = bit_or
of Xor = bit_xor
of Plus = ◌+◌

-- what is computed of a byte: itself, a constant, or an operation's result
pub data Lane : Type 0 where
  it : Lane
  always : ℕ → Lane
  result : Operation → Lane → Lane → Lane

infixl 30 ◌or◌
infixl 35 ◌xor◌
infixl 40 ◌and◌
infixl 50 ◌plus◌
abbrev pub ◌and◌ : Lane → Lane → Lane
x and y = result And x y

abbrev pub ◌or◌ : Lane → Lane → Lane
x or y = result Or x y

abbrev pub ◌xor◌ : Lane → Lane → Lane
x xor y = result Xor x y

abbrev pub ◌plus◌ : Lane → Lane → Lane
x plus y = result Plus x y

-- of one byte
abbrev alone : Lane → ℕ → ℕ
alone it b = b
alone (always k) b = k
alone (result o x y) b = of o (alone x b) (alone y b)

-- the byte k, n times
abbrev pub repeated : ℕ → ℕ → ℕ
repeated zero k = 0
repeated (suc n) k = repeated n k * 256 + k

-- of n bytes in a number
abbrev pub together : ℕ → Lane → ℕ → ℕ
together n it w = w
together n (always k) w = repeated n k
together n (result o x y) w = of o (together n x w) (together n y w)

-- no result needs more than a byte
abbrev fits : Lane → ℕ → Bool
fits it b = leb b 255
fits (always k) b = leb k 255
fits (result o x y) b = leb (of o (alone x b) (alone y b)) 255 && (fits x b && fits y b)

small : (l : Lane) (b : ℕ) → fits l b ≡ true → alone l b < 256
small it b e = omega (arith, leb-true b 255 e)
small (always k) b e = omega (arith, leb-true k 255 e)
small (result o x y) b e =
    omega (arith, leb-true (of o (alone x b) (alone y b)) 255 (and_left (leb (of o (alone x b) (alone y b)) 255) (fits x b && fits y b) e))

-- an operation works on the last byte and on the others apart
apart : (o : Operation) (a b r s : ℕ) → r < 256 → s < 256 → of o (a * 256 + r) (b * 256 + s) ≡ of o a b * 256 + of o r s
apart And a b r s h k = and_block 8 a b r s h k
apart Or a b r s h k = or_block 8 a b r s h k
apart Xor a b r s h k = xor_block 8 a b r s h k
apart Plus a b r s h k = omega arith

next : (n : ℕ) (l : Lane) (w b : ℕ) → fits l b ≡ true → together (suc n) l (w * 256 + b) ≡ together n l w * 256 + alone l b
next n it w b e = refl
next n (always k) w b e = refl
next n (result o x y) w b e =
    let f = and_right (leb (of o (alone x b) (alone y b)) 255) (fits x b && fits y b) e in
    let p = and_left (fits x b) (fits y b) f in
    let q = and_right (fits x b) (fits y b) f in
    ap₂ (of o) (next n x w b p) (next n y w b q)
    ∙ apart o (together n x w) (together n y w) (alone x b) (alone y b) (small x b p) (small y b q)

of_zero : (o : Operation) → of o 0 0 ≡ 0
of_zero And = refl
of_zero Or = refl
of_zero Xor = refl
of_zero Plus = refl

together_none : (l : Lane) → together 0 l 0 ≡ 0
together_none it = refl
together_none (always k) = refl
together_none (result o x y) = ap₂ (of o) (together_none x) (together_none y) ∙ of_zero o

-- ---- comparisons

abbrev pub same : Bool → Bool → Bool
same true b = b
same false b = not b

pub same_equal : (a b : Bool) → same a b ≡ true → a ≡ b
same_equal true b e = sym e
same_equal false true e = e
same_equal false false e = refl

-- the two results are equal exactly for the bytes of the class
unfoldable pub tells : Lane → Lane → Class → ℕ → Bool
tells x y c b = same (eqb (alone x b) (alone y b)) (has c b) && (fits x b && fits y b)

unit_rest : {text : List ℕ} {c : Class} (n : ℕ) {i j : ℕ} → Takes text (unit (suc n) c) i j → Takes text (unit n c) (i + 1) j
unit_rest n (both (byte a e) u) = starting e u

module _ (x y : Lane) (c : Class) (t : below (tells x y c) 256 ≡ true) (text : List ℕ) where
  says : (n i : ℕ) → i + n ≤ length text → ((k : ℕ) → get_or text k 0 < 256) →
      Says (eqb (together n x (joined text i n)) (together n y (joined text i n))) (Takes text (unit n c) i (i + n))
  unfolding tells
  says zero i h f =
      record {
        true_holds = λ e. nothing (sym (add-zero i));
        holds_true = λ u. eq-eqb (together 0 x 0) (together 0 y 0) (together_none x ∙ sym (together_none y));
      }
  says (suc n) i h f =
      let b : ℕ = get_or text i 0 in
      let w : ℕ = joined text (i + 1) n in
      let a = all_below_lem (tells x y c) 256 t (f i) in
      let s = same_equal (eqb (alone x b) (alone y b)) (has c b) (and_left (same (eqb (alone x b) (alone y b)) (has c b)) (fits x b && fits y b) a) in
      let g = and_right (same (eqb (alone x b) (alone y b)) (has c b)) (fits x b && fits y b) a in
      let p = and_left (fits x b) (fits y b) g in
      let q = and_right (fits x b) (fits y b) g in
      let l = next n x w b p in
      let m = next n y w b q in
      let e : i + 1 + n ≡ i + suc n = omega arith in
      let again = says n (i + 1) (omega arith) f in
      record {
        true_holds = λ o.
            let z = eqb-true (together (suc n) x (w * 256 + b)) (together (suc n) y (w * 256 + b)) o in
            let u = small x b p in
            let v = small y b q in
            both
            (byte {i = i} (omega arith, sym s ∙ eq-eqb (alone x b) (alone y b) (omega (arith, l, m, u, v, z))) refl)
            (ending e (again.true_holds (eq-eqb (together n x w) (together n y w) (omega (arith, l, m, u, v, z)))));
        holds_true = λ r.
            let z = eqb-true (together n x w) (together n y w) (again.holds_true (ending (sym e) (unit_rest n r))) in
            let o = eqb-true (alone x b) (alone y b) (s ∙ (unit_at n r).1) in
            eq-eqb (together (suc n) x (w * 256 + b)) (together (suc n) y (w * 256 + b)) (omega (arith, l, m, z, o));
      }

  -- the comparison of eight bytes at once says whether all are of the class
  pub lanes_say : {at w : ℕ} → Joins text at 8 w → Says (eqb (together 8 x w) (together 8 y w)) (Takes text (unit 8 c) at (at + 8))
  lanes_say {at} j =
      subst⁻¹ (λ (w : ℕ). Says (eqb (together 8 x w) (together 8 y w)) (Takes text (unit 8 c) at (at + 8))) j.number_is (says 8 at j.within j.bytes)

  -- so does a test of the number, if eight bytes are left
  pub lanes_tell : {at : ℕ} (r : Option ℕ) (o : Bool) → MatchOption r (length text < at + 8) (λ w. Joins text at 8 w) →
      MatchOption r (o ≡ false) (λ w. o ≡ eqb (together 8 x w) (together 8 y w)) → Says o (Takes text (unit 8 c) at (at + 8))
  lanes_tell {at} None o h e = subst⁻¹ (λ (b : Bool). Says b (Takes text (unit 8 c) at (at + 8))) e (says_no (λ u. omega (arith, h, unit_inside 7 c u)))
  lanes_tell {at} (Some w) o j e = subst⁻¹ (λ (b : Bool). Says b (Takes text (unit 8 c) at (at + 8))) e (lanes_say j)
