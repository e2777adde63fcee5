-- A Fraction made bare has the same denominator and radix. Assumes nothing.
use mathlib.Core.Path.{◌≡◌, refl, sym, subst, ap, ◌∙◌}
use mathlib.Core.Logic.{inl, inr}
use mathlib.Core.List.{List, [], ◌++◌, append_assoc, append-nil}
use Prim.Native.Nat.{ℕ, ◌+◌, ◌≤◌, ◌<◌}
use native.Mathlib.Nat.{le_antisymm}
use native.Mathlib.Omega.{arith}
use native.Mathlib.Decide.{dec_le}
use lib.ListN.{length, drop, length-append}
use Rattle.rules.specs.Class.{just, has}
use Rattle.rules.specs.Rule.{Rule, ◌then◌, opt, Takes, nothing, both, left, right}
use Rattle.rules.specs.Plain.{Matches, no_byte, joined, in_left, in_right}
use Rattle.rules.proofs.Matches.{forward, ending}
use Rattle.rules.proofs.Windows.{Moves}
use Rattle.rules.proofs.Plain.{placed, takes_whole}
use Rattle.lexicon.specs.declared.Base.{Base}
use Rattle.lexicon.specs.declared.Base.TheVariants.{Two, Eight, Ten, Sixteen}
use Rattle.lexicon.specs.declared.Kind.TheVariants.{Fraction}
use Rattle.lexicon.specs.Bytes.{digits, decimal}
use Rattle.lexicon.specs.Literals.{prefix, nonsigned, sign, integer, spaced, point_of_base, nonsigned_point, radix_point, significand, power, fraction}
use Rattle.lexicon.specs.Values.{Number}
use Rattle.lexicon.specs.Bad.{ZeroDenominator, SmallRadix}
use Rattle.lexicon.specs.Token.{Bad}
use Rattle.lexicon.specs.Parts.{SomeNumeral}
use Rattle.lexicon.proofs.Groups.{to_row}
use Rattle.lexicon.proofs.Moved.{number_moved}
use Rattle.lexicon.proofs.Spaces.{Ahead, ahead_apart}
use Rattle.lexicon.proofs.Numbers.{view, valued, numeral, of_nonsigned, numeral_at, number_same}
use Rattle.lexicon.proofs.Integers.{decimal_blank, start_of, of_integer, some_cut}
use Rattle.lexicon.proofs.Fractions.{of_spaced, symbol_ahead, symbol_from, symbol_same, stops, point_apart, slash_apart, star_apart, caret_apart, point_slash, Significand, of_significand, significand_start, significand_cut, ends_same}
use Rattle.lexicon.proofs.Fractions as Fractions
use Rattle.form.specs.Bare.{bare}
use Rattle.form.proofs.Fits.{sub, Mode, exact, loose, Fits, all_in, numbers, numbers_kept, digits_numeric, prefix_fits, nonsigned_fits, integer_fits, spaced_fits, radix_fits, significand_fits, power_fits}
use Rattle.form.proofs.Strip.{strips}
use Rattle.form.proofs.Amid.{behind, moves_alone, moves_there}
use Rattle.form.proofs.Numeric.{numbers_stay}
use Rattle.form.proofs.Digit.{part, unpart, bare_parted}

-- ---- made bare

left_of : {m o : Mode} {r : Rule} {a : List ℕ} → Fits numbers ⊥ m r o → Matches r a → Matches r (bare a)
left_of f m = (strips numbers numbers_stay f m).matches

left_on : {m o : Mode} {r : Rule} {a : List ℕ} → Fits numbers ⊥ m r o → Matches r a → (b : List ℕ) → bare (a ++ b) ≡ bare a ++ bare b
left_on f m = (strips numbers numbers_stay f m).on

-- ---- a number made bare

number_bare : (d : List ℕ) {v : ℕ} → Number d 0 (length d) v → Number (bare d) 0 (length (bare d)) v
number_bare d (b, n) =
    let p = unpart (prefix b) 1 (digits b)
    (bare_parted (prefix b) 0 (digits b) d (prefix_fits numbers numbers_kept b) (sub (digits b) numbers (digits_numeric b))
    (part d (prefix b) 1 (digits b) n.before n.digits_are)) in
    (b, record { start = p.0; before = p.1; bytes = n.bytes; digits_are = p.2; value_is = n.value_is })

-- the number of bytes made bare is that of the bytes
number_back_to : (d : List ℕ) {v : ℕ} → Matches nonsigned d → Number (bare d) 0 (length (bare d)) v → Number d 0 (length d) v
number_back_to d {v} m n =
    let s = of_nonsigned d ((takes_whole nonsigned d).1 m) in
    let o = valued d s.is in
    let k = number_bare d (s.of, o) in
    let e = number_same (bare d) (numeral (bare d) k.1) n in
    subst (λ (x : ℕ). Number d 0 (length d) x) (k.1.value_is ∙ sym e) (s.of, o)

moving : (v : ℕ) → Moves (λ (text : List ℕ) (i j : ℕ). Number text i j v)
moving v a b p q m w i j n h k = number_moved a b p q m w n h k

number_within : (text : List ℕ) {i j v : ℕ} → Number text i j v → i < length text
number_within text (b, n) = (numeral_at text (numeral text n)).0

module _ (T : List ℕ) where
  some_number : {i j v : ℕ} → Number T i j v → SomeNumeral T i j
  some_number m = record { of = m.0; bytes = m.1.bytes; is = numeral T m.1 }

  -- before a power or the end, a number is the longest
  last_number : {x e f : ℕ} → SomeNumeral T x e → Takes T (opt power) e (length T) → SomeNumeral T x f → f ≤ e
  last_number {x} {e} {f} n p m = go (dec_le f e) p
    where
      go : Dec (f ≤ e) → Takes T (opt power) e (length T) → f ≤ e
      go (yes h) p = h
      go (no h) (left (both s u)) = absurd (stops T 0x2A star_apart (symbol_ahead T (of_spaced T 0x2A star_apart s)) (some_cut T n m (omega (arith, h))))
      go (no h) (right (nothing q)) = let a = some_cut T n m (omega (arith, h)) in let z = forward a.skipped.takes in
          absurd (omega (arith, q, z, a.stands.0))

  -- before a star, a significand is
  last_significand : {g e f : ℕ} → Significand T g e → Ahead T (just 0x2A) e → Significand T g f → f ≤ e
  last_significand {g} {e} {f} n a m = go (dec_le f e)
    where
      go : Dec (f ≤ e) → f ≤ e
      go (yes h) = h
      go (no h) = absurd (stops T 0x2A star_apart a (significand_cut T n m (omega (arith, h))))

  -- a point is no slash
  point_clash : (b : Base) {h l f start : ℕ} → Takes T sign 0 h → Takes T (point_of_base b) h l → Takes T integer 0 f → Takes T (spaced "/") f start → ⊥
  point_clash b t (both p (both m (both s n))) zi zs =
      let u = view b p (to_row T 1 (digits b) m).1 in
      let st = start_of T t (numeral_at T u) in
      let n1 = Fractions.some T u in
      let s1 = of_spaced T 0x2E point_apart s in
      let n2 = of_integer T st zi in
      let s2 = of_spaced T 0x2F slash_apart zs in
      let e = ends_same T 0x2E 0x2F point_apart slash_apart n1 (symbol_ahead T s1) n2 (symbol_ahead T s2) in
      ahead_apart (just 0x2E) (just 0x2F) point_slash (symbol_ahead T s1) (symbol_ahead T (symbol_from T e s2))

  pointed_clash : {l : ℕ} → Takes T radix_point 0 l → ZeroDenominator T 0 (length T) → ⊥
  pointed_clash (both t u) z = go z.before t u
    where
      go : {h l k : ℕ} → Takes T (integer then spaced "/") 0 k → Takes T sign 0 h → Takes T nonsigned_point h l → ⊥
      go (both zi zs) t (left u) = point_clash Two t u zi zs
      go (both zi zs) t (right (left u)) = point_clash Eight t u zi zs
      go (both zi zs) t (right (right (left u))) = point_clash Ten t u zi zs
      go (both zi zs) t (right (right (right u))) = point_clash Sixteen t u zi zs

  -- a significand to the end has no star behind it
  no_star : Takes T significand 0 (length T) → SmallRadix T 0 (length T) → ⊥
  no_star t r = go r.before
    where
      go : {k : ℕ} → Takes T (significand then spaced "*") 0 k → ⊥
      go (both rs rt) =
          let st = significand_start T t in
          let y = of_spaced T 0x2A star_apart rt in
          let h = last_significand (of_significand T st.1 rs) (symbol_ahead T y) (of_significand T st.1 t) in
          let z = forward y.skipped.takes in
          omega (arith, h, z, y.stands.0)

  part_number : (D P : List ℕ) (p : ℕ) {v : ℕ} → drop p T ≡ D ++ P → Number T p (p + length D) v → Number D 0 (length D) v
  part_number D P p {v} e n =
      moves_alone T D P p e (λ (text : List ℕ) (i j : ℕ). Number text i j v) (moving v) (omega (arith, number_within T n)) n

  -- integer, slash, number, power: the number is the denominator
  module _ (I S D P : List ℕ) (stands : drop 0 T ≡ I ++ (S ++ (D ++ P))) (mi : Matches integer I) (ms : Matches (spaced "/") S) (md : Matches nonsigned D)
      (mp : Matches (opt power) P) where
    denominator : ZeroDenominator T 0 (length T) → Number D 0 (length D) 0
    denominator z = go z.before z.zero z.behind ti
      where
        e1 : drop (0 + length I) T ≡ S ++ (D ++ P)
        e1 = behind T I (S ++ (D ++ P)) 0 stands

        e2 : drop (0 + length I + length S) T ≡ D ++ P
        e2 = behind T S (D ++ P) (0 + length I) e1

        e3 : drop (0 + length I + length S + length D) T ≡ P
        e3 = behind T D P (0 + length I + length S) e2

        ti : Takes T integer 0 (0 + length I)
        ti = placed T mi 0 (S ++ (D ++ P)) stands

        ts : Takes T (spaced "/") (0 + length I) (0 + length I + length S)
        ts = placed T ms (0 + length I) (D ++ P) e1

        tn : Takes T nonsigned (0 + length I + length S) (0 + length I + length S + length D)
        tn = placed T md (0 + length I + length S) P e2

        long : length T ≡ 0 + length I + length S + length D + length P
        long = ap length stands ∙ omega (arith, length-append I (S ++ (D ++ P)), length-append S (D ++ P), length-append D P)

        tp : Takes T (opt power) (0 + length I + length S + length D) (length T)
        tp = ending (sym long) (placed T mp (0 + length I + length S + length D) [] (e3 ∙ sym (append-nil P)))

        go : {k e : ℕ} → Takes T (integer then spaced "/") 0 k → Number T k e 0 → Takes T (opt power) e (length T) → Takes T integer 0 (0 + length I) →
            Number D 0 (length D) 0
        go {k} {e} (both zi zs) n q (both t u) =
            let st = start_of T t (numeral_at T (of_nonsigned T u).is) in
            let s1 = of_spaced T 0x2F slash_apart ts in
            let s2 = of_spaced T 0x2F slash_apart zs in
            let f = ends_same T 0x2F 0x2F slash_apart slash_apart (of_integer T st ti) (symbol_ahead T s1) (of_integer T st zi) (symbol_ahead T s2) in
            let g = symbol_same T decimal decimal decimal_blank decimal_blank s1 (numeral_at T (of_nonsigned T tn).is) (symbol_from T f s2)
            (numeral_at T (numeral T n.1)) in
            let m = subst (λ (x : ℕ). Number T x e 0) (sym g) n in
            let w = le_antisymm (last_number (of_nonsigned T tn) tp (some_number m)) (last_number (some_number m) q (of_nonsigned T tn)) in
            part_number D P (0 + length I + length S) e2 (subst (λ (x : ℕ). Number T (0 + length I + length S) x 0) w m)

  -- significand, star, number, caret, integer: the number is the radix
  module _ (S A D C I : List ℕ) (stands : drop 0 T ≡ S ++ (A ++ (D ++ (C ++ I)))) (ms : Matches significand S) (ma : Matches (spaced "*") A)
      (md : Matches nonsigned D) (mc : Matches (spaced "^") C) where
    radix_there : (z : SmallRadix T 0 (length T)) → Number D 0 (length D) z.radix
    radix_there z = go z.before z.number z.behind
      where
        e1 : drop (0 + length S) T ≡ A ++ (D ++ (C ++ I))
        e1 = behind T S (A ++ (D ++ (C ++ I))) 0 stands

        e2 : drop (0 + length S + length A) T ≡ D ++ (C ++ I)
        e2 = behind T A (D ++ (C ++ I)) (0 + length S) e1

        e3 : drop (0 + length S + length A + length D) T ≡ C ++ I
        e3 = behind T D (C ++ I) (0 + length S + length A) e2

        t_s : Takes T significand 0 (0 + length S)
        t_s = placed T ms 0 (A ++ (D ++ (C ++ I))) stands

        ta : Takes T (spaced "*") (0 + length S) (0 + length S + length A)
        ta = placed T ma (0 + length S) (D ++ (C ++ I)) e1

        tn : Takes T nonsigned (0 + length S + length A) (0 + length S + length A + length D)
        tn = placed T md (0 + length S + length A) (C ++ I) e2

        tc : Takes T (spaced "^") (0 + length S + length A + length D) (0 + length S + length A + length D + length C)
        tc = placed T mc (0 + length S + length A + length D) I e3

        go : {k e : ℕ} → Takes T (significand then spaced "*") 0 k → Number T k e z.radix → Takes T (spaced "^" then integer) e (length T) →
            Number D 0 (length D) z.radix
        go {k} {e} (both zi zs) n (both zc ze) =
            let st = significand_start T t_s in
            let s1 = of_spaced T 0x2A star_apart ta in
            let s2 = of_spaced T 0x2A star_apart zs in
            let a = of_significand T st.1 t_s in
            let b = of_significand T st.1 zi in
            let f = le_antisymm (last_significand a (symbol_ahead T s1) b) (last_significand b (symbol_ahead T s2) a) in
            let g = symbol_same T decimal decimal decimal_blank decimal_blank s1 (numeral_at T (of_nonsigned T tn).is) (symbol_from T f s2)
            (numeral_at T (numeral T n.1)) in
            let m = subst (λ (x : ℕ). Number T x e z.radix) (sym g) n in
            let w = ends_same T 0x5E 0x5E caret_apart caret_apart (of_nonsigned T tn) (symbol_ahead T (of_spaced T 0x5E caret_apart tc)) (some_number m)
            (symbol_ahead T (of_spaced T 0x5E caret_apart zc)) in
            part_number D (C ++ I) (0 + length S + length A) e2 (subst (λ (x : ℕ). Number T (0 + length S + length A) x z.radix) w m)

-- ---- back to the literal

slash_fits : Fits numbers ⊥ exact (spaced "/") loose
unfolding all_in has
slash_fits = spaced_fits numbers numbers_kept 0x2F refl

star_fits : Fits numbers ⊥ exact (spaced "*") loose
unfolding all_in has
star_fits = spaced_fits numbers numbers_kept 0x2A refl

caret_fits : Fits numbers ⊥ exact (spaced "^") loose
unfolding all_in has
caret_fits = spaced_fits numbers numbers_kept 0x5E refl

zero_of : (i s d p : List ℕ) → Matches integer i → Matches (spaced "/") s → Matches (opt power) p → Number d 0 (length d) 0 →
    ZeroDenominator (i ++ (s ++ (d ++ p))) 0 (length (i ++ (s ++ (d ++ p))))
zero_of i s d p mi ms mp n =
    let T = i ++ (s ++ (d ++ p)) in
    let e1 = behind T i (s ++ (d ++ p)) 0 refl in
    let e2 = behind T s (d ++ p) (0 + length i) e1 in
    let e3 = behind T d p (0 + length i + length s) e2 in
    let long : 0 + length i + length s + length d + length p ≡ length (i ++ (s ++ (d ++ p))) =
    omega (arith, length-append i (s ++ (d ++ p)), length-append s (d ++ p), length-append d p) in
    let f = moves_there T d p (0 + length i + length s) e2 (λ (text : List ℕ) (i j : ℕ). Number text i j 0) (moving 0) (omega (arith, long)) n in
    record {
      start = 0 + length i + length s;
      end = 0 + length i + length s + length d;
      before = both (placed T mi 0 (s ++ (d ++ p)) refl) (placed T ms (0 + length i) (d ++ p) e1);
      zero = f;
      behind = ending long (placed T mp (0 + length i + length s + length d) [] (e3 ∙ sym (append-nil p)));
    }

radix_of : (s a d c i : List ℕ) (v : ℕ) → v < 2 → Matches significand s → Matches (spaced "*") a → Matches (spaced "^") c → Matches integer i →
    Number d 0 (length d) v → SmallRadix (s ++ (a ++ (d ++ (c ++ i)))) 0 (length (s ++ (a ++ (d ++ (c ++ i)))))
radix_of s a d c i v h ms ma mc mi n =
    let T = s ++ (a ++ (d ++ (c ++ i))) in
    let e1 = behind T s (a ++ (d ++ (c ++ i))) 0 refl in
    let e2 = behind T a (d ++ (c ++ i)) (0 + length s) e1 in
    let e3 = behind T d (c ++ i) (0 + length s + length a) e2 in
    let e4 = behind T c i (0 + length s + length a + length d) e3 in
    let long : 0 + length s + length a + length d + length c + length i ≡ length (s ++ (a ++ (d ++ (c ++ i)))) =
    omega (arith, length-append s (a ++ (d ++ (c ++ i))), length-append a (d ++ (c ++ i)), length-append d (c ++ i), length-append c i) in
    let f = moves_there T d (c ++ i) (0 + length s + length a) e2 (λ (text : List ℕ) (i j : ℕ). Number text i j v) (moving v) (omega (arith, long)) n in
    record {
      start = 0 + length s + length a;
      end = 0 + length s + length a + length d;
      before = both (placed T ms 0 (a ++ (d ++ (c ++ i))) refl) (placed T ma (0 + length s) (d ++ (c ++ i)) e1);
      radix = v;
      number = f;
      small = h;
      behind = both (placed T mc (0 + length s + length a + length d) i e3)
          (ending long (placed T mi (0 + length s + length a + length d + length c) [] (e4 ∙ sym (append-nil i))));
    }

-- made bare, part by part
four : (i s d p : List ℕ) → Matches integer i → Matches (spaced "/") s → Matches nonsigned d →
    bare (i ++ (s ++ (d ++ p))) ≡ bare i ++ (bare s ++ (bare d ++ bare p))
four i s d p mi ms md =
    left_on (integer_fits numbers numbers_kept) mi (s ++ (d ++ p))
    ∙ ap (λ (l : List ℕ). bare i ++ l)
    (left_on slash_fits ms (d ++ p) ∙ ap (λ (l : List ℕ). bare s ++ l) (left_on (nonsigned_fits numbers numbers_kept) md p))

five : (s a d c i : List ℕ) → Matches significand s → Matches (spaced "*") a → Matches nonsigned d → Matches (spaced "^") c →
    bare (s ++ (a ++ (d ++ (c ++ i)))) ≡ bare s ++ (bare a ++ (bare d ++ (bare c ++ bare i)))
five s a d c i ms ma md mc =
    left_on (significand_fits numbers numbers_kept) ms (a ++ (d ++ (c ++ i)))
    ∙ ap (λ (l : List ℕ). bare s ++ l)
    (left_on star_fits ma (d ++ (c ++ i))
    ∙ ap (λ (l : List ℕ). bare a ++ l)
    (left_on (nonsigned_fits numbers numbers_kept) md (c ++ i) ∙ ap (λ (l : List ℕ). bare d ++ l) (left_on caret_fits mc i)))

zero_kept : (s p : List ℕ) → Matches significand s → Matches (opt power) p → ZeroDenominator (bare (s ++ p)) 0 (length (bare (s ++ p))) →
    ZeroDenominator (s ++ p) 0 (length (s ++ p))
zero_kept s p (in_left m) mp z =
    absurd (pointed_clash (bare (s ++ p))
    (placed (bare (s ++ p)) (left_of (radix_fits numbers numbers_kept) m) 0 (bare p) (left_on (radix_fits numbers numbers_kept) m p)) z)
zero_kept _ p (in_right (joined {a = i} mi (joined {a = s} {b = d} ms md))) mp z =
    let e = append_assoc i (s ++ d) p ∙ ap (λ (l : List ℕ). i ++ l) (append_assoc s d p) in
    let n = denominator (bare ((i ++ (s ++ d)) ++ p)) (bare i) (bare s) (bare d) (bare p) (ap bare e ∙ four i s d p mi ms md)
    (left_of (integer_fits numbers numbers_kept) mi) (left_of slash_fits ms) (left_of (nonsigned_fits numbers numbers_kept) md)
    (left_of (power_fits numbers numbers_kept) mp) z in
    subst (λ (l : List ℕ). ZeroDenominator l 0 (length l)) (sym e) (zero_of i s d p mi ms mp (number_back_to d md n))

radix_kept : (s p : List ℕ) → Matches significand s → Matches (opt power) p → SmallRadix (bare (s ++ p)) 0 (length (bare (s ++ p))) →
    SmallRadix (s ++ p) 0 (length (s ++ p))
radix_kept s _ ms (in_right no_byte) z =
    absurd (no_star (bare (s ++ []))
    ((takes_whole significand (bare (s ++ []))).1 (left_of (significand_fits numbers numbers_kept) (subst (Matches significand) (sym (append-nil s)) ms))) z)
radix_kept s _ ms (in_left (joined {a = a} ma (joined {a = d} md (joined {a = c} {b = i} mc mi)))) z =
    let n = radix_there (bare (s ++ (a ++ (d ++ (c ++ i))))) (bare s) (bare a) (bare d) (bare c) (bare i) (five s a d c i ms ma md mc)
    (left_of (significand_fits numbers numbers_kept) ms) (left_of star_fits ma) (left_of (nonsigned_fits numbers numbers_kept) md)
    (left_of caret_fits mc) z in
    radix_of s a d c i z.radix z.small ms ma mc mi (number_back_to d md n)

pub fractions : (a : List ℕ) → Matches fraction a → (Bad a Fraction 0 (length a) → ⊥) → Bad (bare a) Fraction 0 (length (bare a)) → ⊥
fractions _ (joined {a = s} {b = p} ms mp) n (inl z) = n (inl (zero_kept s p ms mp z))
fractions _ (joined {a = s} {b = p} ms mp) n (inr z) = n (inr (radix_kept s p ms mp z))

-- a numeral with a point has neither
pub point_sound : (T : List ℕ) → Takes T radix_point 0 (length T) → Bad T Fraction 0 (length T) → ⊥
point_sound T t (inl z) = pointed_clash T t z
point_sound T t (inr z) = no_star T (left t) z
