-- Numbers without a sign: a view that tells the marked from the bare, and the two laws on which every longer literal rests. A
-- number that is shorter than another from the same place is followed by a byte of a word (dividing space aside), and the ends
-- fix base and digits. Assumes nothing.
use mathlib.Core.Path.{◌≡◌, refl, subst, sym, ap, ◌∙◌}
use mathlib.Core.Bool.{true, cond}
use mathlib.Core.List.{List}
use Prim.Native.Nat.{ℕ, ◌+◌, ◌<◌}
use native.Mathlib.Omega.{arith}
use lib.Dec.{eqb}
use lib.ListN.{get_or}
use Rattle.rules.specs.Class.{Class, In, has, just, any_of}
use Rattle.rules.specs.Rule.{one, ◌then◌, opt, At, Takes, nothing, byte, both, left, right}
use Rattle.rules.proofs.Classes.{apart, apart_span, apart_no, includes, in_some, includes_in, just_is}
use Rattle.rules.proofs.Matches.{forward, starting}
use Rattle.rules.proofs.Ways.{never, never_takes}
use Rattle.lexicon.specs.declared.Base.{Base}
use Rattle.lexicon.specs.declared.Base.TheVariants.{Two, Eight, Ten, Sixteen}
use Rattle.lexicon.specs.Bytes.{decimal, word_rest, digits, radix, base64}
use Rattle.lexicon.specs.Space.{blank, sp}
use Rattle.lexicon.specs.Literals.{joint, prefix, of_base, nonsigned}
use Rattle.lexicon.specs.Values.{Digits, last_unit, next_unit, OfBase, Number, value}
use Rattle.lexicon.proofs.Bases.{some_base, any_base_lem}
use Rattle.lexicon.proofs.Spaces.{skips_same, landed, landed_here, Ahead}
use Rattle.lexicon.specs.Parts.{Further, letter, Numeral, marked, bare, SomeNumeral}
use Rattle.lexicon.proofs.Groups.{Clear, digits_same, digits_cut, digits_forward, digits_at, underscore_blank, to_row, of_row, unit_end, unit_at}

abbrev marks : Class
marks = any_of "bodx"

unfoldable pub clear : (b : Base) → Clear (digits b)
unfolding never apart apart_span
clear Two = record { no_joint = refl; no_blank = refl }
clear Eight = record { no_joint = refl; no_blank = refl }
clear Ten = record { no_joint = refl; no_blank = refl }
clear Sixteen = record { no_joint = refl; no_blank = refl }

pub clear_base64 : Clear base64
unfolding never apart apart_span
clear_base64 = record { no_joint = refl; no_blank = refl }

digits_words : (b : Base) → includes (digits b) word_rest ≡ true
unfolding includes in_some
digits_words Two = refl
digits_words Eight = refl
digits_words Ten = refl
digits_words Sixteen = refl

letter_mark : (b : Base) → In marks (letter b)
unfolding has
letter_mark Two = refl
letter_mark Eight = refl
letter_mark Ten = refl
letter_mark Sixteen = refl

marks_words : includes marks word_rest ≡ true
unfolding includes in_some
marks_words = refl

marks_joint : never marks joint ≡ true
unfolding never apart apart_span
marks_joint = refl

marks_blank : never marks blank ≡ true
unfolding never apart apart_span
marks_blank = refl

zero_decimal : includes (just 0x30) decimal ≡ true
unfolding includes in_some
zero_decimal = refl

marks_digits : apart marks decimal ≡ true
unfolding apart apart_span
marks_digits = refl

words_blank : never word_rest blank ≡ true
unfolding never apart apart_span
words_blank = refl

underscore_words : includes (any_of "_") word_rest ≡ true
unfolding includes in_some
underscore_words = refl

-- a letter is no digit
pub letter_no_digit : (b : Base) → In decimal (letter b) → ⊥
letter_no_digit b d = apart_no marks decimal (letter b) marks_digits (letter_mark b) d

-- a letter tells its base
base : ℕ → Base
base n = cond (eqb n 0x62) Two (cond (eqb n 0x6F) Eight (cond (eqb n 0x64) Ten Sixteen))

base_letter : (b : Base) → base (letter b) ≡ b
unfolding base
base_letter Two = refl
base_letter Eight = refl
base_letter Ten = refl
base_letter Sixteen = refl

pub same_base : (b c : Base) {n : ℕ} → n ≡ letter b → n ≡ letter c → c ≡ b
same_base b c p q = sym (base_letter c) ∙ ap base (sym q ∙ p) ∙ base_letter b

module _ {text : List ℕ} where
  -- ---- the view

  mark_bytes_lem : {a b i g : ℕ} → Takes text ((one (just a) then one (just b)) then opt sp) i g → (At text (just a) i) × (At text (just b) (i + 1)) × Takes text (opt sp) (i + 2) g
  mark_bytes_lem {b = b} {i = i} (both (both (byte x e) (byte y f)) s) =
      (x, subst (λ (k : ℕ). At text (just b) k) e y, starting (f ∙ omega arith) s)

  pub view : (b : Base) {i g j : ℕ} {ds : List ℕ} → Takes text (prefix b) i g → Digits text 1 (digits b) g j ds → Numeral text b i j ds
  view Two p d = let m = mark_bytes_lem p in marked m.0 m.1 m.2 d
  view Eight p d = let m = mark_bytes_lem p in marked m.0 m.1 m.2 d
  view Ten (left p) d = let m = mark_bytes_lem p in marked m.0 m.1 m.2 d
  view Ten {j = j} {ds = ds} (right (nothing e)) d = bare (subst (λ (k : ℕ). Digits text 1 decimal k j ds) (sym e) d)
  view Sixteen p d = let m = mark_bytes_lem p in marked m.0 m.1 m.2 d

module _ (text : List ℕ) where
  -- ---- a mark's letter behind the digit 0 ends a decimal number

  pub in_marks : (b : Base) (i : ℕ) → At text (just (letter b)) i → At text marks i
  in_marks b i a = (a.0, subst (In marks) (sym (just_is (letter b) (get_or text i 0) a.1)) (letter_mark b))

  pub bare_short : (i k : ℕ) {ds : List ℕ} → Digits text 1 decimal i k ds → At text marks (i + 1) → k ≡ i + 1
  bare_short i k (last_unit u) a = unit_end 1 decimal u
  bare_short i k (next_unit u t d) a = absurd (go t (unit_end 1 decimal u) (digits_at text 0 decimal (clear Ten) d))
    where
      go : {m k : ℕ} → Takes text (opt joint) m k → m ≡ i + 1 → At text decimal k → ⊥
      go (right (nothing e)) f x =
          apart_no marks decimal (get_or text (i + 1) 0) marks_digits a.1 (subst (λ (p : ℕ). In decimal (get_or text p 0)) (sym e ∙ f) x.1)
      go (left t) f x = never_takes text marks joint marks_joint a (starting f t)

  -- ---- a row that goes on has a byte of a word ahead

  pub further_ahead : (b : Base) {j : ℕ} → Further text 1 (digits b) j → Ahead text word_rest j
  further_ahead b {j} f = go f.joined (unit_at 0 f.next)
    where
      in_words : {k : ℕ} → At text (digits b) k → At text word_rest k
      in_words {k} a = (a.0, includes_in (digits b) word_rest (get_or text k 0) (digits_words b) a.1)

      go : {k : ℕ} → Takes text (opt joint) j k → At text (digits b) k → Ahead text word_rest j
      go (right (nothing e)) a = record { place = _; skipped = landed (digits b) (clear b).no_blank (right (nothing e)) a; stands = in_words a }
      go (left (left (byte x e))) a =
          record { place = j; skipped = landed_here (any_of "_") underscore_blank x; stands = (x.0, includes_in (any_of "_") word_rest (get_or text j 0) underscore_words x.1) }
      go (left (right t)) a = record { place = _; skipped = landed (digits b) (clear b).no_blank (left t) a; stands = in_words a }

  -- ---- the two laws

  pub digits_start : (b c : Base) {p g h j k : ℕ} {ds es : List ℕ} → Takes text (opt sp) p g → Digits text 1 (digits b) g j ds → Takes text (opt sp) p h → Digits text 1 (digits c) h k es → h ≡ g
  digits_start b c s d t e =
      skips_same (landed (digits c) (clear c).no_blank t (digits_at text 0 (digits c) (clear c) e)) (landed (digits b) (clear b).no_blank s (digits_at text 0 (digits b) (clear b) d))

  -- behind one mark the digits begin in one place and are of one base
  pub aligned : (b c : Base) (i : ℕ) {g h j k : ℕ} {ds es : List ℕ} → At text (just (letter b)) (i + 1) → Takes text (opt sp) (i + 2) g → Digits text 1 (digits b) g j ds → At text (just (letter c)) (i + 1) → Takes text (opt sp) (i + 2) h → Digits text 1 (digits c) h k es → (c ≡ b) × Digits text 1 (digits b) g k es
  aligned b c i {g} {h} {j} {k} {ds} {es} x s d y t e =
      let p : c ≡ b = same_base b c (just_is (letter b) (get_or text (i + 1) 0) x.1) (just_is (letter c) (get_or text (i + 1) 0) y.1) in
      (p, subst (λ (o : Base). Digits text 1 (digits o) g k es) p (subst (λ (o : ℕ). Digits text 1 (digits c) o k es) (digits_start b c s d t e) e))

  pub numeral_cut : {b c : Base} {i j k : ℕ} {ds es : List ℕ} → Numeral text b i j ds → Numeral text c i k es → j < k → Ahead text word_rest j
  numeral_cut {b} {c} (marked {i = i} z x s d) (marked w y t e) h =
      further_ahead b (digits_cut text 0 (digits b) (clear b) d (aligned b c i x s d y t e).1 h)
  numeral_cut {b} (marked {i = i} z x s d) (bare {j = k} e) h =
      let p = bare_short i k e (in_marks b (i + 1) x) in let q = forward s in let r = digits_forward d in absurd (omega arith)
  numeral_cut {c = c} (bare {j = j} d) (marked {i = i} w y t e) h =
      let p : j ≡ i + 1 = bare_short i j d (in_marks c (i + 1) y) in
      let a : At text marks (i + 1) = in_marks c (i + 1) y in
      subst (λ (o : ℕ). Ahead text word_rest o) (sym p)
      (record { place = i + 1; skipped = landed_here marks marks_blank a; stands = (a.0, includes_in marks word_rest (get_or text (i + 1) 0) marks_words a.1) })
  numeral_cut (bare d) (bare e) h = further_ahead Ten (digits_cut text 0 decimal (clear Ten) d e h)

  pub numeral_same : {b c : Base} {i j : ℕ} {ds es : List ℕ} → Numeral text b i j ds → Numeral text c i j es → (c ≡ b) × (es ≡ ds)
  numeral_same {b} {c} (marked {i = i} z x s d) (marked w y t e) =
      let a = aligned b c i x s d y t e in (a.0, digits_same text 0 (digits b) (clear b) a.1 d)
  numeral_same {b} (marked {i = i} z x s d) (bare {j = k} e) =
      let p = bare_short i k e (in_marks b (i + 1) x) in let q = forward s in let r = digits_forward d in absurd (omega arith)
  numeral_same {c = c} (bare {j = j} d) (marked {i = i} w y t e) =
      let p = bare_short i j d (in_marks c (i + 1) y) in let q = forward t in let r = digits_forward e in absurd (omega arith)
  numeral_same (bare d) (bare e) = (refl, digits_same text 0 decimal (clear Ten) e d)

  -- ---- from the rule to the view and back

  pub of_base_lem : (b : Base) {i j : ℕ} → Takes text (of_base b) i j → (ds : List ℕ) × Numeral text b i j ds
  of_base_lem b (both p g) = let r = to_row text 1 (digits b) g in (r.0, view b p r.1)

  two_bytes : (a b i : ℕ) {g : ℕ} → At text (just a) i → At text (just b) (i + 1) → Takes text (opt sp) (i + 2) g → Takes text ((one (just a) then one (just b)) then opt sp) i g
  two_bytes a b i x y s = both (both (byte x refl) (byte y refl)) (starting (omega arith) s)

  mark_prefix : (b : Base) (i : ℕ) {g : ℕ} → At text (just 0x30) i → At text (just (letter b)) (i + 1) → Takes text (opt sp) (i + 2) g → Takes text (prefix b) i g
  mark_prefix Two i x y s = two_bytes 0x30 0x62 i x y s
  mark_prefix Eight i x y s = two_bytes 0x30 0x6F i x y s
  mark_prefix Ten i x y s = left (two_bytes 0x30 0x64 i x y s)
  mark_prefix Sixteen i x y s = two_bytes 0x30 0x78 i x y s

  -- a numeral's value by the grammar
  pub valued : {b : Base} {i j : ℕ} {ds : List ℕ} → Numeral text b i j ds → OfBase text b i j (value (radix b) ds)
  valued {b} {ds = ds} (marked {i = i} z x s d) =
      record { start = _; before = mark_prefix b i z x s; bytes = ds; digits_are = d; value_is = refl }
  valued {ds = ds} (bare {i = i} d) = record { start = i; before = right (nothing refl); bytes = ds; digits_are = d; value_is = refl }

  pub numeral : {b : Base} {i j v : ℕ} (o : OfBase text b i j v) → Numeral text b i j o.bytes
  numeral {b} o = view b o.before o.digits_are

  pub to_base : {b : Base} {i j : ℕ} {ds : List ℕ} → Numeral text b i j ds → Takes text (of_base b) i j
  to_base {b} n = let v = valued n in both v.before (of_row text 1 (digits b) v.digits_are)

  pub to_nonsigned : (b : Base) {i j : ℕ} → Takes text (of_base b) i j → Takes text nonsigned i j
  to_nonsigned b t = any_base_lem of_base b t

  -- a match of the rule, as a numeral of some base
  pub of_nonsigned : {i j : ℕ} → Takes text nonsigned i j → SomeNumeral text i j
  of_nonsigned t =
      let s = some_base of_base t in let r = of_base_lem s.0 s.1 in record { of = s.0; bytes = r.0; is = r.1 }

  -- the ends fix the value
  pub number_same : {b : Base} {i j v : ℕ} {ds : List ℕ} → Numeral text b i j ds → Number text i j v → v ≡ value (radix b) ds
  number_same {b} {ds = ds} n m =
      let o = m.1 in
      let s = numeral_same n (numeral o) in
      o.value_is ∙ ap (λ (l : List ℕ). value (radix m.0) l) s.1 ∙ ap (λ (c : Base). value (radix c) ds) s.0

  -- a number begins with a decimal digit
  pub numeral_at : {b : Base} {i j : ℕ} {ds : List ℕ} → Numeral text b i j ds → At text decimal i
  numeral_at (marked {i = i} z x s d) = (z.0, includes_in (just 0x30) decimal (get_or text i 0) zero_decimal z.1)
  numeral_at (bare d) = digits_at text 0 decimal (clear Ten) d
