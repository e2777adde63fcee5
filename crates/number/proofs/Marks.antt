-- The marks of the bases, and the numbers behind them. Assumes nothing.
use mathlib.Core.Path.{◌≡◌, refl, sym, ap, subst, subst⁻¹, ◌∙◌}
use mathlib.Core.Logic.{⊎_elim}
use mathlib.Core.List.{List}
use Prim.Native.Nat.{ℕ, ◌+◌, ◌≤◌, ◌<◌, min}
use native.Mathlib.Omega.{arith}
use lib.ListN.{length, get_or}
use Rattle.rules.specs.Class.{In, has, just}
use Rattle.rules.specs.Rule.{Takes, Fails, At, opt}
use Rattle.rules.proofs.Classes.{is_just, just_is, in_cons}
use Rattle.rules.proofs.Matches.{forward, starting}
use Rattle.lexicon.specs.declared.Base.{Base}
use Rattle.lexicon.specs.declared.Base.TheVariants.{Ten}
use Rattle.lexicon.specs.declared.Set.{Set}
use Rattle.lexicon.specs.Bytes.{members, digits, digit_set_of, radix, decimal}
use Rattle.lexicon.specs.Space.{sp, Skips}
use Rattle.lexicon.specs.Literals.{unit, plus_minus}
use Rattle.lexicon.specs.Parts.{Start, behind, unsigned, letter, Numeral, marked, bare}
use Rattle.lexicon.specs.Values.{Digits, value}
use Rattle.lexicon.specs.Limited.{limit, limited}
use Rattle.lexicon.proofs.Limits.{limited_value}
use Rattle.lexicon.proofs.Spaces.{skips_same, landed}
use Rattle.lexicon.proofs.Groups.{digits_most, digits_forward, digits_unit, digits_at}
use Rattle.lexicon.proofs.Numbers.{clear, in_marks, bare_short, aligned, same_base}
use Rattle.std.proofs.Common.{Option, Some, None}
use Rattle.std.specs.Option.{MatchOption}
use Rattle.text.specs.Letters.{Letters}
use Rattle.number.specs.declared.integer.Number.{Number}
use Rattle.number.specs.declared.tally.Value.{Value}
use Rattle.number.specs.Tally.{value_more}
use Rattle.number.proofs.Sums.{value_folds}
use Rattle.number.specs.Groups.{Row}
use Rattle.number.specs.Number.{HasMark, NoMark, Marks, OfBase, IsNumber, NoNumber, NoMarked, MarkedNumber, Numbered}

-- ---- the mark

module _ (text : List ℕ) (i : ℕ) where
  pub no_mark : (At text (just 0x30) i → ⊥) → NoMark text i
  no_mark f = record { none = λ m. f m.zero }

  pub no_letter_behind : length text ≤ i + 1 → NoMark text i
  no_letter_behind h = record { none = λ m. omega (arith, m.letter_is.0) }

  -- the letter behind `0` decides
  pub letter_marks : {c : ℕ} (r : Option Base) → At text (just 0x30) i → (i + 1 < length text) × (c ≡ get_or text (i + 1) 0) → Letters c r → Marks text i r
  letter_marks (Some b) z g l = record { zero = z; letter_is = (g.0, is_just (letter b) (get_or text (i + 1) 0) (sym g.1 ∙ l)) }
  letter_marks None z g n = record { none = λ m. go m }
    where
      go : {b : Base} → HasMark text b i → ⊥
      go {b} m = n b (g.1 ∙ just_is (letter b) (get_or text (i + 1) 0) m.letter_is.1)

-- ---- the number

-- the longest row of a base's digits, and their number up to the limit
abbrev pub DigitRow : List ℕ → Base → ℕ → ℕ → ℕ → Type 0
DigitRow text b i j v = Row (limited (radix b)) 0 text (digit_set_of b) 1 i j v

module _ (text : List ℕ) (i : ℕ) where
  row_value : (b : Base) {g j v : ℕ} (r : DigitRow text b g j v) → v ≡ min limit (value (radix b) r.row.bytes)
  row_value b r = r.row.sum_is ∙ limited_value (radix b) 0 r.row.bytes

  -- digits found behind a mark
  pub marked_number : (b : Base) {g j v : ℕ} → HasMark text b i → Skips text (i + 2) g → DigitRow text b g j v → IsNumber text b i j v
  marked_number b {g} {j} {v} m s r =
      record { bytes = r.row.bytes; is = marked m.zero m.letter_is s.takes r.row.digits_are; value_is = row_value b r; most = λ n. go n.is }
    where
      go : {c : Base} {k : ℕ} {ds : List ℕ} → Numeral text c i k ds → k ≤ j
      go {c} (marked z x t d) =
          digits_most text 0 (digits b) (clear b) r.row.digits_are r.ended (aligned text b c i m.letter_is s.takes r.row.digits_are x t d).1
      go {k = k} (bare d) =
          let p = bare_short text i k d (in_marks text b (i + 1) m.letter_is) in
          let q = forward s.takes in
          let w = digits_forward r.row.digits_are in
          omega arith

  -- none behind it
  pub no_digits : (b : Base) {g : ℕ} → HasMark text b i → Skips text (i + 2) g → Fails text (unit 1 (digits b)) g → NoMarked text i
  no_digits b {g} m s f = record { none = λ n t d. go n t d }
    where
      first : {c : Base} {h j : ℕ} {ds : List ℕ} → Digits text 1 (digits c) h j ds → c ≡ b → h ≡ g → ⊥
      first d e k =
          let u = digits_unit d in
          f.none (subst (λ (x : Base). Takes text (unit 1 (digits x)) g u.0) e (starting k u.1))

      go : {c : Base} {h j : ℕ} {ds : List ℕ} → HasMark text c i → Takes text (opt sp) (i + 2) h → Digits text 1 (digits c) h j ds → ⊥
      go {c} n t d =
          first d (same_base b c (just_is (letter b) (get_or text (i + 1) 0) m.letter_is.1) (just_is (letter c) (get_or text (i + 1) 0) n.letter_is.1))
          (skips_same (landed (digits c) (clear c).no_blank t (digits_at text 0 (digits c) (clear c) d)) s)

  pub no_mark_no_number : NoMark text i → NoMarked text i
  no_mark_no_number f = record { none = λ m s d. f.none m }

  -- decimal digits without a mark
  pub bare_number : {j v : ℕ} → NoMarked text i → DigitRow text Ten i j v → IsNumber text Ten i j v
  bare_number {j} f r = record { bytes = r.row.bytes; is = bare r.row.digits_are; value_is = row_value Ten r; most = λ n. go n.is }
    where
      go : {c : Base} {k : ℕ} {ds : List ℕ} → Numeral text c i k ds → k ≤ j
      go {c} (marked z x t d) = absurd (f.none {b = c} (record { zero = z; letter_is = x }) t d)
      go (bare d) = digits_most text 0 decimal (clear Ten) r.row.digits_are r.ended d

  pub no_number : NoMarked text i → Fails text (unit 1 decimal) i → NoNumber text i
  no_number f g = record { none = λ n. go n.is }
    where
      go : {c : Base} {k : ℕ} {ds : List ℕ} → Numeral text c i k ds → ⊥
      go {c} (marked z x t d) = f.none {b = c} (record { zero = z; letter_is = x }) t d
      go (bare d) = g.none (digits_unit d).1

  -- ---- what the searches answered

  -- the digits behind the mark, or none
  pub marked_answer : (b : Base) {g : ℕ} → HasMark text b i → Skips text (i + 2) g → (n : Option Number) → OfBase text b g n → MarkedNumber text i n
  marked_answer b m s (Some n) d = subst (λ (x : Base). IsNumber text x i n.end n.value) (sym d.0) (marked_number b m s d.1)
  marked_answer b m s None f = no_digits b m s f

  -- else decimal digits
  pub number_answer : (m n : Option Number) → MarkedNumber text i m → MatchOption m (OfBase text Ten i n) (λ x. n ≡ Some x) → Numbered text i n
  number_answer (Some m) n y e = rw e y
  number_answer None (Some n) f d = subst (λ (x : Base). IsNumber text x i n.end n.value) (sym d.0) (bare_number f d.1)
  number_answer None None f g = no_number f g

  pub row_found : (b : Base) {j : ℕ} {s : Set} {v : Value} → s ≡ digit_set_of b → Row value_more (record { base = b; value = 0 }) text s 1 i j v → DigitRow text b i j v.value
  row_found b {j} {v = v} e r =
      subst (λ (x : Set). Row (limited (radix b)) 0 text x 1 i j v.value) e
      (record {
        row =
            record {
              bytes = r.row.bytes;
              digits_are = r.row.digits_are;
              sum_is = ap (λ (x : Value). x.value) (r.row.sum_is ∙ value_folds b 0 r.row.bytes);
            };
        ended = r.ended;
      })

  pub row_missing : (b : Base) {s : Set} → s ≡ digit_set_of b → Fails text (unit 1 (members s)) i → Fails text (unit 1 (digits b)) i
  row_missing b e f = subst (λ (x : Set). Fails text (unit 1 (members x)) i) e f

-- ---- the sign

plus_in : In plus_minus 0x2B
unfolding has
plus_in = refl

minus_in : In plus_minus 0x2D
unfolding has
minus_in = refl

module _ (text : List ℕ) (i : ℕ) where
  pub start_plus : {g : ℕ} → At text (just 0x2B) i → Skips text (i + 1) g → Start text i g
  start_plus a s = behind (a.0, subst⁻¹ (In plus_minus) (just_is 0x2B _ a.1) plus_in) s

  pub start_minus : {g : ℕ} → At text (just 0x2D) i → Skips text (i + 1) g → Start text i g
  start_minus a s = behind (a.0, subst⁻¹ (In plus_minus) (just_is 0x2D _ a.1) minus_in) s

  pub start_other : (At text (just 0x2B) i → ⊥) → (At text (just 0x2D) i → ⊥) → Start text i i
  start_other f g = unsigned (λ a. ⊎_elim (λ x. f (a.0, x)) (λ x. g (a.0, x)) (in_cons _ _ (get_or text i 0) a.1)) refl
