-- Code points by their number: the literal's longest match, and its value. Assumes nothing.
use mathlib.Core.Path.{◌≡◌, refl, subst, sym, ap, ◌∙◌}
use mathlib.Core.Bool.{Bool, true, false}
use mathlib.Core.List.{List}
use Prim.Native.Nat.{ℕ, ◌+◌, ◌≤◌, ◌<◌}
use native.Mathlib.Omega.{arith}
use lib.ListN.{length, get_or}
use Rattle.rules.specs.Test.{Says}
use Rattle.rules.specs.Class.{just}
use Rattle.rules.specs.Rule.{one, lit, Takes, byte, both, At, Longest, Fails}
use Rattle.rules.proofs.Matches.{starting, ending}
use Rattle.lexicon.specs.declared.Base.{Base}
use Rattle.lexicon.specs.declared.Base.TheVariants.{Ten}
use Rattle.std.specs.Prelude.{Option, Some, None}
use Rattle.lexicon.specs.declared.Literal.{Literal}
use Rattle.lexicon.specs.Found.{Judges}
use Rattle.lexicon.specs.Literals.{code_of_base, code_point_of}
use Rattle.lexicon.specs.Values.{CodeOf}
use Rattle.lexicon.specs.Bad.{Scalar, BadCode}
use Rattle.lexicon.specs.Parts.{letter, Marked}
use Rattle.lexicon.proofs.Marks.{by_mark, by_digit, begins, mark_long, first_digit, digits_of_lem}
use Rattle.string.specs.Parts.{number, number_at, BadNumber}
use Rattle.rules.proofs.Tests.{refuted, not_there}
use Rattle.lexicon.proofs.Bases.{some_base, any_base_lem}

module _ {text : List ℕ} where
  -- ---- what the digits' answer says of the literal

  judged : (b : Base) {i s j : ℕ} → Marked text i b s → Longest text (number b) s j → Longest text code_point_of i j
  judged b m l = record { takes = any_base_lem code_of_base b (both m.mark l.takes); most = λ t. l.most (digits_of_lem b m t) }

  value_same : (b : Base) {i s j v : ℕ} → Marked text i b s → CodeOf text i j v → v ≡ number_at text b s j
  value_same b {s = s} {j = j} m c =
      let e = m.only c.base c.before (first_digit c.all_digits) in
      c.value_is ∙ ap (λ (x : Base). number_at text x c.start j) e.0 ∙ ap (λ (y : ℕ). number_at text b y j) e.1

  bad_code_lem : (b : Base) {i s j : ℕ} {bad : Bool} → Marked text i b s → Takes text (number b) s j → Says bad (BadNumber text b s j) → Says bad (BadCode text i j)
  bad_code_lem b {s = s} {j = j} m d y =
      record {
        true_holds = λ e.
            record {
              number = number_at text b s j;
              code = record { base = b; start = s; before = m.mark; all_digits = d; value_is = refl };
              bad = y.true_holds e;
            };
        holds_true = λ c. y.holds_true (λ k. c.bad (subst (λ (v : ℕ). Scalar v) (sym (value_same b m c.code)) k));
      }

  pub code_judged : (b : Base) (i s : ℕ) (r : Option Literal) → Marked text i b s → Judges text (number b) (BadNumber text b) s r → Judges text code_point_of (BadCode text) i r
  code_judged b i s (Some l) m y = (judged b m y.0, bad_code_lem b m y.0.takes y.1)
  code_judged b i s None m f = record { none = λ t. f.none (digits_of_lem b m t) }

  -- ---- a literal begins with `0c` and has a byte behind it

  zero_of : {i j : ℕ} → Takes text code_point_of i j → Takes text (lit "0c") i (i + 2)
  zero_of t = let s = some_base code_of_base t in go s.0 s.1
    where
      go : (b : Base) {i j : ℕ} → Takes text (code_of_base b) i j → Takes text (lit "0c") i (i + 2)
      go b (both u d) = begins text b u

  zero_at : {i j : ℕ} → Takes text (lit "0c") i j → At text (just 0x30) i
  zero_at (both (byte a e) t) = a

  c_at : {i j : ℕ} → Takes text (lit "0c") i j → Takes text (one (just 0x63)) (i + 1) j
  c_at (both (byte a e) t) = starting e t

  pub no_zero : {i : ℕ} {o : Bool} → Says o (Takes text (one (just 0x30)) i (i + 1)) → o ≡ false → Fails text code_point_of i
  no_zero s e = record { none = λ t. not_there s e (zero_at (zero_of t)) }

  pub no_c : {i : ℕ} {o : Bool} → Says o (Takes text (one (just 0x63)) (i + 1) (i + 1 + 1)) → o ≡ false → Fails text code_point_of i
  no_c s e = record { none = λ t. refuted s e (ending (omega arith) (c_at (zero_of t))) }

  pub no_more : {i : ℕ} → length text ≤ i + 2 → Fails text code_point_of i
  no_more {i} h = record { none = λ t. let s = some_base code_of_base t in go s.0 s.1 }
    where
      go : (b : Base) {j : ℕ} → Takes text (code_of_base b) i j → ⊥
      go b (both u d) = let x = mark_long text b u in omega (arith, (first_digit d).0)

-- ---- what each way through the code says

module _ (text : List ℕ) (i : ℕ) (r : Option Literal) {o p : Bool}
    (s : Says o (Takes text (one (just 0x30)) i (i + 1))) (e : o ≡ true)
    (t : Says p (Takes text (one (just 0x63)) (i + 1) (i + 1 + 1))) (f : p ≡ true) where
  zero_c : Takes text (lit "0c") i (i + 2)
  zero_c =
      let h : i + 1 + 1 ≡ i + 2 = omega arith in both (s.true_holds e) (ending h (t.true_holds f))

  pub mark_judged : (b : Base) → i + 2 < length text → get_or text (i + 2) 0 ≡ letter b → Judges text (number b) (BadNumber text b) (i + 3) r → Judges text code_point_of (BadCode text) i r
  mark_judged b h x y = code_judged b i (i + 3) r (by_mark text b zero_c h x) y

  pub digit_judged : ((b : Base) → get_or text (i + 2) 0 ≡ letter b → ⊥) → Judges text (number Ten) (BadNumber text Ten) (i + 2) r → Judges text code_point_of (BadCode text) i r
  digit_judged n y = code_judged Ten i (i + 2) r (by_digit text zero_c n) y
