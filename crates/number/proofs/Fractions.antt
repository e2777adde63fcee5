-- The parts of a Fraction, by what their searches answered: exponent, power, significand, and the whole. Assumes nothing.
use mathlib.Core.Path.{◌≡◌, refl, sym, subst, subst⁻¹, ◌∙◌}
use mathlib.Core.Logic.{◌⊎◌, inl, inr, ⊎_elim}
use mathlib.Core.Bool.{Bool, true, false, ◌||◌}
use mathlib.Core.List.{List}
use Prim.Native.Nat.{ℕ, ◌+◌, ◌≤◌, ◌<◌}
use native.Mathlib.Decide.{dec_le}
use native.Mathlib.Nat.{le_antisymm}
use native.Mathlib.Omega.{arith}
use lib.Dec.{ltb}
use lib.ListN.{length, get_or}
use borrow.Author.Tests.{ltb-true, lt-ltb, eqb-true, eq-eqb}
use Rattle.rules.specs.Test.{Says}
use Rattle.rules.specs.Class.{just}
use Rattle.rules.specs.Rule.{one, ◌then◌, opt, At, Takes, nothing, both, left, right, Longest, Fails}
use Rattle.rules.proofs.Bools.{or_cases, or_left, or_right}
use Rattle.rules.proofs.Classes.{is_just, just_is}
use Rattle.rules.proofs.Matches.{starting, forward, move_at, fails_first}
use Rattle.rules.proofs.Tests.{says_no, there, not_there}
use Rattle.lexicon.specs.declared.Base.{Base}
use Rattle.std.proofs.Common.{Option, Some, None}
use Rattle.lexicon.specs.declared.Literal.{Literal}
use Rattle.lexicon.specs.Bytes.{digits, decimal, radix}
use Rattle.lexicon.specs.Space.{Skips}
use Rattle.lexicon.specs.Found.{Finds, Judges}
use Rattle.lexicon.specs.Literals.{unit, integer, spaced, significand, power, fraction}
use Rattle.lexicon.specs.Values.{Number, OfBase, value}
use Rattle.lexicon.proofs.Spaces.{skips_same, Ahead, ahead_apart}
use Rattle.lexicon.proofs.Groups.{digits_unit, digits_most}
use Rattle.lexicon.specs.Parts.{SomeNumeral, Start, SmallPower, exponent}
use Rattle.lexicon.proofs.Numbers.{clear, numeral, numeral_at, number_same, valued, to_nonsigned, to_base}
use Rattle.lexicon.proofs.Integers.{of_integer, to_integer, decimal_blank}
use Rattle.lexicon.proofs.Fractions.{Significand, pointed, divided, Symbol, of_spaced, to_spaced, symbol_ahead, symbol_from, stops, some, ends_same, ahead_most, of_significand, to_significand, significand_start, align_point, align_ratio, behind_symbol, significand_cut, point_apart, slash_apart, star_apart, point_slash}
use Rattle.lexicon.proofs.Powers.{Found, no_caret, no_exponent, whole_exponent, no_star, no_radix, no_power, whole_power, radix_is, small_power, power_ahead}
use Rattle.number.proofs.Marks.{DigitRow}
use Rattle.number.specs.Number.{IsNumber, NoNumber}
use Rattle.lexicon.specs.Bad.{BadFraction}
use Rattle.number.specs.Fraction.{PointDigits, NoDigits, Pointed, Denominator, NoDenominator, Divided, ZeroRatio}
use Rattle.number.proofs.Integers.{some_number}

module _ (text : List ℕ) where
  -- ---- a symbol behind dividing space

  abbrev Byte : ℕ → ℕ → Type 0
  Byte b m = Takes text (one (just b)) m (m + 1)

  pub found : (b : ℕ) {i m p : ℕ} {o : Bool} → Skips text i m → Says o (Byte b m) → o ≡ true → Skips text (m + 1) p → Found text b i p
  found b s t e r = record { place = _; skipped = s; stands = there t e; behind = r }

  not_ahead : (b : ℕ) {i m : ℕ} → Skips text i m → (At text (just b) m → ⊥) → Ahead text (just b) i → ⊥
  not_ahead b s n a = n (move_at text (just b) (skips_same a.skipped s) a.stands)

  -- ---- the exponent

  pub exponent_answer : {i q : ℕ} → Found text 0x5E i q → (r : Option ℕ) → Finds text integer q r → Finds text exponent i r
  exponent_answer f (Some j) l = whole_exponent text f l
  exponent_answer f None h = no_exponent text f h

  pub exponent_none : {i m : ℕ} {o : Bool} → Skips text i m → Says o (Byte 0x5E m) → o ≡ false → Fails text exponent i
  exponent_none s t e = no_caret text (not_ahead 0x5E s (not_there t e))

  -- ---- the power

  pub power_none : {i m : ℕ} {o : Bool} → Skips text i m → Says o (Byte 0x2A m) → o ≡ false → Fails text power i
  power_none s t e = no_star text (not_ahead 0x2A s (not_there t e))

  pub power_no_radix : {i p : ℕ} → Found text 0x2A i p → NoNumber text p → Fails text power i
  power_no_radix f n = no_radix text f (λ k m. n.none m)

  pub power_no_exponent : {b : Base} {i p e v : ℕ} → Found text 0x2A i p → IsNumber text b p e v → Fails text exponent e → Fails text power i
  power_no_exponent f n h = no_power text f (some_number text n) (λ k m. n.most m) h

  pub power_whole : {b : Base} {i p e v j : ℕ} → Found text 0x2A i p → IsNumber text b p e v → Longest text exponent e j → Longest text power i j × Says (ltb v 2) (SmallPower text i j)
  power_whole {b} {v = v} f n l = (
    whole_power text f (some_number text n) (λ k m. n.most m) l,
    record {
      true_holds = λ x. small_power text f (some_number text n) (λ k m. n.most m) l (omega (arith, ltb-true v 2 x, n.value_is));
      holds_true = λ w. lt-ltb v 2 (omega (arith, radix_is text f (some_number text n) (λ k m. n.most m) w, n.value_is));
    },
  )

  -- ---- the significand

  module _ {i g : ℕ} (st : Start text i g) where
    number_of : {j : ℕ} → Significand text g j → (e : ℕ) × SomeNumeral text g e × (Ahead text (just 0x2E) e ⊎ Ahead text (just 0x2F) e)
    number_of (pointed n s d) = (_, some text n, inl (symbol_ahead text s))
    number_of (divided n s m) = (_, n, inr (symbol_ahead text s))

    pub significand_no_number : NoNumber text g → Fails text significand i
    significand_no_number h = record { none = λ t. h.none (number_of (of_significand text st t)).1 }

    -- the number before a slash
    slash_of : {k : ℕ} → Takes text (integer then spaced "/") i k → (e : ℕ) × SomeNumeral text g e × Symbol text 0x2F e k
    slash_of (both t u) = (_, of_integer text st t, of_spaced text 0x2F slash_apart u)

    module _ {b : Base} {e v : ℕ} (n : IsNumber text b g e v) where
      abbrev this : SomeNumeral text g e
      this = some_number text n

      pub significand_no_sign : {m : ℕ} → Skips text e m → (At text (just 0x2E) m → ⊥) → (At text (just 0x2F) m → ⊥) → Fails text significand i
      significand_no_sign s x y = record { none = λ t. go (number_of (of_significand text st t)) }
        where
          go : (f : ℕ) × SomeNumeral text g f × (Ahead text (just 0x2E) f ⊎ Ahead text (just 0x2F) f) → ⊥
          go (k, w, inl a) =
              not_ahead 0x2E s x (subst (Ahead text (just 0x2E)) (le_antisymm (n.most w) (ahead_most text 0x2E point_apart w a this)) a)
          go (k, w, inr a) =
              not_ahead 0x2F s y (subst (Ahead text (just 0x2F)) (le_antisymm (n.most w) (ahead_most text 0x2F slash_apart w a this)) a)

      -- behind a point
      module _ {m : ℕ} (s : Skips text e m) (x : At text (just 0x2E) m) where
        pub point_none : NoDigits text b (m + 1) → Fails text significand i
        point_none d =
            record { none = λ t. d.none.none (digits_unit (align_point text n.is s x d.skipped (of_significand text st t)).1).1 }

        no_zero : {j : ℕ} → ZeroRatio text i j → ⊥
        no_zero z =
            let w = slash_of z.before in
            let a : Ahead text (just 0x2E) e = record { place = m; skipped = s; stands = x } in
            let h : w.0 ≡ e = ends_same text 0x2E 0x2F point_apart slash_apart this a w.1 (symbol_ahead text w.2) in
            ahead_apart (just 0x2E) (just 0x2F) point_slash a (symbol_ahead text (symbol_from text h w.2))

        pub point_whole : {j : ℕ} → PointDigits text b (m + 1) j → Longest text significand i j × Says false (ZeroRatio text i j)
        point_whole d = (
          record {
            takes = to_significand text st (pointed n.is (record { place = m; skipped = s; stands = x; rest = d.skipped.takes }) d.row.row.digits_are);
            most = λ t. digits_most text 0 (digits b) (clear b) d.row.row.digits_are d.row.ended (align_point text n.is s x d.skipped (of_significand text st t)).1;
          },
          says_no no_zero,
        )

      -- behind a slash
      module _ {m : ℕ} (s : Skips text e m) (x : At text (just 0x2F) m) where
        pub ratio_none : NoDenominator text (m + 1) → Fails text significand i
        ratio_none d = record { none = λ t. d.none.none (align_ratio text this s x d.skipped (of_significand text st t)) }

        pub ratio_whole : {j : ℕ} {z : Bool} → Denominator text (m + 1) j z → Longest text significand i j × Says z (ZeroRatio text i j)
        ratio_whole {j} {z} d = (
          record { takes = to_significand text st (divided this slash (some_number text d.number)); most = λ t. d.number.most (align_ratio text this s x d.skipped (of_significand text st t)) },
          record { true_holds = λ y. zero_ratio (zero_of y); holds_true = λ w. d.zero_is ∙ eq-eqb d.value 0 (omega (arith, d.number.value_is, denominator_is w)) },
        )
          where
            slash : Symbol text 0x2F e d.from
            slash = record { place = m; skipped = s; stands = x; rest = d.skipped.takes }

            zero_of : z ≡ true → value (radix d.base) d.number.bytes ≡ 0
            zero_of y = omega (arith, eqb-true d.value 0 (sym d.zero_is ∙ y), d.number.value_is)

            zero_ratio : value (radix d.base) d.number.bytes ≡ 0 → ZeroRatio text i j
            zero_ratio y =
                record { start = d.from; before = both (to_integer text st this) (to_spaced text 0x2F slash); zero = (d.base, subst (OfBase text d.base d.from j) y (valued text d.number.is)) }

            denominator_is : ZeroRatio text i j → 0 ≡ value (radix d.base) d.number.bytes
            denominator_is w =
                let u = slash_of w.before in
                let a : Ahead text (just 0x2F) e = record { place = m; skipped = s; stands = x } in
                let h : u.0 ≡ e = ends_same text 0x2F 0x2F slash_apart slash_apart this a u.1 (symbol_ahead text u.2) in
                let k : w.start ≡ d.from = behind_symbol text decimal decimal_blank s d.skipped (symbol_from text h u.2) (numeral_at text (numeral text w.zero.1)) in
                number_same text d.number.is (subst (λ (y : ℕ). Number text y j 0) k w.zero)

  -- ---- the whole

  -- a power stands behind the longest significand alone
  power_end : {i j e k : ℕ} → Longest text significand i e → Takes text significand i j → Takes text power j k → j ≡ e
  power_end {i} {j} {e} l t p = le_antisymm (l.most t) (go (dec_le e j) (significand_start text t))
    where
      go : Dec (e ≤ j) → (g : ℕ) × Start text i g → e ≤ j
      go (yes h) st = h
      go (no h) st =
          absurd (stops text 0x2A star_apart (power_ahead text p) (significand_cut text (of_significand text st.1 t) (of_significand text st.1 l.takes) (omega (arith, h))))

  ratio_takes : {i j : ℕ} → ZeroRatio text i j → Takes text significand i j
  ratio_takes {i} z = go z.before z.zero
    where
      go : {k j : ℕ} → Takes text (integer then spaced "/") i k → Number text k j 0 → Takes text significand i j
      go (both t u) n = right (both t (both u (to_nonsigned text n.0 (to_base text (numeral text n.1)))))

  small_takes : {i j : ℕ} → SmallPower text i j → Takes text power i j
  small_takes p = both p.before (both (to_nonsigned text p.number.0 (to_base text (numeral text p.number.1))) p.behind)

  -- the two ways to be bad, by the significand's end
  pub data Worse (i k : ℕ) : Type 0 where
    zero_below : {j : ℕ} → ZeroRatio text i j → Takes text (opt power) j k → Worse i k
    small_radix_lem : {j : ℕ} → Takes text significand i j → SmallPower text j k → Worse i k

  of_bad : {i k : ℕ} → BadFraction text i k → Worse i k
  of_bad (inl z) = zero_below (record { start = z.start; before = z.before; zero = z.zero }) z.behind
  of_bad {i} {k} (inr r) = go r.before
    where
      go : Takes text (significand then spaced "*") i r.start → Worse i k
      go (both t s) = small_radix_lem t (record { start = r.start; end = r.end; before = s; number_is = r.radix; number = r.number; small = r.small; behind = r.behind })

  bad_zero : {i j k : ℕ} → ZeroRatio text i j → Takes text (opt power) j k → BadFraction text i k
  bad_zero {j = j} z p = inl (record { start = z.start; end = j; before = z.before; zero = z.zero; behind = p })

  bad_radix : {i j k : ℕ} → Takes text significand i j → SmallPower text j k → BadFraction text i k
  bad_radix t p = inr (record { start = p.start; end = p.end; before = both t p.before; radix = p.number_is; number = p.number; small = p.small; behind = p.behind })

  zero_at : {i j k : ℕ} → j ≡ k → ZeroRatio text i j → ZeroRatio text i k
  zero_at {i} e z = subst (ZeroRatio text i) e z

  module _ {i e : ℕ} {z : Bool} (l : Longest text significand i e) (s : Says z (ZeroRatio text i e)) where
    pub fraction_no_power : Fails text power e → Longest text fraction i e × Says z (BadFraction text i e)
    fraction_no_power f = (
      record { takes = both l.takes (right (nothing refl)); most = most },
      record { true_holds = λ x. bad_zero (s.true_holds x) (right (nothing refl)); holds_true = λ b. go (of_bad b) },
    )
      where
        most : {k : ℕ} → Takes text fraction i k → k ≤ e
        most (both t (left p)) = absurd (f.none (starting (power_end l t p) p))
        most (both t (right (nothing q))) = subst (λ (x : ℕ). x ≤ e) q (l.most t)

        go : Worse i e → z ≡ true
        go (zero_below r (left p)) = absurd (f.none (starting (power_end l (ratio_takes r) p) p))
        go (zero_below r (right (nothing q))) = s.holds_true (zero_at q r)
        go (small_radix_lem t p) = absurd (f.none (starting (power_end l t (small_takes p)) (small_takes p)))

    pub fraction_power : {k : ℕ} {q : Bool} → Longest text power e k → Says q (SmallPower text e k) → Longest text fraction i k × Says (z || q) (BadFraction text i k)
    fraction_power {k} {q} p t = (
      record { takes = both l.takes (left p.takes); most = most },
      record {
        true_holds = λ x. ⊎_elim (λ y. bad_zero (s.true_holds y) (left p.takes)) (λ y. bad_radix l.takes (t.true_holds y)) (or_cases z q x);
        holds_true = λ b. go (of_bad b);
      },
    )
      where
        most : {n : ℕ} → Takes text fraction i n → n ≤ k
        most (both u (left v)) = p.most (starting (power_end l u v) v)
        most (both u (right (nothing x))) = let a = l.most u in let b = forward p.takes in omega arith

        ends : {j : ℕ} → Takes text significand i j → j ≡ k → j ≡ e
        ends u x = let a = l.most u in let b = forward p.takes in omega arith

        go : Worse i k → (z || q) ≡ true
        go (zero_below r (left v)) = or_left z q (s.holds_true (zero_at (power_end l (ratio_takes r) v) r))
        go (zero_below r (right (nothing x))) = or_left z q (s.holds_true (zero_at (ends (ratio_takes r) x) r))
        go (small_radix_lem {j} u v) = or_right z q (t.holds_true (subst (λ (y : ℕ). SmallPower text y k) (power_end l u (small_takes v)) v))

  pub fraction_none : {i : ℕ} → Fails text significand i → Fails text fraction i
  fraction_none f = fails_first f

  -- ---- what the searches answered

  pub digits_missing : {b : Base} {i p : ℕ} → Skips text i p → Fails text (unit 1 (digits b)) p → NoDigits text b i
  digits_missing {p = p} s f = record { from = p; skipped = s; none = f }

  pub digits_found : {b : Base} {i p j v : ℕ} → Skips text i p → DigitRow text b p j v → PointDigits text b i j
  digits_found {p = p} {v = v} s r = record { from = p; skipped = s; sum = v; row = r }

  pub point_answer : {b : Base} {i g e v m : ℕ} → Start text i g → IsNumber text b g e v → Skips text e m → At text (just 0x2E) m → (r : Option Literal) → Pointed text b (m + 1) r → Judges text significand (ZeroRatio text) i r
  point_answer {i = i} st n s x (Some l) d =
      let w = point_whole st n s x d.1 in (w.0, subst⁻¹ (λ (q : Bool). Says q (ZeroRatio text i l.end)) d.0 w.1)
  point_answer st n s x None d = point_none st n s x d

  pub ratio_answer : {b : Base} {i g e v m : ℕ} → Start text i g → IsNumber text b g e v → Skips text e m → At text (just 0x2F) m → (r : Option Literal) → Divided text (m + 1) r → Judges text significand (ZeroRatio text) i r
  ratio_answer st n s x (Some l) d = ratio_whole st n s x d
  ratio_answer st n s x None d = ratio_none st n s x d

  -- a sign that `get` lent
  pub sign_is : (b : ℕ) {c m : ℕ} → (m < length text) × (c ≡ get_or text m 0) → c ≡ b → At text (just b) m
  sign_is b g e = (g.0, is_just b _ (sym g.1 ∙ e))

  pub sign_is_not : (b : ℕ) {c m : ℕ} → c ≡ get_or text m 0 → (c ≡ b → ⊥) → At text (just b) m → ⊥
  sign_is_not b e n a = n (e ∙ just_is b _ a.1)
