-- The first byte of a Text tells whether it is quoted, a word or a code point: a literal is bad in its own way only, and at one place. Assumes nothing.
use mathlib.Core.Path.{◌≡◌, refl, sym, ◌∙◌}
use mathlib.Core.Logic.{inl, inr}
use mathlib.Core.Bool.{true}
use mathlib.Core.List.{List}
use Prim.Native.Nat.{ℕ}
use Rattle.rules.specs.Class.{Class, just}
use Rattle.rules.specs.Rule.{lit, At, Takes, byte, both}
use Rattle.rules.proofs.Classes.{apart, apart_span, includes, in_some}
use Rattle.rules.proofs.Ways.{never, never_takes, opens, opens_at}
use Rattle.lexicon.specs.Literals.{segment, quoted, word, code_point_of, code_of_base}
use Rattle.lexicon.specs.Values.{CodeOf}
use Rattle.lexicon.specs.Bad.{BadCode, BadQuoted, FirstBad, in_first, in_further}
use Rattle.lexicon.proofs.Bases.{any_base_lem}
use Rattle.lexicon.proofs.Places.{one_first_bad}
use Rattle.values.specs.QuotedBytes.{quote}
use Rattle.values.specs.Text.{BadText}

abbrev pub zero : Class
zero = just 0x30

quote_word : never quote word ≡ true
unfolding never apart apart_span
quote_word = refl

quote_code : never quote code_point_of ≡ true
unfolding never apart apart_span
quote_code = refl

zero_word : never zero word ≡ true
unfolding never apart apart_span
zero_word = refl

pub zero_code : opens zero code_point_of ≡ true
unfolding opens includes in_some
zero_code = refl

module _ (piece : List ℕ) where
  segment_first : {i j : ℕ} → Takes piece segment i j → At piece quote i
  segment_first (both (byte a e) t) = a

  pub quoted_first : {i j : ℕ} → Takes piece quoted i j → At piece quote i
  quoted_first (both t u) = segment_first t

  bad_first : {i j : ℕ} → BadQuoted piece i j → At piece quote i
  bad_first (in_first b t) = go b.before
    where
      go : {i j : ℕ} → Takes piece (lit "\"\\") i j → At piece quote i
      go (both (byte a e) t) = a
  bad_first (in_further t a) = segment_first t

  pub no_word : {i j k : ℕ} → Takes piece quoted i k → Takes piece word i j → ⊥
  no_word q t = never_takes piece quote word quote_word (quoted_first q) t

  pub no_code : {i j k : ℕ} → Takes piece quoted i k → Takes piece code_point_of i j → ⊥
  no_code q t = never_takes piece quote code_point_of quote_code (quoted_first q) t

  pub word_code : {i j k : ℕ} → Takes piece word i j → Takes piece code_point_of i k → ⊥
  word_code t u = never_takes piece zero word zero_word (opens_at piece zero code_point_of zero_code u) t

  pub code_takes : {i j v : ℕ} → CodeOf piece i j v → Takes piece code_point_of i j
  code_takes c = any_base_lem code_of_base c.base (both c.before c.all_digits)

  -- ---- a literal is bad in its own way only

  pub quoted_bad : {i j p : ℕ} → Takes piece quoted i j → BadText piece i j p → FirstBad piece i j p
  quoted_bad t (inl b) = b
  quoted_bad t (inr b) = absurd (no_code t (code_takes b.1.code))

  pub code_bad : {i j p : ℕ} → Takes piece code_point_of i j → BadText piece i j p → (p ≡ i) × BadCode piece i j
  code_bad t (inl b) = absurd (never_takes piece quote code_point_of quote_code (bad_first b.bad) t)
  code_bad t (inr b) = b

  pub word_good : {i j : ℕ} → Takes piece word i j → (p : ℕ) → BadText piece i j p → ⊥
  word_good t p (inl b) = never_takes piece quote word quote_word (bad_first b.bad) t
  word_good t p (inr b) = word_code t (code_takes b.1.code)

  pub quoted_good : {i j : ℕ} → Takes piece quoted i j → (BadQuoted piece i j → ⊥) → (p : ℕ) → BadText piece i j p → ⊥
  quoted_good t n p b = n (quoted_bad t b).bad

  pub code_good : {i j : ℕ} → Takes piece code_point_of i j → (BadCode piece i j → ⊥) → (p : ℕ) → BadText piece i j p → ⊥
  code_good t n p b = n (code_bad t b).1

  -- ---- and at one place

  bad_apart : {i j k : ℕ} → BadQuoted piece i j → BadCode piece i k → ⊥
  bad_apart b c = never_takes piece quote code_point_of quote_code (bad_first b) (code_takes c.code)

  pub one_bad_place : {i j p q : ℕ} → BadText piece i j p → BadText piece i j q → p ≡ q
  one_bad_place (inl b) (inl c) = one_first_bad piece b c
  one_bad_place (inl b) (inr c) = absurd (bad_apart b.bad c.1)
  one_bad_place (inr b) (inl c) = absurd (bad_apart c.bad b.1)
  one_bad_place (inr b) (inr c) = b.0 ∙ sym c.0
