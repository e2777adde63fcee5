-- From the longest lexeme to the token, and where none starts. Assumes nothing.
use mathlib.Core.Path.{◌≡◌, refl}
use mathlib.Core.Logic.{◌⊎◌, inl, inr}
use mathlib.Core.Bool.{true, false, false≢true}
use mathlib.Core.List.{List, []}
use Prim.Native.Nat.{ℕ, ◌+◌, ◌<◌}
use native.Mathlib.Omega.{arith}
use Rattle.rules.specs.Class.{just, any_of}
use Rattle.rules.specs.Rule.{one, many, At, Takes, byte, stop, more, Longest, Fails}
use Rattle.rules.proofs.Tests.{says_no}
use Rattle.rules.proofs.Classes.{apart, apart_span}
use Rattle.rules.proofs.Chains.{longest}
use Rattle.rules.proofs.Ways.{never}
use Rattle.lexicon.specs.declared.Form.TheVariants.{Quoted, Word, HeadWord, CodePoint}
use Rattle.lexicon.specs.declared.Kind.{Kind}
use Rattle.lexicon.specs.declared.Kind.TheVariants.{Ignorance, Boolean, Integer, Fraction, Bits, Blob, Text, Later, Symbol, Colon, TwoColons}
use Rattle.lexicon.specs.Symbols.{Colons}
use Rattle.lexicon.specs.Token.{Lexeme, rule, Here, Told}
use Rattle.lexicon.proofs.Spaces.{byte_single}
use Rattle.lexicon.proofs.Tokens.{begins, begins_with}
use Rattle.token.specs.Answers.{NoneAt, TokenAt}

colons_begin : begins (any_of ":") [] ≡ true
unfolding never apart apart_span
colons_begin = refl

module _ (text : List ℕ) where
  -- ---- no token

  pub record NoLexeme (i : ℕ) : Type 0 where
    pub none : (l : Lexeme) {k : ℕ} → Takes text (rule l) i k → ⊥

  abbrev Shown : ℕ → ℕ → Type 0
  Shown i j = ((l : Lexeme) × Takes text (rule l) i j) ⊎ ((n : ℕ) × Colons text i (n + 1) × (n < 3))

  by_lexeme : (l : Lexeme) {i j : ℕ} → Here text l i j → Shown i j
  by_lexeme l h = inl (l, h.takes)

  -- a token is a match of a rule, or begins a run of colons
  shown : (k : Kind) {i j : ℕ} → Told text k i j → Shown i j
  shown Ignorance t = by_lexeme _ t
  shown (Boolean b) t = by_lexeme _ t
  shown (Integer s) t = by_lexeme _ t.0
  shown Fraction t = by_lexeme _ t
  shown Bits t = by_lexeme _ t
  shown Blob t = by_lexeme _ t
  shown (Text Quoted) t = by_lexeme _ t
  shown (Text Word) t = by_lexeme _ t.0
  shown (Text (HeadWord h)) t = by_lexeme _ t.0
  shown (Text CodePoint) t = by_lexeme _ t
  shown Later t = by_lexeme _ t
  shown (Symbol s) t = by_lexeme _ t
  shown Colon (e, inl c) = inr (0, c, omega arith)
  shown Colon (e, inr c) = inr (2, c, omega arith)
  shown TwoColons (e, c) = inr (1, c, omega arith)

  run_first : {i j : ℕ} → Takes text (many (one (any_of ":"))) i j → i < j → At text (any_of ":") i
  run_first (stop e) h = absurd (omega arith)
  run_first (more (byte a e) c) h = a

  pub nothing_starts : {i : ℕ} → NoLexeme i → (At text (just 0x3A) i → ⊥) → NoneAt text i
  nothing_starts {i} f g = record { none = λ k j t. go (shown k t.told) }
    where
      go : {j : ℕ} → Shown i j → ⊥
      go (inl (l, t)) = f.none l t
      go (inr (n, c, h)) = g (run_first c.takes (omega arith))

  -- ---- colons

  abbrev Run : ℕ → ℕ → Type 0
  Run i j = Takes text (many (one (any_of ":"))) i j

  no_colon_lem : {i : ℕ} → (At text (just 0x3A) i → ⊥) → Fails text (one (any_of ":")) i
  no_colon_lem {i} f = record { none = go }
    where
      go : {k : ℕ} → Takes text (one (any_of ":")) i k → ⊥
      go (byte a e) = f a

  ended : {i j : ℕ} → Run i j → (At text (just 0x3A) j → ⊥) → Longest text (many (one (any_of ":"))) i j
  ended c f = longest (byte_single (any_of ":")) c (no_colon_lem f)

  one_more_lem : {i j k : ℕ} → At text (just 0x3A) i → j ≡ i + 1 → Run j k → Run i k
  one_more_lem a e c = more (byte a e) c

  module _ (i : ℕ) (a : At text (just 0x3A) i) where
    pub one_colon : (At text (just 0x3A) (i + 1) → ⊥) → TokenAt text Colon i (i + 1) false
    one_colon f =
        record { is = record { told = (refl, inl (ended (one_more_lem a refl (stop refl)) f)) }; bad_is = says_no (λ x. x) }

    module _ (b : At text (just 0x3A) (i + 1)) where
      pub two_colons : (At text (just 0x3A) (i + 2) → ⊥) → TokenAt text TwoColons i (i + 2) false
      two_colons f =
          record { is = record { told = (refl, ended (one_more_lem a refl (one_more_lem b (omega arith) (stop refl))) f) }; bad_is = says_no (λ x. x) }

      module _ (c : At text (just 0x3A) (i + 2)) where
        three : Run i (i + 3)
        three = one_more_lem a refl (one_more_lem b (omega arith) (one_more_lem c (omega arith) (stop refl)))

        pub three_colons : (At text (just 0x3A) (i + 3) → ⊥) → TokenAt text Colon i (i + 1) false
        three_colons f = record { is = record { told = (refl, inr (ended three f)) }; bad_is = says_no (λ x. x) }

        pub more_colons : At text (just 0x3A) (i + 3) → NoneAt text i
        more_colons d = record { none = λ k j t. go (shown k t.told) }
          where
            four : Run i (i + 4)
            four = one_more_lem a refl (one_more_lem b (omega arith) (one_more_lem c (omega arith) (one_more_lem d (omega arith) (stop refl))))

            go : {j : ℕ} → Shown i j → ⊥
            go (inl (l, t)) = false≢true (begins_with text (any_of ":") [] l colons_begin a t)
            go (inr (n, r, h)) = let m = r.most four in omega arith
