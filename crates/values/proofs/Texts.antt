-- The characters of a Text: it has some, and if it is not bad they are scalar values, determined once they are written as UTF-8, and that is
-- well formed and no more bytes than the literal. So the Text call has exactly one answer. Assumes nothing.
use mathlib.Core.Path.{◌≡◌, refl, sym, ap, subst, ◌∙◌}
use mathlib.Core.Logic.{◌⊎◌, inl, inr, ⊎_elim}
use mathlib.Core.List.{List, [], ◌++◌}
use Prim.Native.Nat.{ℕ, ◌-◌, ◌≤◌}
use native.Mathlib.Omega.{arith}
use lib.ListN.{length, take, length-append}
use Rattle.rules.specs.Rule.{left, right}
use Rattle.lexicon.specs.Utf8.{WellFormed}
use Rattle.lexicon.specs.Encode.{encode, encoded}
use Rattle.lexicon.specs.Values.{CodeOf, Quoted, TextOf, quotes, bare, coded}
use Rattle.lexicon.specs.Bad.{Scalar, BadCode, BadQuoted}
use Rattle.lexicon.proofs.Groups.{read_length}
use Rattle.decisions.proofs.Tests.{either, settled}
use Rattle.decisions.proofs.Codes.{bad_code_lem}
use Rattle.decisions.proofs.Quoted.{bad_quoted_lem}
use Rattle.decisions.proofs.First.{first_bad_lem}
use Rattle.reading.specs.declared.Answer.{Answer}
use Rattle.reading.specs.declared.Rules.{Rules}
use Rattle.values.specs.Exactly.{Exactly}
use Rattle.values.specs.Text.{text_literal, text_call, BadText, TextAnswers}
use Rattle.values.proofs.Shapes.{no_word, no_code, word_code, code_takes, one_bad_place}
use Rattle.values.proofs.Spelled.{code_same, quoted_same, code_short, quoted_short}
use Rattle.values.proofs.Characters.{Scalars, quoted_bytes_lem, word_same}
use Rattle.values.proofs.Values.{scalar_or, code_of, quoted_of, quoted_takes, quoted_scalars}
use Rattle.values.proofs.Formed.{encoded_formed}
use Rattle.values.proofs.BytesDetermined.{Good, Settled, accepted_bytes}
use Rattle.values.proofs.Fits.{Bounded}

module _ (piece : List ℕ) where
  pub quoted_known : {cs : List ℕ} → Quoted piece 0 (length piece) cs → (BadQuoted piece 0 (length piece) → ⊥) → Scalars cs
  quoted_known q n = ⊎_elim (λ s. s) (λ b. absurd (n b)) (quoted_scalars piece q)

  pub code_known : {v : ℕ} → CodeOf piece 0 (length piece) v → (BadCode piece 0 (length piece) → ⊥) → Scalar v
  code_known {v} c n = ⊎_elim (λ s. s) (λ b. absurd (n (record { number = v; code = c; bad = b }))) (scalar_or v)

  module _ (good : (p : ℕ) → BadText piece 0 (length piece) p → ⊥) where
    pub text_scalars : {cs : List ℕ} → TextOf piece 0 (length piece) cs → Scalars cs
    text_scalars (quotes q) = quoted_known q (λ b. good _ (inl (first_bad_lem piece b)))
    text_scalars (bare t) = (word_same piece t).1
    text_scalars (coded c) = (code_known c (λ b. good 0 (inr (refl, b))), tt)

    -- the bytes of an accepted Text are well formed
    pub text_formed : {cs : List ℕ} → TextOf piece 0 (length piece) cs → WellFormed (encoded cs)
    text_formed {cs} t = encoded_formed cs (text_scalars t)

    -- and there is one row of them
    pub text_same : {cs ds : List ℕ} → TextOf piece 0 (length piece) cs → TextOf piece 0 (length piece) ds → encoded cs ≡ encoded ds
    text_same (quotes q) (quotes r) =
        quoted_same piece (quoted_bytes_lem piece q (text_scalars (quotes q)) refl) (quoted_bytes_lem piece r (text_scalars (quotes r)) refl) refl
    text_same (quotes q) (bare t) = absurd (no_word piece (quoted_takes piece q) t)
    text_same (quotes q) (coded c) = absurd (no_code piece (quoted_takes piece q) (code_takes piece c))
    text_same (bare t) (quotes q) = absurd (no_word piece (quoted_takes piece q) t)
    text_same (bare t) (bare u) = refl
    text_same (bare t) (coded c) = absurd (word_code piece t (code_takes piece c))
    text_same (coded c) (quotes q) = absurd (no_code piece (quoted_takes piece q) (code_takes piece c))
    text_same (coded c) (bare t) = absurd (word_code piece t (code_takes piece c))
    text_same (coded c) (coded d) = ap (λ (v : ℕ). encode v ++ []) (code_same piece c d)

    pub text_short : {cs : List ℕ} → TextOf piece 0 (length piece) cs → length (encoded cs) ≤ length piece
    text_short (quotes q) = omega (arith, quoted_short piece (quoted_bytes_lem piece q (text_scalars (quotes q)) refl))
    text_short (bare t) = omega (arith, ap length (word_same piece t).0, read_length piece 0 (length piece - 0))
    text_short (coded {v = v} c) = omega (arith, code_short piece c, length-append (encode v) [])

  -- ---- the call

  has_text : Exactly text_literal piece → (cs : List ℕ) × TextOf piece 0 (length piece) cs
  has_text (left t) = let x = quoted_of piece t in (x.0, quotes x.1)
  has_text (right (left t)) = (_, bare t)
  has_text (right (right t)) = let x = code_of piece t in (_, coded x.1)

  abbrev Bad : Type 0
  Bad = BadQuoted piece 0 (length piece) ⊎ BadCode piece 0 (length piece)

  bad_somewhere : Bad → (p : ℕ) × BadText piece 0 (length piece) p
  bad_somewhere (inl b) = (_, inl (first_bad_lem piece b))
  bad_somewhere (inr b) = (0, inr (refl, b))

  bad_at_lem : (p : ℕ) → BadText piece 0 (length piece) p → Bad
  bad_at_lem p (inl b) = inl b.bad
  bad_at_lem p (inr b) = inr b.1

  bad_or_not : Bad ⊎ (Bad → ⊥)
  bad_or_not = settled (either (bad_quoted_lem piece 0 (length piece)) (bad_code_lem piece 0 (length piece)))

  bad_or_good : Exactly text_literal piece → ((p : ℕ) × BadText piece 0 (length piece) p) ⊎ Good text_call piece
  bad_or_good x =
      let t = has_text x in
      ⊎_elim (λ b. inl (bad_somewhere b))
      (λ n.
      inr
      (record {
        not_bad = λ p b. n (bad_at_lem p b);
        bytes = encoded t.0;
        are = record { characters = t.0; are = t.1; bytes_are = refl };
      }))
      bad_or_not

pub text_settled : Settled text_call
text_settled =
    record {
      one_place = λ piece b c. one_bad_place piece b c;
      determined = λ piece n x y. x.bytes_are ∙ text_same piece n x.are y.are ∙ sym y.bytes_are;
      bad_or_good = bad_or_good;
    }

-- a buffer as long as the piece is enough
pub text_bounded : Bounded text_call 1
text_bounded = record { at_most = λ piece n x. omega (arith, ap length x.bytes_are, text_short piece n x.are) }

-- an accepted Text is well-formed UTF-8
pub accepted_formed : (rules : Rules) (piece lent : List ℕ) {a : Answer} {t : List ℕ} → TextAnswers rules piece lent a t → a.number ≡ 0 →
    WellFormed (take a.count t)
accepted_formed rules piece lent x e =
    let h = accepted_bytes text_call rules piece lent x e in
    subst WellFormed (sym h.bytes.bytes_are) (text_formed piece h.good h.bytes.are)
