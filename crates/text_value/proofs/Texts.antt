-- A piece that is a Text: which one, its characters as they are written, and the answer. Assumes nothing.
use mathlib.Core.Path.{◌≡◌, refl, sym, ap, subst, ◌∙◌}
use mathlib.Core.Logic.{inl, inr}
use mathlib.Core.Bool.{Bool, true}
use mathlib.Core.List.{List, ◌++◌}
use Prim.Native.Nat.{ℕ, ◌≤◌, ◌<◌, min}
use native.Mathlib.Omega.{arith}
use lib.ListN.{length}
use Rattle.rules.specs.Test.{Says}
use Rattle.rules.specs.Rule.{Rule, Takes, left, right, Longest, Fails}
use Rattle.lexicon.specs.Limited.{limit}
use Rattle.lexicon.proofs.Answers.{shorter}
use Rattle.lexicon.specs.Literals.{quoted, word, code_point_of}
use Rattle.lexicon.specs.Utf8.{WellFormed}
use Rattle.lexicon.specs.Values.{quotes, bare, coded}
use Rattle.lexicon.specs.Bad.{Scalar}
use Rattle.reading.specs.Answers.{answer}
use Rattle.reading.specs.declared.Rules.{Rules}
use Rattle.text_value.specs.declared.value.Shape as Shape
use Rattle.text_value.specs.declared.value.Shape.{Shape}
use Rattle.values.specs.Exactly.{Exactly}
use Rattle.values.specs.Bytes.{no_room, accepted}
use Rattle.values.specs.Text.{text_literal, BadText, TextBytes, TextAnswers}
use Rattle.lexicon.specs.Encode.{encode, encoded}
use Rattle.text_value.specs.Parts.{CodeIs, HasQuoted, WroteQuoted}
use Rattle.text_value.specs.Shapes.{Shaped, AppendsText, WroteText}
use Rattle.values.proofs.Shapes.{no_word, no_code, word_code, quoted_good, word_good, code_good}
use Rattle.values.proofs.Spelled.{quoted_same}
use Rattle.values.proofs.Characters.{quoted_bytes_lem, word_same}
use Rattle.values.proofs.Values.{code_of, quoted_of}
use Rattle.values.proofs.Texts.{quoted_known, code_known, text_same, text_short}
use Rattle.buffer.specs.declared.Writer.{Writer}
use Rattle.buffer.specs.Puts.{largest, Puts}
use Rattle.buffer.specs.Appends.{Appends}
use Rattle.buffer.proofs.Puts.{puts_ends, puts_start, puts_empty}
use Rattle.buffer.proofs.Appending.{appends_same}
use Rattle.text_value.proofs.Copies.{whole_read}
use Rattle.text_value.proofs.Walks.{append_none}

-- a number up to the limit, of a scalar value
scalar_limit : {v : ℕ} → Scalar v → (min limit v ≡ v) × (v < 0x110000)
scalar_limit (inl h) = (omega arith, omega arith)
scalar_limit (inr h) = (omega arith, omega arith)

module _ (piece : List ℕ) where
  -- ---- which Text the piece is exactly

  pub quoted_other : {e : ℕ} → Longest piece quoted 0 e → (e ≡ length piece → ⊥) → Exactly text_literal piece → ⊥
  quoted_other l n (left t) = shorter l n t
  quoted_other l n (right (left t)) = no_word piece l.takes t
  quoted_other l n (right (right t)) = no_code piece l.takes t

  pub word_other : {e : ℕ} → Fails piece quoted 0 → Longest piece word 0 e → (e ≡ length piece → ⊥) → Exactly text_literal piece → ⊥
  word_other f l n (left t) = f.none t
  word_other f l n (right (left t)) = shorter l n t
  word_other f l n (right (right t)) = word_code piece l.takes t

  pub code_other : Fails piece quoted 0 → Fails piece word 0 → (Takes piece code_point_of 0 (length piece) → ⊥) → Exactly text_literal piece → ⊥
  code_other f g n (left t) = f.none t
  code_other f g n (right (left t)) = g.none t
  code_other f g n (right (right t)) = n t

  module _ {r : Rule} (P : ℕ → ℕ → Type 0) {e : ℕ} {b : Bool} (y : Longest piece r 0 e × Says b (P 0 e)) (h : e ≡ length piece) where
    pub whole_bad : b ≡ true → P 0 (length piece)
    whole_bad t = subst (λ (x : ℕ). P 0 x) h (y.1.true_holds t)

  pub shaped_as : {s u : Shape} → s ≡ u → Shaped piece s → Shaped piece u
  shaped_as e x = subst (λ (y : Shape). Shaped piece y) e x

  shaped_exact : (s : Shape) → Shaped piece s → Exactly text_literal piece
  shaped_exact Shape.TheVariants.Quoted x = left x.0
  shaped_exact Shape.TheVariants.Word x = right (left x)
  shaped_exact Shape.TheVariants.CodePoint x = right (right x.0)

  shaped_good : (s : Shape) → Shaped piece s → (p : ℕ) → BadText piece 0 (length piece) p → ⊥
  shaped_good Shape.TheVariants.Quoted x = quoted_good piece x.0 x.1
  shaped_good Shape.TheVariants.Word x = word_good piece x
  shaped_good Shape.TheVariants.CodePoint x = code_good piece x.0 x.1

  -- ---- its characters

  module _ (x : Shaped piece Shape.TheVariants.Quoted) where
    pub has_quoted : HasQuoted piece
    has_quoted =
        let q = quoted_of piece x.0 in
        record { bytes = encoded q.0; is = quoted_bytes_lem piece q.1 (quoted_known piece q.1 x.1) refl }

    pub wrote_quoted : {u v : Writer} → WroteQuoted piece u v → AppendsText piece u v
    unfolding has_quoted
    wrote_quoted w =
        let q = quoted_of piece x.0 in
        record { characters = q.0; is = quotes q.1; appends = appends_same (quoted_same piece w.is has_quoted.is refl) w.appends }

  pub wrote_word : Shaped piece Shape.TheVariants.Word → {u v : Writer} → Appends u piece v → AppendsText piece u v
  wrote_word x a = record { characters = _; is = bare x; appends = appends_same (whole_read piece ∙ sym (word_same piece x).0) a }

  module _ (x : Shaped piece Shape.TheVariants.CodePoint) {r : ℕ} (c : CodeIs piece 0 (length piece) r) where
    code_value : (r ≡ (code_of piece x.0).0) × (r < 0x110000)
    code_value =
        let v = code_of piece x.0 in
        let s = scalar_limit (code_known piece v.1 x.1) in
        let e = c.is v.0 v.1 in
        (e ∙ s.0, omega (arith, e, s.0, s.1))

    pub code_fits : r < 0x110000
    code_fits = code_value.1

    pub wrote_code : {u v : Writer} → Appends u (encode r) v → AppendsText piece u v
    wrote_code a =
        let v = code_of piece x.0 in
        record { characters = _; is = coded v.1; appends = appends_same (ap encode code_value.0 ∙ sym (append_none (encode v.0))) a }

  -- ---- the answer

  text_bytes : {t t' : List ℕ} {n : ℕ} (w : WroteText piece t t' n) → TextBytes piece 0 (length piece) (encoded w.characters)
  text_bytes w = record { characters = w.characters; are = w.is; bytes_are = refl }

  module _ (shape : Shape) (shaped : Shaped piece shape) where
    exact : Exactly text_literal piece
    exact = shaped_exact shape shaped

    good : (p : ℕ) → BadText piece 0 (length piece) p → ⊥
    good = shaped_good shape shaped

    module _ (rules : Rules) (h : length piece ≤ rules.text) (fit : length piece ≤ largest) (formed : WellFormed piece) (lent : List ℕ) where
      -- the bytes are counted exactly, for they are no more than the piece has
      counted : {t t' : List ℕ} {n : ℕ} (w : WroteText piece t t' n) → n ≡ length (encoded w.characters)
      counted w = let s = text_short piece good w.is in omega (arith, puts_ends w.puts (omega (arith, s)))

      module _ {t t' : List ℕ} {m : ℕ} (v : WroteText piece t t' m) (z : length t ≡ 0) where
        pub too_small : length (t' ++ lent) < m → TextAnswers rules piece lent (answer 8 (length piece) m) (t' ++ lent)
        too_small l =
            let k = puts_empty v.puts z lent in
            let e = sym (counted v) in
            subst (λ (x : List ℕ). TextAnswers rules piece lent (answer 8 (length piece) m) x) (sym k)
            (subst (λ (n : ℕ). TextAnswers rules piece lent (answer 8 (length piece) n) lent) e
            (no_room h formed exact good (text_bytes v) (omega (arith, e, l, ap length k))))

        pub fits : {u : List ℕ} {n : ℕ} → m ≤ length (t' ++ lent) → WroteText piece (t' ++ lent) u n →
            TextAnswers rules piece lent (answer 0 (length piece) n) u
        fits {u} {n} l w =
            let k = puts_empty v.puts z lent in
            let b = encoded w.characters in
            let e = sym (counted w) in
            let g : length b ≤ length lent = omega (arith, counted v, l, ap length (text_same piece good v.is w.is), ap length k) in
            let p : Puts lent 0 b u n = subst (λ (x : List ℕ). Puts x 0 b u n) k w.puts in
            subst (λ (j : ℕ). TextAnswers rules piece lent (answer 0 (length piece) j) u) e
            (subst (λ (x : List ℕ). TextAnswers rules piece lent (answer 0 (length piece) (length b)) x) (sym (puts_start p g))
            (accepted h formed exact good (text_bytes w) g))
