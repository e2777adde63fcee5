-- The contract settles everything: an Integer literal has exactly one integer, and a piece exactly one answer. A piece that is
-- exactly one Integer literal is also what the token rules find in it. Assumes nothing.
use mathlib.Core.Path.{◌≡◌, refl, sym, ap, subst, ◌∙◌}
use mathlib.Core.Bool.{cond}
use mathlib.Core.List.{List}
use Prim.Native.Nat.{ℕ}
use native.Mathlib.Omega.{arith}
use lib.Dec.{eqb}
use lib.IntN.{ℤ, pos, neg_ℤ}
use lib.ListN.{length, get_or}
use Rattle.rules.specs.Rule.{Takes, both}
use Rattle.rules.proofs.Matches.{inside}
use Rattle.lexicon.specs.Bytes.{radix}
use Rattle.lexicon.specs.Literals.{integer}
use Rattle.lexicon.specs.Values.{Number, value, IntegerOf}
use Rattle.lexicon.specs.Token.{Here, an_integer}
use Rattle.lexicon.proofs.Determined.{formed_or_bad, one_bad}
use Rattle.lexicon.proofs.Integers.{start_same, start_of}
use Rattle.lexicon.proofs.Numbers.{numeral, numeral_at, number_same, of_nonsigned, to_nonsigned, to_base, valued}
use Rattle.reading.specs.declared.Rules.{Rules}
use Rattle.values.specs.declared.IntegerAnswer.{IntegerAnswer}
use Rattle.values.specs.Exactly.{Exactly}
use Rattle.values.specs.Integer.{Within, answer, refusal, IntegerAnswers, too_long, not_utf8, not_integer, outside, accepted}

-- ---- a literal's integer

module _ (text : List ℕ) {i j : ℕ} where
  pub one_integer : {y z : ℤ} → IntegerOf text i j y → IntegerOf text i j z → y ≡ z
  one_integer a b =
      let n = numeral text a.number.1 in
      let m = numeral text b.number.1 in
      let p : b.start ≡ a.start = start_same text (start_of text a.before (numeral_at text n)) b.before (numeral_at text m) in
      let q : b.size ≡ a.size =
      number_same text n (subst (λ (g : ℕ). Number text g j b.size) p b.number) ∙ sym (number_same text n a.number) in
      a.value_is ∙ ap (λ (v : ℕ). cond (eqb (get_or text i 0) 0x2D) (neg_ℤ (pos v)) (pos v)) (sym q) ∙ sym b.value_is

  pub has_integer : Takes text integer i j → (z : ℤ) × IntegerOf text i j z
  has_integer (both s t) =
      let n = of_nonsigned text t in
      (_, record { start = _; before = s; size = value (radix n.of) n.bytes; number = (n.of, valued text n.is); value_is = refl })

  pub is_integer : {z : ℤ} → IntegerOf text i j z → Takes text integer i j
  is_integer a = both a.before (to_nonsigned text a.number.0 (to_base text (numeral text a.number.1)))

-- ---- the token rules

pub exactly_token : (piece : List ℕ) → Exactly integer piece → Here piece an_integer 0 (length piece)
exactly_token piece t = record { takes = t; most = λ m u. inside u (omega arith) }

-- ---- the answer

module _ (rules : Rules) (piece : List ℕ) where
  pub one_answer : {a b : IntegerAnswer} → IntegerAnswers rules piece a → IntegerAnswers rules piece b → a ≡ b
  one_answer (too_long h) (too_long g) = refl
  one_answer (too_long h) (not_utf8 g b) = absurd (omega arith)
  one_answer (too_long h) (not_integer g w n) = absurd (omega arith)
  one_answer (too_long h) (outside g w x v o) = absurd (omega arith)
  one_answer (too_long h) (accepted g w x v o) = absurd (omega arith)
  one_answer (not_utf8 h a) (too_long g) = absurd (omega arith)
  one_answer (not_utf8 h a) (not_utf8 g b) = ap (refusal 3) (one_bad piece a b)
  one_answer (not_utf8 h a) (not_integer g w n) = absurd (formed_or_bad piece w a)
  one_answer (not_utf8 h a) (outside g w x v o) = absurd (formed_or_bad piece w a)
  one_answer (not_utf8 h a) (accepted g w x v o) = absurd (formed_or_bad piece w a)
  one_answer (not_integer h w n) (too_long g) = absurd (omega arith)
  one_answer (not_integer h w n) (not_utf8 g b) = absurd (formed_or_bad piece w b)
  one_answer (not_integer h w n) (not_integer g u m) = refl
  one_answer (not_integer h w n) (outside g u x v o) = absurd (n x)
  one_answer (not_integer h w n) (accepted g u x v o) = absurd (n x)
  one_answer (outside h w x v o) (too_long g) = absurd (omega arith)
  one_answer (outside h w x v o) (not_utf8 g b) = absurd (formed_or_bad piece w b)
  one_answer (outside h w x v o) (not_integer g u n) = absurd (n x)
  one_answer (outside h w x v o) (outside g u y a p) = refl
  one_answer (outside h w x v o) (accepted g u y a p) = absurd (o (subst Within (one_integer piece a v) p))
  one_answer (accepted h w x v o) (too_long g) = absurd (omega arith)
  one_answer (accepted h w x v o) (not_utf8 g b) = absurd (formed_or_bad piece w b)
  one_answer (accepted h w x v o) (not_integer g u n) = absurd (n x)
  one_answer (accepted h w x v o) (outside g u y a p) = absurd (p (subst Within (one_integer piece v a) o))
  one_answer (accepted h w x v o) (accepted g u y a p) = ap (answer 0 (length piece)) (one_integer piece v a)
