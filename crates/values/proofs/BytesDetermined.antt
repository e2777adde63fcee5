-- One answer of a call that hands back bytes, for every kind of literal at once: a piece and a lent buffer have no second answer and no
-- second buffer at the end, a refusal writes nothing, and what is accepted are the bytes. Assumes nothing.
use mathlib.Core.Path.{◌≡◌, refl, sym, ap, subst}
use mathlib.Core.Logic.{◌⊎◌}
use mathlib.Core.List.{List, ◌++◌}
use Prim.Native.Nat.{ℕ}
use native.Mathlib.Omega.{arith}
use lib.ListN.{length, take, drop}
use lib.Seq.{take-append_seam, drop-append_seam}
use Rattle.lexicon.proofs.Determined.{formed_or_bad, one_bad}
use Rattle.reading.specs.declared.Answer.{Answer}
use Rattle.reading.specs.Answers.{answer}
use Rattle.reading.specs.declared.Rules.{Rules}
use Rattle.values.specs.Exactly.{Exactly}
use Rattle.values.specs.Bytes.{Call, BadPiece, PieceBytes, BytesAnswers, too_long, not_utf8, not_the_literal, bad, no_room, accepted}

-- the bytes of a value that is not bad
pub record Good (call : Call) (piece : List ℕ) : Type 0 where
  pub not_bad : (p : ℕ) → BadPiece call piece p → ⊥
  pub bytes : List ℕ
  pub are : PieceBytes call piece bytes

-- what a call must have of its literals, so that it has exactly one answer
pub record Settled (call : Call) : Type 0 where
  pub one_place : (piece : List ℕ) {p q : ℕ} → BadPiece call piece p → BadPiece call piece q → p ≡ q
  pub determined : (piece : List ℕ) → ((p : ℕ) → BadPiece call piece p → ⊥) → {bs cs : List ℕ} →
      PieceBytes call piece bs → PieceBytes call piece cs → bs ≡ cs
  pub bad_or_good : (piece : List ℕ) → Exactly call.literal piece →
      ((p : ℕ) × BadPiece call piece p) ⊎ Good call piece

module _ (call : Call) (rules : Rules) (piece lent : List ℕ) where
  abbrev Gives : Answer → List ℕ → Type 0
  Gives a t = BytesAnswers call rules piece lent a t

  -- ---- what the answer says of the buffer

  -- the first bytes of the buffer t, as many as are counted, are those of a value that is not bad; the others are as lent
  pub record Handed (count : ℕ) (t : List ℕ) : Type 0 where
    pub good : (p : ℕ) → BadPiece call piece p → ⊥
    pub bytes : PieceBytes call piece (take count t)
    pub kept : drop count t ≡ drop count lent

  pub accepted_bytes : {a : Answer} {t : List ℕ} → Gives a t → a.number ≡ 0 → Handed a.count t
  accepted_bytes (too_long h) e = absurd (omega (arith, e))
  accepted_bytes (not_utf8 h b) e = absurd (omega (arith, e))
  accepted_bytes (not_the_literal h w n) e = absurd (omega (arith, e))
  accepted_bytes (bad h w x b) e = absurd (omega (arith, e))
  accepted_bytes (no_room h w x g t l) e = absurd (omega (arith, e))
  accepted_bytes (accepted {bs} h w x g t l) e =
      let rest = drop (length bs) lent in
      record { good = g; bytes = subst (PieceBytes call piece) (sym (take-append_seam bs rest)) t; kept = drop-append_seam bs rest }

  pub refused_keeps : {a : Answer} {t : List ℕ} → Gives a t → (a.number ≡ 0 → ⊥) → t ≡ lent
  refused_keeps (too_long h) n = refl
  refused_keeps (not_utf8 h b) n = refl
  refused_keeps (not_the_literal h w m) n = refl
  refused_keeps (bad h w x b) n = refl
  refused_keeps (no_room h w x g t l) n = refl
  refused_keeps (accepted h w x g t l) n = absurd (n refl)

  -- ---- one answer

  module _ (settled : Settled call) where
    abbrev Same : Answer → Answer → List ℕ → List ℕ → Type 0
    Same a b t u = (a ≡ b) × (t ≡ u)

    pub one_answer : {a b : Answer} {t u : List ℕ} → Gives a t → Gives b u → Same a b t u
    one_answer (too_long h) (too_long g) = (refl, refl)
    one_answer (too_long h) (not_utf8 g b) = absurd (omega arith)
    one_answer (too_long h) (not_the_literal g w n) = absurd (omega arith)
    one_answer (too_long h) (bad g w x b) = absurd (omega arith)
    one_answer (too_long h) (no_room g w x n t l) = absurd (omega arith)
    one_answer (too_long h) (accepted g w x n t l) = absurd (omega arith)
    one_answer (not_utf8 h a) (too_long g) = absurd (omega arith)
    one_answer (not_utf8 h a) (not_utf8 g b) = (ap (λ (p : ℕ). answer 3 p 0) (one_bad piece a b), refl)
    one_answer (not_utf8 h a) (not_the_literal g w n) = absurd (formed_or_bad piece w a)
    one_answer (not_utf8 h a) (bad g w x b) = absurd (formed_or_bad piece w a)
    one_answer (not_utf8 h a) (no_room g w x n t l) = absurd (formed_or_bad piece w a)
    one_answer (not_utf8 h a) (accepted g w x n t l) = absurd (formed_or_bad piece w a)
    one_answer (not_the_literal h w m) (too_long g) = absurd (omega arith)
    one_answer (not_the_literal h w m) (not_utf8 g b) = absurd (formed_or_bad piece w b)
    one_answer (not_the_literal h w m) (not_the_literal g v n) = (refl, refl)
    one_answer (not_the_literal h w m) (bad g v x b) = absurd (m x)
    one_answer (not_the_literal h w m) (no_room g v x n t l) = absurd (m x)
    one_answer (not_the_literal h w m) (accepted g v x n t l) = absurd (m x)
    one_answer (bad h w x b) (too_long g) = absurd (omega arith)
    one_answer (bad h w x b) (not_utf8 g c) = absurd (formed_or_bad piece w c)
    one_answer (bad h w x b) (not_the_literal g v n) = absurd (n x)
    one_answer (bad h w x b) (bad g v y c) = (ap (λ (p : ℕ). answer 5 p 0) (settled.one_place piece b c), refl)
    one_answer (bad h w x b) (no_room g v y n t l) = absurd (n _ b)
    one_answer (bad h w x b) (accepted g v y n t l) = absurd (n _ b)
    one_answer (no_room h w x m t l) (too_long g) = absurd (omega arith)
    one_answer (no_room h w x m t l) (not_utf8 g b) = absurd (formed_or_bad piece w b)
    one_answer (no_room h w x m t l) (not_the_literal g v n) = absurd (n x)
    one_answer (no_room h w x m t l) (bad g v y b) = absurd (m _ b)
    one_answer (no_room h w x m t l) (no_room g v y n s k) =
        (ap (λ (b : List ℕ). answer 8 (length piece) (length b)) (settled.determined piece m t s), refl)
    one_answer (no_room h w x m t l) (accepted g v y n s k) = absurd (omega (arith, l, k, ap length (settled.determined piece m t s)))
    one_answer (accepted h w x m t l) (too_long g) = absurd (omega arith)
    one_answer (accepted h w x m t l) (not_utf8 g b) = absurd (formed_or_bad piece w b)
    one_answer (accepted h w x m t l) (not_the_literal g v n) = absurd (n x)
    one_answer (accepted h w x m t l) (bad g v y b) = absurd (m _ b)
    one_answer (accepted h w x m t l) (no_room g v y n s k) = absurd (omega (arith, l, k, ap length (settled.determined piece m t s)))
    one_answer (accepted h w x m t l) (accepted g v y n s k) =
        let e = settled.determined piece m t s in
        (ap (λ (b : List ℕ). answer 0 (length piece) (length b)) e, ap (λ (b : List ℕ). b ++ drop (length b) lent) e)
