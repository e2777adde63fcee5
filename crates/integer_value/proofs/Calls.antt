-- The integer of a literal, and the answers, by what was found. Assumes nothing.
use mathlib.Core.Path.{◌≡◌, subst, subst⁻¹}
use mathlib.Core.Bool.{Bool, true, false, cond}
use mathlib.Core.List.{List}
use Prim.Native.Nat.{ℕ, zero, suc, ◌≤◌, ◌<◌, ◌^◌}
use native.Mathlib.Omega.{arith}
use lib.IntN.{ℤ, pos, neg_ℤ}
use lib.ListN.{length}
use Rattle.std.specs.Prelude.{Option, Some, None, Result, Ok, Err, SomeIff, IsErrAnd}
use Rattle.std.specs.Option.{ok_or}
use Rattle.lexicon.specs.declared.Base.{Base}
use Rattle.lexicon.specs.Literals.{integer}
use Rattle.lexicon.specs.Utf8.{WellFormed}
use Rattle.reading.specs.declared.Refusal.{Refusal}
use Rattle.reading.specs.declared.Refused.{Refused}
use Rattle.reading.specs.Sizes.{base}
use Rattle.values.specs.Exactly.{Exactly}
use Rattle.values.specs.Integer.{Within, not_integer, outside, accepted}
use Rattle.piece.specs.Sounds.{Unsound}
use Rattle.piece.proofs.Refused.{unsound_integer}
use Rattle.integer_value.specs.Parts.{SignOf, MarkOf, Total, Valued, Judged}
use Rattle.integer_value.proofs.Starts.{integer_of}

-- a size beyond 64 bits is outside with either sign
size_outside : (minus : Bool) (n : ℕ) → (n < 2 ^ 64 → ⊥) → Within (cond minus (neg_ℤ (pos n)) (pos n)) → ⊥
size_outside true zero h w = h (omega arith)
size_outside true (suc n) h w = h (omega arith)
size_outside false n h w = h (omega arith)

module _ (piece : List ℕ) where
  module _ {b : Base} {s g : ℕ} {minus : Bool} (n : SignOf piece minus g) (m : MarkOf piece g b s) where
    pub valued_none : Total piece b s None → Valued piece None
    valued_none t = record { integer = _; integer_of = integer_of piece n m t.digits_are; within = size_outside minus _ t.counted }

    pub valued_some : {v : ℕ} {r : Option ℤ} → Total piece b s (Some v) → SomeIff r (Within (cond minus (neg_ℤ (pos v)) (pos v))) (cond minus (neg_ℤ (pos v)) (pos v)) → Valued piece r
    valued_some {r = r} t k =
        record {
          integer = _;
          integer_of = integer_of piece n m t.digits_are;
          within = subst (λ (x : ℕ). SomeIff r (Within (cond minus (neg_ℤ (pos x)) (pos x))) (cond minus (neg_ℤ (pos x)) (pos x))) t.counted.1 k;
        }

  -- ---- the answers in their order

  pub judged_unsound : (r : Result ℤ Refused) {x : Refused} → Unsound base piece x → IsErrAnd r (λ y. y ≡ x) → Judged piece base r
  judged_unsound (Ok z) u e = absurd e
  judged_unsound (Err y) u e = subst⁻¹ (λ (x : Refused). Judged piece base (Err x)) e (unsound_integer u)

  module _ (s : (length piece ≤ base.text) × WellFormed piece) where
    pub judged_other : (Exactly integer piece → ⊥) → Judged piece base (Err (record { refusal = Refusal.NotTheLiteral; place = 0 }))
    judged_other n = not_integer s.0 s.1 n

    pub judged_value : Exactly integer piece → (r : Option ℤ) → Valued piece r → Judged piece base (ok_or r (record { refusal = Refusal.OutOfRange; place = 0 }))
    judged_value x None v = outside s.0 s.1 x v.integer_of v.within
    judged_value x (Some z) v = subst⁻¹ (λ (y : ℤ). Judged piece base (Ok y)) v.within.1 (accepted s.0 s.1 x v.integer_of v.within.0)
