-- UTF-8 as it is written: the four widths, and that what is written is what is read. Assumes nothing.
use mathlib.Core.Path.{◌≡◌, refl, sym, ◌∙◌}
use mathlib.Core.Logic.{inl}
use mathlib.Core.List.{List, [], ◌∷◌}
use Prim.Native.Nat.{ℕ, ◌+◌, ◌-◌, ◌*◌, ◌/◌, ◌%◌, ◌≤◌, ◌<◌}
use native.Mathlib.Omega.{arith}
use borrow.Author.Tests.{lt-ltb, le-ltb}
use Rattle.lexicon.specs.Values.{scalar}
use Rattle.lexicon.specs.Bad.{Scalar}
use Rattle.lexicon.specs.Encode.{two, three, four, encode}

-- ---- the widths

pub encode_one : (c : ℕ) → c < 0x80 → c ∷ [] ≡ encode c
unfolding encode
encode_one c h = rw (lt-ltb c 0x80 h) refl

pub encode_two : (c : ℕ) → 0x80 ≤ c → c < 0x800 → two c ≡ encode c
unfolding encode
encode_two c l h = rw (le-ltb c 0x80 l) rw (lt-ltb c 0x800 h) refl

pub encode_three : (c : ℕ) → 0x800 ≤ c → c < 0x10000 → three c ≡ encode c
unfolding encode
encode_three c l h = rw (le-ltb c 0x80 (omega arith)) rw (le-ltb c 0x800 l) rw (lt-ltb c 0x10000 h) refl

pub encode_four : (c : ℕ) → 0x10000 ≤ c → four c ≡ encode c
unfolding encode
encode_four c l = rw (le-ltb c 0x80 (omega arith)) rw (le-ltb c 0x800 (omega arith)) rw (le-ltb c 0x10000 l) refl

-- ---- what is written is what is read

-- a sequence is its code point's bytes, and that is a scalar value
pub record Written (bs : List ℕ) : Type 0 where
  pub bytes_are : encode (scalar bs) ≡ bs
  pub is_scalar : Scalar (scalar bs)

pub written_one : (a : ℕ) → a ≤ 0x7F → Written (a ∷ [])
written_one a h = record { bytes_are = sym (encode_one a (omega arith)); is_scalar = inl (omega arith) }

pub written_two : (a b : ℕ) → 0xC2 ≤ a → a ≤ 0xDF → 0x80 ≤ b → b ≤ 0xBF → Written (a ∷ b ∷ [])
written_two a b l h m g =
    let c = (a - 0xC0) * 64 + (b - 0x80) in
    let p : 0xC0 + c / 64 ≡ a = omega arith in
    let q : 0x80 + c % 64 ≡ b = omega arith in
    record {
      bytes_are = sym (encode_two c (omega arith) (omega arith)) ∙ (λ i. p i ∷ q i ∷ []);
      is_scalar = inl (omega arith);
    }

pub written_three : (a b c : ℕ) → 0xE0 ≤ a → 0x80 ≤ b → b ≤ 0xBF → 0x80 ≤ c → c ≤ 0xBF → 0x800 ≤ scalar (a ∷ b ∷ c ∷ []) →
    scalar (a ∷ b ∷ c ∷ []) < 0x10000 → Scalar (scalar (a ∷ b ∷ c ∷ [])) → Written (a ∷ b ∷ c ∷ [])
written_three a b c l m g n k x y s =
    let v = ((a - 0xE0) * 64 + (b - 0x80)) * 64 + (c - 0x80) in
    let p : 0xE0 + v / 4096 ≡ a = omega arith in
    let q : 0x80 + v / 64 % 64 ≡ b = omega arith in
    let r : 0x80 + v % 64 ≡ c = omega arith in
    record { bytes_are = sym (encode_three v x y) ∙ (λ i. p i ∷ q i ∷ r i ∷ []); is_scalar = s }

pub written_four : (a b c d : ℕ) → 0xF0 ≤ a → 0x80 ≤ b → b ≤ 0xBF → 0x80 ≤ c → c ≤ 0xBF → 0x80 ≤ d → d ≤ 0xBF →
    0x10000 ≤ scalar (a ∷ b ∷ c ∷ d ∷ []) → Scalar (scalar (a ∷ b ∷ c ∷ d ∷ [])) → Written (a ∷ b ∷ c ∷ d ∷ [])
written_four a b c d l m g n k o t x s =
    let v = (((a - 0xF0) * 64 + (b - 0x80)) * 64 + (c - 0x80)) * 64 + (d - 0x80) in
    let p : 0xF0 + v / 262144 ≡ a = omega arith in
    let q : 0x80 + v / 4096 % 64 ≡ b = omega arith in
    let r : 0x80 + v / 64 % 64 ≡ c = omega arith in
    let u : 0x80 + v % 64 ≡ d = omega arith in
    record { bytes_are = sym (encode_four v x) ∙ (λ i. p i ∷ q i ∷ r i ∷ u i ∷ []); is_scalar = s }
