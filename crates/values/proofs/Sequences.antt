-- The characters of a text by the rows of UTF-8's table: each is its code point's bytes. Assumes nothing.
use mathlib.Core.Path.{◌≡◌, refl, subst}
use mathlib.Core.Logic.{inl, inr}
use mathlib.Core.Bool.{true}
use mathlib.Core.List.{List, [], ◌∷◌}
use Prim.Native.Nat.{ℕ, ◌+◌, ◌-◌, ◌≤◌, ◌<◌}
use native.Mathlib.Omega.{arith}
use lib.ListN.{get_or}
use Rattle.rules.specs.Class.{Class, ◌upto◌}
use Rattle.rules.specs.Rule.{one, ◌then◌, At, Takes, byte, both, left, right}
use Rattle.rules.proofs.Classes.{includes, in_some, includes_in, low_in, in_high}
use Rattle.rules.proofs.Matches.{move_at}
use Rattle.lexicon.specs.Literals.{plain_byte, unescaped, restricted}
use Rattle.lexicon.specs.Utf8.{range, tail, beyond, sequence}
use Rattle.lexicon.specs.Values.{read, scalar}
use Rattle.lexicon.specs.Bad.{Scalar}
use Rattle.values.proofs.Encodes.{Written, written_one, written_two, written_three, written_four}

module _ (text : List ℕ) where
  -- the n bytes from i on are a character
  here : (n i j : ℕ) → j ≡ i + n → Written (read text i n) → Written (read text i (j - i))
  here n i j e w = let h : n ≡ j - i = omega arith in subst (λ (x : ℕ). Written (read text i x)) h w

  abbrev At2 : ℕ → ℕ → ℕ → Type 0
  At2 l h i = (l ≤ get_or text i 0) × (get_or text i 0 ≤ h)

  bounds : (l h : ℕ) {i k : ℕ} → k ≡ i → At text (l upto h ∷ []) k → At2 l h i
  bounds l h {i} {k} e a =
      let b = move_at text (l upto h ∷ []) e a in (low_in l h (get_or text i 0) b.1, in_high l h (get_or text i 0) b.1)

  two : (l h m n : ℕ) → 0xC2 ≤ l → h ≤ 0xDF → 0x80 ≤ m → n ≤ 0xBF → {i j : ℕ} → Takes text (range l h then range m n) i j →
      Written (read text i (j - i))
  two l h m n p q r s {i} (both (byte a e) (byte b f)) =
      let x = bounds l h refl a in
      let y = bounds m n e b in
      here 2 i _ (omega arith) (written_two (get_or text i 0) (get_or text (i + 1) 0) (omega arith) (omega arith) (omega arith) (omega arith))

  abbrev Three : ℕ → ℕ → ℕ → ℕ → Type 0
  Three l h m n =
      (a b c : ℕ) → l ≤ a → a ≤ h → m ≤ b → b ≤ n → 0x80 ≤ c → c ≤ 0xBF →
      (0x800 ≤ scalar (a ∷ b ∷ c ∷ [])) × (scalar (a ∷ b ∷ c ∷ []) < 0x10000) × Scalar (scalar (a ∷ b ∷ c ∷ []))

  three : (l h m n : ℕ) → 0xE0 ≤ l → 0x80 ≤ m → n ≤ 0xBF → Three l h m n → {i j : ℕ} →
      Takes text (range l h then range m n then tail) i j → Written (read text i (j - i))
  three l h m n p q r w {i} (both (byte a e) (both (byte b f) (byte c g))) =
      let x = bounds l h refl a in
      let y = bounds m n e b in
      let z = bounds 0x80 0xBF {i = i + 1 + 1} (omega arith) c in
      let v = w (get_or text i 0) (get_or text (i + 1) 0) (get_or text (i + 1 + 1) 0) x.0 x.1 y.0 y.1 z.0 z.1 in
      here 3 i _ (omega arith)
      (written_three (get_or text i 0) (get_or text (i + 1) 0) (get_or text (i + 1 + 1) 0)
      (omega arith) (omega arith) (omega arith) z.0 z.1 v.0 v.1 v.2)

  abbrev Four : ℕ → ℕ → ℕ → ℕ → Type 0
  Four l h m n =
      (a b c d : ℕ) → l ≤ a → a ≤ h → m ≤ b → b ≤ n → 0x80 ≤ c → c ≤ 0xBF → 0x80 ≤ d → d ≤ 0xBF →
      (0x10000 ≤ scalar (a ∷ b ∷ c ∷ d ∷ [])) × (scalar (a ∷ b ∷ c ∷ d ∷ []) ≤ 0x10FFFF)

  four : (l h m n : ℕ) → 0xF0 ≤ l → 0x80 ≤ m → n ≤ 0xBF → Four l h m n → {i j : ℕ} →
      Takes text (range l h then range m n then tail then tail) i j → Written (read text i (j - i))
  four l h m n p q r w {i} (both (byte a e) (both (byte b f) (both (byte c g) (byte d k)))) =
      let x = bounds l h refl a in
      let y = bounds m n e b in
      let z = bounds 0x80 0xBF {i = i + 1 + 1} (omega arith) c in
      let o = bounds 0x80 0xBF {i = i + 1 + 1 + 1} (omega arith) d in
      let v = w (get_or text i 0) (get_or text (i + 1) 0) (get_or text (i + 1 + 1) 0) (get_or text (i + 1 + 1 + 1) 0)
      x.0 x.1 y.0 y.1 z.0 z.1 o.0 o.1 in
      here 4 i _ (omega arith)
      (written_four (get_or text i 0) (get_or text (i + 1) 0) (get_or text (i + 1 + 1) 0) (get_or text (i + 1 + 1 + 1) 0)
      (omega arith) (omega arith) (omega arith) z.0 z.1 o.0 o.1 v.0 (inr (omega arith, v.1)))

  -- the rows
  beyond_written : (low : ℕ) → 0xC2 ≤ low → {i j : ℕ} → Takes text (beyond low) i j → Written (read text i (j - i))
  beyond_written low h (left t) = two low 0xDF 0x80 0xBF h (omega arith) (omega arith) (omega arith) t
  beyond_written low h (right (left t)) =
      three 0xE0 0xE0 0xA0 0xBF (omega arith) (omega arith) (omega arith) (λ a b c g k m n o p. (omega arith, omega arith, inl (omega arith))) t
  beyond_written low h (right (right (left t))) =
      three 0xE1 0xEC 0x80 0xBF (omega arith) (omega arith) (omega arith) (λ a b c g k m n o p. (omega arith, omega arith, inl (omega arith))) t
  beyond_written low h (right (right (right (left t)))) =
      three 0xED 0xED 0x80 0x9F (omega arith) (omega arith) (omega arith) (λ a b c g k m n o p. (omega arith, omega arith, inl (omega arith))) t
  beyond_written low h (right (right (right (right (left t))))) =
      three 0xEE 0xEF 0x80 0xBF (omega arith) (omega arith) (omega arith) (λ a b c g k m n o p. (omega arith, omega arith, inr (omega arith, omega arith))) t
  beyond_written low h (right (right (right (right (right (left t)))))) =
      four 0xF0 0xF0 0x90 0xBF (omega arith) (omega arith) (omega arith) (λ a b c d g k m n o p q r. (omega arith, omega arith)) t
  beyond_written low h (right (right (right (right (right (right (left t))))))) =
      four 0xF1 0xF3 0x80 0xBF (omega arith) (omega arith) (omega arith) (λ a b c d g k m n o p q r. (omega arith, omega arith)) t
  beyond_written low h (right (right (right (right (right (right (right t))))))) =
      four 0xF4 0xF4 0x80 0x8F (omega arith) (omega arith) (omega arith) (λ a b c d g k m n o p q r. (omega arith, omega arith)) t

  ascii : (c : Class) → includes c (0x00 upto 0x7F ∷ []) ≡ true → {i j : ℕ} → Takes text (one c) i j → Written (read text i (j - i))
  ascii c h {i} (byte a e) =
      here 1 i _ e (written_one (get_or text i 0) (in_high 0x00 0x7F _ (includes_in c (0x00 upto 0x7F ∷ []) (get_or text i 0) h a.1)))

  -- every well-formed sequence
  pub sequence_written : {i j : ℕ} → Takes text sequence i j → Written (read text i (j - i))
  unfolding includes in_some
  sequence_written (left t) = ascii (0x00 upto 0x7F ∷ []) refl t
  sequence_written (right t) = beyond_written 0xC2 (omega arith) t

  -- the characters of quoted texts
  pub unescaped_written : {i j : ℕ} → Takes text unescaped i j → Written (read text i (j - i))
  unfolding includes in_some
  unescaped_written (left t) = ascii plain_byte refl t
  unescaped_written (right (left t)) = two 0xC2 0xC2 0xA0 0xBF (omega arith) (omega arith) (omega arith) (omega arith) t
  unescaped_written (right (right t)) = beyond_written 0xC3 (omega arith) t

  pub restricted_written : {i j : ℕ} → Takes text restricted i j → Written (read text i (j - i))
  unfolding includes in_some
  restricted_written (left t) = unescaped_written t
  restricted_written (right t) = ascii (0x5C upto 0x5C ∷ []) refl t
