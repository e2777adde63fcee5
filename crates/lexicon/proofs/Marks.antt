-- Code points by their number: the byte behind `0c` tells the base, so that a literal's base and the place of its first digit
-- are fixed by the place where it begins; and the closing angle of an escape tells where it ends. Assumes nothing.
use mathlib.Core.Path.{◌≡◌, refl, subst, subst₂, sym, ap, ◌∙◌}
use mathlib.Core.Logic.{◌⊎◌, inl, inr}
use mathlib.Core.Bool.{true}
use mathlib.Core.List.{List}
use Prim.Native.Nat.{ℕ, ◌+◌, ◌≤◌, ◌<◌}
use native.Mathlib.Nat.{le_antisymm}
use native.Mathlib.Omega.{arith}
use lib.ListN.{length, get_or}
use Rattle.rules.specs.Class.{Class, In, just}
use Rattle.rules.specs.Rule.{one, many, plus, lit, Takes, nothing, byte, both, left, right, more, At}
use Rattle.rules.proofs.Classes.{apart, apart_span, is_just, just_is}
use Rattle.rules.proofs.Chains.{reaches}
use Rattle.rules.proofs.Matches.{forward}
use Rattle.rules.proofs.Ways.{never, begins_none}
use Rattle.lexicon.specs.declared.Base.{Base}
use Rattle.lexicon.specs.declared.Base.TheVariants.{Two, Eight, Ten, Sixteen}
use Rattle.lexicon.specs.Bytes.{decimal, digits}
use Rattle.lexicon.specs.Literals.{code_mark, code_of_base, code_point_of}
use Rattle.lexicon.specs.Parts.{letter, Marked}
use Rattle.lexicon.proofs.Bases.{some_base}
use Rattle.lexicon.proofs.Spaces.{byte_single}
use Rattle.lexicon.proofs.Numbers.{same_base, letter_no_digit}

module _ (text : List ℕ) where
  -- behind `0c` stands the base's mark, or for base ten the first digit itself
  abbrev Told : Base → ℕ → ℕ → Type 0
  Told b i s =
      ((i + 2 < length text) × (get_or text (i + 2) 0 ≡ letter b) × (s ≡ i + 3))
      ⊎ ((b ≡ Ten) × In decimal (get_or text (i + 2) 0) × (s ≡ i + 2))

  marks : (b : Base) (i m s : ℕ) → m ≡ i + 2 → At text (just (letter b)) m → s ≡ m + 1 → Told b i s
  marks b i m s e a f =
      inl (subst (λ (x : ℕ). x < length text) e a.0, sym (ap (λ (x : ℕ). get_or text x 0) e) ∙ just_is _ _ a.1, omega arith)

  told : (b : Base) {i s : ℕ} → Takes text (code_mark b) i s → At text (digits b) s → Told b i s
  told Two (both (byte a e) (both (byte b f) (byte d g))) x = marks Two _ _ _ (omega arith) d g
  told Eight (both (byte a e) (both (byte b f) (byte d g))) x = marks Eight _ _ _ (omega arith) d g
  told Ten (both (both (byte a e) (byte b f)) (left (byte d g))) x = marks Ten _ _ _ (omega arith) d g
  told Ten {i} {s} (both (both (byte a e) (byte b f)) (right (nothing g))) x =
      let h : s ≡ i + 2 = omega arith in inr (refl, subst (λ (y : ℕ). In decimal (get_or text y 0)) h x.1, h)
  told Sixteen (both (byte a e) (both (byte b f) (byte d g))) x = marks Sixteen _ _ _ (omega arith) d g

  mark_byte : (b : Base) (i : ℕ) → i + 2 < length text → get_or text (i + 2) 0 ≡ letter b → Takes text (one (just (letter b))) (i + 2) (i + 3)
  mark_byte b i h f =
      let e : i + 3 ≡ i + 2 + 1 = omega arith in
      byte (h, is_just (letter b) (get_or text (i + 2) 0) f) e

  take_mark : (b : Base) {i : ℕ} → Takes text (lit "0c") i (i + 2) → i + 2 < length text → get_or text (i + 2) 0 ≡ letter b → Takes text (code_mark b) i (i + 3)
  take_mark Two (both t u) h f = both t (both u (mark_byte Two _ h f))
  take_mark Eight (both t u) h f = both t (both u (mark_byte Eight _ h f))
  take_mark Ten t h f = both t (left (mark_byte Ten _ h f))
  take_mark Sixteen (both t u) h f = both t (both u (mark_byte Sixteen _ h f))

  pub by_mark : (b : Base) {i : ℕ} → Takes text (lit "0c") i (i + 2) → i + 2 < length text → get_or text (i + 2) 0 ≡ letter b → Marked text i b (i + 3)
  by_mark b {i} z h f = record { mark = take_mark b z h f; only = λ a t x. go a (told a t x) }
    where
      go : (a : Base) {t : ℕ} → Told a i t → (a ≡ b) × (t ≡ i + 3)
      go a (inl y) = (same_base b a f y.1, y.2)
      go a (inr y) = absurd (letter_no_digit b (subst (λ (v : ℕ). In decimal v) f y.1))

  pub by_digit : {i : ℕ} → Takes text (lit "0c") i (i + 2) → ((b : Base) → get_or text (i + 2) 0 ≡ letter b → ⊥) → Marked text i Ten (i + 2)
  by_digit {i} z n = record { mark = both z (right (nothing refl)); only = λ a t x. go a (told a t x) }
    where
      go : (a : Base) {t : ℕ} → Told a i t → (a ≡ Ten) × (t ≡ i + 2)
      go a (inl y) = absurd (n a y.1)
      go a (inr y) = (y.0, y.2)

  -- a mark that digits follow is the only one
  pub marked : (b : Base) {i s : ℕ} → Takes text (code_mark b) i s → At text (digits b) s → Marked text i b s
  marked b {i} {s} t x = record { mark = t; only = λ a u y. go a (told b t x) (told a u y) }
    where
      go : (a : Base) {u : ℕ} → Told b i s → Told a i u → (a ≡ b) × (u ≡ s)
      go a (inl p) (inl q) = (same_base b a p.1 q.1, q.2 ∙ sym p.2)
      go a (inl p) (inr q) = absurd (letter_no_digit b (subst (λ (v : ℕ). In decimal v) p.1 q.1))
      go a (inr p) (inl q) = absurd (letter_no_digit a (subst (λ (v : ℕ). In decimal v) q.1 p.1))
      go a (inr p) (inr q) = (q.0 ∙ sym p.0, q.2 ∙ sym p.2)

  -- every mark begins with `0c`
  pub begins : (b : Base) {i s : ℕ} → Takes text (code_mark b) i s → Takes text (lit "0c") i (i + 2)
  begins b t = go b t
    where
      zero_c : {i m n : ℕ} → Takes text (lit "0") i m → Takes text (lit "c") m n → Takes text (lit "0c") i (i + 2)
      zero_c {i} {m} (byte a e) (byte b f) = let h : i + 2 ≡ m + 1 = omega arith in both (byte a e) (byte b h)

      go : (b : Base) {i s : ℕ} → Takes text (code_mark b) i s → Takes text (lit "0c") i (i + 2)
      go Two (both t (both u d)) = zero_c t u
      go Eight (both t (both u d)) = zero_c t u
      go Ten (both (both t u) d) = zero_c t u
      go Sixteen (both t (both u d)) = zero_c t u

  pub mark_long : (b : Base) {i s : ℕ} → Takes text (code_mark b) i s → i + 2 ≤ s
  mark_long Two (both (byte a e) (both (byte b f) (byte d g))) = omega arith
  mark_long Eight (both (byte a e) (both (byte b f) (byte d g))) = omega arith
  mark_long Ten (both (both (byte a e) (byte b f)) d) = let x = forward d in omega arith
  mark_long Sixteen (both (byte a e) (both (byte b f) (byte d g))) = omega arith

-- ---- the whole literal

-- the closing angle is no digit
angle_digit : (b : Base) → never (just 0x3E) (one (digits b)) ≡ true
unfolding never apart apart_span
angle_digit Two = refl
angle_digit Eight = refl
angle_digit Ten = refl
angle_digit Sixteen = refl

module _ {text : List ℕ} where
  pub first_digit : {c : Class} {i j : ℕ} → Takes text (plus (one c)) i j → At text c i
  first_digit (both (byte a e) u) = a

  all_many : {c : Class} {i j : ℕ} → Takes text (plus (one c)) i j → Takes text (many (one c)) i j
  all_many (both t u) = more t u

  -- its digits stand behind the only mark
  pub digits_of_lem : {i s k : ℕ} (b : Base) → Marked text i b s → Takes text code_point_of i k → Takes text (plus (one (digits b))) s k
  digits_of_lem {i} {s} {k} b m t = let s = some_base code_of_base t in go s.0 s.1
    where
      go : (a : Base) → Takes text (code_of_base a) i k → Takes text (plus (one (digits b))) s k
      go a (both u d) =
          let e = m.only a u (first_digit d) in
          subst₂ (λ (x : Base) (y : ℕ). Takes text (plus (one (digits x))) y k) e.0 e.1 d

  mark_of : {i j : ℕ} → Takes text code_point_of i j → (b : Base) × (s : ℕ) × Marked text i b s
  mark_of t = let s = some_base code_of_base t in go s.0 s.1
    where
      go : (a : Base) {i j : ℕ} → Takes text (code_of_base a) i j → (b : Base) × (s : ℕ) × Marked text i b s
      go a (both u d) = (a, _, marked text a u (first_digit d))

  -- ---- the closing angle

  -- a match that the closing angle follows is as long as any
  pub angle_most : {i j k : ℕ} → Takes text code_point_of i j → At text (just 0x3E) j → Takes text code_point_of i k → k ≤ j
  angle_most {i} {j} {k} t a u = go (mark_of t).0 (mark_of t).2
    where
      go : (b : Base) {s : ℕ} → Marked text i b s → k ≤ j
      go b m =
          forward (reaches (byte_single (digits b)) (all_many (digits_of_lem b m t)) (begins_none text (just 0x3E) (one (digits b)) (angle_digit b) a)
          (all_many (digits_of_lem b m u)))

  -- so a literal with the closing angle behind it has one end only
  pub angle_same : {i j k : ℕ} → Takes text code_point_of i j → At text (just 0x3E) j → Takes text code_point_of i k → At text (just 0x3E) k → j ≡ k
  angle_same t a u b = le_antisymm (angle_most u b t) (angle_most t a u)
