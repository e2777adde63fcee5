-- How many `=` end a base-64 literal: its last unit is its last four bytes, so the last two tell. Assumes nothing.
use mathlib.Core.Path.{◌≡◌, refl, sym, ap, subst, ◌∙◌}
use mathlib.Core.List.{List, [], ◌∷◌, ◌++◌, map, map-append, append_assoc, append-nil}
use Prim.Native.Nat.{ℕ, zero, suc, ◌+◌, ◌-◌, ◌≤◌, ◌<◌}
use native.Mathlib.Omega.{arith}
use lib.ListN.{length, get_or, replicate, length-append, length-map}
use Rattle.rules.specs.Class.{byte_of}
use Rattle.rules.specs.Every.{Every, none, also}
use Rattle.rules.specs.Rule.{lit, Takes, byte, both}
use Rattle.rules.proofs.Classes.{just_is}
use Rattle.lexicon.specs.Bytes.{base64}
use Rattle.lexicon.specs.Base64.{character, Encodes}
use Rattle.lexicon.specs.Values.{read, Digits, last_unit, next_unit, Behind, mark_alone, mark_digits}
use Rattle.lexicon.proofs.Groups.{unit_end, digits_forward}
use Rattle.lexicon.proofs.Expansions.{ends_same, every_parts, last_of}
use Rattle.lexicon.proofs.Sextets.{character_no_pad}

-- ---- the last unit of a row

-- the row ends in the bytes before place j
ends_in : {text : List ℕ} {j m : ℕ} {ds : List ℕ} → Digits text 4 base64 m j ds → (us : List ℕ) × (ds ≡ us ++ read text (j - 4) 4)
ends_in {text} (last_unit {i} {j} u) =
    let e : i ≡ j - 4 = omega (arith, unit_end 4 base64 u) in ([], ap (λ (n : ℕ). read text n 4) e)
ends_in {text} {j} (next_unit {i} {ds = ds} u s d) =
    let r = ends_in d in
    (read text i 4 ++ r.0, ap (λ (l : List ℕ). read text i 4 ++ l) r.1 ∙ sym (append_assoc (read text i 4) r.0 (read text (j - 4) 4)))

abbrev pub pad : ℕ
pad = byte_of "="

module _ (piece : List ℕ) where
  -- the last byte but k
  abbrev pub end : ℕ → ℕ
  end k = get_or piece (length piece - 1 - k) 0

  record EndsIn (ds : List ℕ) : Type 0 where
    front : List ℕ
    are : ds ≡ front ++ (end 1 ∷ end 0 ∷ [])

  ends : {m : ℕ} {ds : List ℕ} → Digits piece 4 base64 m (length piece) ds → EndsIn ds
  ends {ds = ds} d =
      let r = ends_in d in
      let n = length piece in
      let h = digits_forward d in
      let p : n - 4 + 1 + 1 ≡ n - 1 - 1 = omega (arith, h) in
      let q : n - 4 + 1 + 1 + 1 ≡ n - 1 - 0 = omega (arith, h) in
      record {
        front = r.0 ++ (get_or piece (n - 4) 0 ∷ get_or piece (n - 4 + 1) 0 ∷ []);
        are =
            r.1
            ∙ ap (λ (x : ℕ). r.0 ++ (get_or piece (n - 4) 0 ∷ get_or piece (n - 4 + 1) 0 ∷ get_or piece x 0 ∷ get_or piece (n - 4 + 1 + 1 + 1) 0 ∷ [])) p
            ∙ ap (λ (x : ℕ). r.0 ++ (get_or piece (n - 4) 0 ∷ get_or piece (n - 4 + 1) 0 ∷ end 1 ∷ get_or piece x 0 ∷ [])) q
            ∙ sym (append_assoc r.0 (get_or piece (n - 4) 0 ∷ get_or piece (n - 4 + 1) 0 ∷ []) (end 1 ∷ end 0 ∷ []));
      }

  -- what the last two bytes are, by the number of `=`
  pub data Tells : ℕ → Type 0 where
    no_pad : (end 0 ≡ pad → ⊥) → Tells 0
    one_pad : end 0 ≡ pad → (end 1 ≡ pad → ⊥) → Tells 1
    two_pads : end 0 ≡ pad → end 1 ≡ pad → Tells 2

  head_same_lem : {x y : ℕ} {xs ys : List ℕ} → ◌≡◌ {A = List ℕ} (x ∷ xs) (y ∷ ys) → x ≡ y
  head_same_lem e = ap (λ (l : List ℕ). get_or l 0 0) e

  next_same : {x y v w : ℕ} {xs ys : List ℕ} → ◌≡◌ {A = List ℕ} (x ∷ v ∷ xs) (y ∷ w ∷ ys) → v ≡ w
  next_same e = ap (λ (l : List ℕ). get_or l 1 0) e

  module _ (groups : List ℕ) (six : Every (λ v. v < 64) groups) where
    -- the last character of some is no `=`
    last_character : (us : List ℕ) (x : ℕ) → us ++ (x ∷ []) ≡ map character groups → x ≡ pad → ⊥
    last_character us x e p =
        let n = ap length e ∙ length-map groups character in
        let l = last_of groups (omega (arith, n, length-append us (x ∷ []))) in
        let f : us ++ (x ∷ []) ≡ map character l.front ++ (character l.last ∷ []) = e ∙ ap (map character) l.are ∙ map-append character l.front (l.last ∷ []) in
        let s = (every_parts l.front (subst (Every (λ v. v < 64)) l.are six)).1 in
        go l.last s (sym (head_same_lem (ends_same us (map character l.front) refl f).1) ∙ p)
      where
        go : (v : ℕ) → Every (λ v. v < 64) (v ∷ []) → character v ≡ pad → ⊥
        go v (also h none) q = character_no_pad h q

    tells : {ds : List ℕ} → EndsIn ds → (n : ℕ) → n ≤ 2 → ds ≡ map character groups ++ replicate n pad → Tells n
    tells r zero h e =
        no_pad
        (last_character (r.front ++ (end 1 ∷ [])) (end 0)
        (append_assoc r.front (end 1 ∷ []) (end 0 ∷ []) ∙ sym r.are ∙ e ∙ append-nil (map character groups)))
    tells r (suc zero) h e =
        let s =
        ends_same (r.front ++ (end 1 ∷ [])) (map character groups) {xs = end 0 ∷ []} {ys = pad ∷ []} refl
        (append_assoc r.front (end 1 ∷ []) (end 0 ∷ []) ∙ sym r.are ∙ e) in
        one_pad (head_same_lem s.1) (last_character r.front (end 1) s.0)
    tells r (suc (suc zero)) h e =
        let s = ends_same r.front (map character groups) {xs = end 1 ∷ end 0 ∷ []} {ys = pad ∷ pad ∷ []} refl (sym r.are ∙ e) in
        two_pads (next_same s.1) (head_same_lem s.1)
    tells r (suc (suc (suc n))) h e = absurd (omega (arith, h))

  -- a mark alone has no digits to pad
  alone : (n : ℕ) (groups : List ℕ) → [] ≡ map character groups ++ replicate n pad → n ≡ 0
  alone zero groups e = refl
  alone (suc n) groups e = absurd (omega (arith, ap length e, length-append (map character groups) (replicate (suc n) pad)))

  mark_end : {j : ℕ} → Takes piece (lit "0xy") 0 j → j ≡ length piece → end 0 ≡ pad → ⊥
  mark_end (both (byte a e) (both (byte b f) (byte {i = k} c g))) h p =
      let q : length piece - 1 - 0 ≡ k = omega (arith, e, f, g, h) in
      let y = just_is (byte_of "y") (get_or piece k 0) c.1 in
      omega (arith, sym (ap (λ (n : ℕ). get_or piece n 0) q) ∙ p, y)

  pub behind_tells : {ds bs : List ℕ} → Behind piece "0xy" 4 base64 0 (length piece) ds → (e : Encodes ds bs) → Tells e.padding
  behind_tells (mark_alone t) e = subst Tells (sym (alone e.padding e.groups e.characters_are)) (no_pad (mark_end t refl))
  behind_tells (mark_digits t d) e = tells e.groups e.six_bits (ends d) e.padding e.at_most_two e.characters_are

  pub none_told : {n : ℕ} → Tells n → (end 0 ≡ pad → ⊥) → n ≡ 0
  none_told (no_pad a) f = refl
  none_told (one_pad a b) f = absurd (f a)
  none_told (two_pads a b) f = absurd (f a)

  pub one_told : {n : ℕ} → Tells n → end 0 ≡ pad → (end 1 ≡ pad → ⊥) → n ≡ 1
  one_told (no_pad a) e f = absurd (a e)
  one_told (one_pad a b) e f = refl
  one_told (two_pads a b) e f = absurd (f b)

  pub two_told : {n : ℕ} → Tells n → end 0 ≡ pad → end 1 ≡ pad → n ≡ 2
  two_told (no_pad a) e f = absurd (a e)
  two_told (one_pad a b) e f = absurd (b f)
  two_told (two_pads a b) e f = refl
