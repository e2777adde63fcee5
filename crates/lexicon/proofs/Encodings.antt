-- Base 64: characters in whole quanta encode bytes exactly if they are fit, and no more than one row of bytes. Assumes nothing.
use mathlib.Core.Path.{◌≡◌, refl, sym, ap, subst, ◌∙◌}
use mathlib.Core.List.{List, [], ◌∷◌, ◌++◌, map, map-append}
use Prim.Native.Nat.{ℕ, zero, suc, ◌+◌, ◌-◌, ◌*◌, ◌/◌, ◌%◌, ◌^◌, ◌≤◌, ◌<◌}
use native.Mathlib.Nat.{mod-eq_of_lt, one-le-pow}
use native.Mathlib.Omega.{arith}
use lib.ListN.{length, length-append, length-map, length-replicate, replicate, get_or, drop}
use Rattle.rules.specs.Class.{byte_of, In}
use Rattle.rules.specs.Every.{Every, none, also}
use Rattle.lexicon.specs.Bytes.{base64}
use Rattle.lexicon.specs.Expansion.{bits_of, expand}
use Rattle.lexicon.specs.Base64.{character, Encodes}
use Rattle.lexicon.specs.Values.{Octets}
use Rattle.lexicon.specs.Parts.{sextet}
use Rattle.lexicon.proofs.Fit.{last_from, Fit}
use Rattle.lexicon.proofs.Sextets.{sextet_character, character_no_pad, sextet_small, character_sextet}
use Rattle.lexicon.proofs.Expansions.{same_cons, ends_same, every_parts, Last, last_of, expand_length, expand_bits, expand_same, RowOf, rows, left_zero, zero_left}

-- a byte other than `=`
abbrev pub NoPad : ℕ → Type 0
NoPad c = c ≡ byte_of "=" → ⊥

-- ---- characters and their values

values_of : {cs : List ℕ} → Every (In base64) cs → Every NoPad cs → Every (λ v. v < 64) (map sextet cs)
values_of none n = none
values_of (also i e) (also p n) = also (sextet_small i p) (values_of e n)

characters_again : {cs : List ℕ} → Every (In base64) cs → Every NoPad cs → map character (map sextet cs) ≡ cs
characters_again none n = refl
characters_again (also i e) (also p n) = same_cons (character_sextet i p) (characters_again e n)

values_again : {vs : List ℕ} → Every (λ v. v < 64) vs → map sextet (map character vs) ≡ vs
values_again none = refl
values_again (also h e) = same_cons (sextet_character h) (values_again e)

no_pads : {vs : List ℕ} → Every (λ v. v < 64) vs → Every NoPad (map character vs)
no_pads none = none
no_pads (also h e) = also (character_no_pad h) (no_pads e)

-- ---- the last character

pub power : (k : ℕ) → k ≤ 2 → 4 ^ k ≡ 2 ^ (2 * k)
power zero h = refl
power (suc zero) h = refl
power (suc (suc zero)) h = refl
power (suc (suc (suc k))) h = absurd (omega (arith, h))

last_from_lem : (v : ℕ) (cs : List ℕ) (c : ℕ) → last_from v (cs ++ (c ∷ [])) ≡ sextet c
last_from_lem v [] c = refl
last_from_lem v (d ∷ cs) c = last_from_lem (sextet d) cs c

-- where it stands, and its value
pub last_value : {cs : List ℕ} (l : Last cs) → last_from 0 cs ≡ sextet l.last
last_value l = ap (last_from 0) l.are ∙ last_from_lem 0 l.front l.last

last_split : (c : ℕ) (cs : List ℕ) → (us : List ℕ) × (map sextet (c ∷ cs) ≡ us ++ (last_from (sextet c) cs ∷ []))
last_split c cs =
    let l = last_of (c ∷ cs) (omega arith) in
    let us = map sextet l.front in
    (us, ap (map sextet) l.are ∙ map-append sextet l.front (l.last ∷ []) ∙ ap (λ (v : ℕ). us ++ (v ∷ [])) (sym (last_value l)))

module _ (k : ℕ) (h : k ≤ 2) where
  six : 6 - 2 * k + 2 * k ≡ 6
  six = omega (arith, h)

  -- its lowest bits are the last of all
  zeros_last : (cs bits : List ℕ) → expand 6 (map sextet cs) ≡ bits ++ replicate (2 * k) 0 → last_from 0 cs % 4 ^ k ≡ 0
  zeros_last [] bits e = mod-eq_of_lt (one-le-pow k 4 (omega arith))
  zeros_last (c ∷ cs) bits e =
      let s = last_split c cs in
      let f : expand (6 - 2 * k + 2 * k) (s.0 ++ (last_from (sextet c) cs ∷ [])) ≡ bits ++ replicate (2 * k) 0 =
      ap (λ (w : ℕ). expand w (s.0 ++ (last_from (sextet c) cs ∷ []))) six ∙ ap (expand 6) (sym s.1) ∙ e in
      ap (λ (p : ℕ). last_from (sextet c) cs % p) (power k h) ∙ left_zero s.0 (last_from (sextet c) cs) (6 - 2 * k) (2 * k) bits f

  last_zeros : (c : ℕ) (cs : List ℕ) → last_from 0 (c ∷ cs) % 4 ^ k ≡ 0 → (bits : List ℕ) × (expand 6 (map sextet (c ∷ cs)) ≡ bits ++ replicate (2 * k) 0)
  last_zeros c cs e = go (last_split c cs) (last_from (sextet c) cs) refl
    where
      go : (us : List ℕ) × (map sextet (c ∷ cs) ≡ us ++ (last_from (sextet c) cs ∷ [])) → (v : ℕ) → last_from (sextet c) cs ≡ v → (bits : List ℕ) × (expand 6 (map sextet (c ∷ cs)) ≡ bits ++ replicate (2 * k) 0)
      go (us, f) v g =
          let z : v % 2 ^ (2 * k) ≡ 0 = ap (λ (p : ℕ). v % p) (sym (power k h)) ∙ ap (λ (x : ℕ). x % 4 ^ k) (sym g) ∙ e in (
            expand (6 - 2 * k + 2 * k) us ++ bits_of (6 - 2 * k) (v / 2 ^ (2 * k)),
            ap (expand 6) (f ∙ ap (λ (x : ℕ). us ++ (x ∷ [])) g) ∙ ap (λ (w : ℕ). expand w (us ++ (v ∷ []))) (sym six) ∙ zero_left us v (6 - 2 * k) (2 * k) z,
          )

  -- so the other bits are those of whole bytes
  record Bytes (cs : List ℕ) : Type 0 where
    bytes : List ℕ
    octets : Octets bytes
    bits_are : expand 6 (map sextet cs) ≡ expand 8 bytes ++ replicate (2 * k) 0

  whole : (cs : List ℕ) → (length cs + k) % 4 ≡ 0 → (bits : List ℕ) × (expand 6 (map sextet cs) ≡ bits ++ replicate (2 * k) 0) → Bytes cs
  whole cs q (bits, e) =
      let b = (every_parts bits (subst (Every (λ b. b < 2)) e (expand_bits 6 (map sextet cs)))).0 in
      let n : length bits + 2 * k ≡ 6 * length cs =
      ap (λ (x : ℕ). length bits + x) (sym (length-replicate (2 * k) 0)) ∙ sym (length-append bits (replicate (2 * k) 0))
      ∙ ap length (sym e)
      ∙ expand_length 6 (map sextet cs)
      ∙ ap (λ (x : ℕ). 6 * x) (length-map cs sextet) in
      made (rows 8 (length bits / 8) bits b (omega (arith, n, q, h)))
    where
      made : {m : ℕ} → RowOf 8 m bits → Bytes cs
      made r = record { bytes = r.numbers; octets = r.small; bits_are = e ∙ ap (λ (l : List ℕ). l ++ replicate (2 * k) 0) (sym r.bits_are) }

  bytes_of : (cs : List ℕ) → (length cs + k) % 4 ≡ 0 → last_from 0 cs % 4 ^ k ≡ 0 → Bytes cs
  bytes_of [] q e = let z : k ≡ 0 = omega (arith, q, h) in record { bytes = []; octets = none; bits_are = ap (λ (x : ℕ). replicate (2 * x) 0) (sym z) }
  bytes_of (c ∷ cs) q e = whole (c ∷ cs) q (last_zeros c cs e)

-- ---- what is encoded

module _ {ds : List ℕ} where
  pub encodes_fit : {bs : List ℕ} → Encodes ds bs → Fit ds
  encodes_fit {bs} n =
      record {
        characters = map character n.groups;
        padding = n.padding;
        are = n.characters_are;
        no_pad = no_pads n.six_bits;
        at_most_two = n.at_most_two;
        left_over = zeros_last n.padding n.at_most_two (map character n.groups) (expand 8 bs) (ap (expand 6) (values_again n.six_bits) ∙ n.bits_are);
      }

  pub fit_encodes : Every (In base64) ds → length ds % 4 ≡ 0 → Fit ds → (bs : List ℕ) × Octets bs × Encodes ds bs
  fit_encodes i q f =
      let j = (every_parts f.characters (subst (Every (In base64)) f.are i)).0 in
      let n : length f.characters + f.padding ≡ length ds =
      ap (λ (x : ℕ). length f.characters + x) (sym (length-replicate f.padding (byte_of "=")))
      ∙ sym (length-append f.characters (replicate f.padding (byte_of "=")))
      ∙ ap length (sym f.are) in
      let b = bytes_of f.padding f.at_most_two f.characters (ap (λ (x : ℕ). x % 4) n ∙ q) f.left_over in (
        b.bytes,
        b.octets,
        record {
          groups = map sextet f.characters;
          six_bits = values_of j f.no_pad;
          padding = f.padding;
          at_most_two = f.at_most_two;
          characters_are = f.are ∙ ap (λ (l : List ℕ). l ++ replicate f.padding (byte_of "=")) (sym (characters_again j f.no_pad));
          quanta = ap (λ (x : ℕ). (x + f.padding) % 4) (length-map f.characters sextet) ∙ ap (λ (x : ℕ). x % 4) n ∙ q;
          bits_are = b.bits_are;
        },
      )

-- the characters before the `=`, and the number of `=`
pub cut_same : (us vs : List ℕ) (k l : ℕ) → Every NoPad us → Every NoPad vs → us ++ replicate k (byte_of "=") ≡ vs ++ replicate l (byte_of "=") → (us ≡ vs) × (k ≡ l)
cut_same [] [] k l a b e = (refl, sym (length-replicate k (byte_of "=")) ∙ ap length e ∙ length-replicate l (byte_of "="))
cut_same [] (v ∷ vs) zero l a b e = absurd (omega (arith, ap length e))
cut_same [] (v ∷ vs) (suc k) l a (also p b) e = absurd (p (sym (ap (λ (x : List ℕ). get_or x 0 0) e)))
cut_same (u ∷ us) [] k zero a b e = absurd (omega (arith, ap length e))
cut_same (u ∷ us) [] k (suc l) (also p a) b e = absurd (p (ap (λ (x : List ℕ). get_or x 0 0) e))
cut_same (u ∷ us) (v ∷ vs) k l (also p a) (also q b) e =
    let r = cut_same us vs k l a b (ap (drop 1) e) in (same_cons (ap (λ (x : List ℕ). get_or x 0 0) e) r.0, r.1)

abbrev zeros : ℕ → List ℕ
zeros k = replicate k 0

pub encodes_same : {ds bs cs : List ℕ} → Octets bs → Octets cs → Encodes ds bs → Encodes ds cs → bs ≡ cs
encodes_same {ds} {bs} {cs} o p m n =
    let r = cut_same (map character m.groups) (map character n.groups) m.padding n.padding (no_pads m.six_bits) (no_pads n.six_bits) (sym m.characters_are ∙ n.characters_are) in
    let g : m.groups ≡ n.groups = sym (values_again m.six_bits) ∙ ap (map sextet) r.0 ∙ values_again n.six_bits in
    let e : expand 8 bs ++ replicate (2 * m.padding) 0 ≡ expand 8 cs ++ replicate (2 * n.padding) 0 = sym m.bits_are ∙ ap (expand 6) g ∙ n.bits_are in
    let l = ap (λ (x : ℕ). length (zeros (2 * x))) r.1 in
    expand_same 8 (omega arith) bs cs o p (ends_same (expand 8 bs) (expand 8 cs) l e).0

-- fewer than the characters
pub encodes_short : {ds bs : List ℕ} → Encodes ds bs → length bs ≤ length ds
encodes_short {ds} {bs} n =
    let k = n.padding in
    omega (
      arith,
      length-append (expand 8 bs) (replicate (2 * k) 0),
      ap length n.bits_are,
      expand_length 8 bs,
      expand_length 6 n.groups,
      length-append (map character n.groups) (replicate k (byte_of "=")),
      ap length n.characters_are,
      length-map n.groups character,
    )
