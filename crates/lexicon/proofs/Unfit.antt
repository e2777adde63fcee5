-- Blobs without bytes: in base 64 exactly those with bad characters (specs/Padding.antt: `BadBase64`), in base 2 and 16 none. Assumes nothing.
use mathlib.Core.Path.{◌≡◌, refl, sym, ap, subst, ◌∙◌}
use mathlib.Core.Logic.{◌⊎◌, inl, inr}
use mathlib.Core.Bool.{Bool, cond}
use mathlib.Core.List.{List, [], ◌∷◌, ◌++◌, append_assoc}
use Prim.Native.Nat.{ℕ, zero, suc, ◌+◌, ◌*◌, ◌%◌, ◌^◌, ◌≤◌}
use native.Mathlib.Decide.{ℕ_discrete, dec_le}
use native.Mathlib.Nat.{mod-lt, mod-eq_of_lt, one-le-pow}
use native.Mathlib.Omega.{arith}
use borrow.Author.Tests.{ne_eqb}
use lib.Dec.{eqb}
use lib.ListN.{length, length-append, replicate, get_or, drop}
use Rattle.rules.specs.Class.{byte_of, In}
use Rattle.rules.specs.Test.{Says}
use Rattle.rules.specs.Every.{Every, none, also}
use Rattle.rules.specs.Rule.{Takes, left, right}
use Rattle.rules.proofs.Every.{every_first, every_rest}
use Rattle.lexicon.specs.Bytes.{binary, hexadecimal, base64}
use Rattle.lexicon.specs.Expansion.{bits_of}
use Rattle.lexicon.specs.Base64.{character}
use Rattle.lexicon.specs.Literals.{blob}
use Rattle.lexicon.specs.Values.{Behind, BlobOf}
use Rattle.lexicon.specs.Bad.{NoBytes}
use Rattle.lexicon.specs.Padding.{pads, BadBase64, not_at_end, more_than_two, no_multiple_of_four, bits_left}
use Rattle.lexicon.specs.Parts.{sextet}
use Rattle.lexicon.proofs.Fit.{last_from, Fit}
use Rattle.lexicon.proofs.Expansions.{same_cons, every_parts, Last, last_of, power_positive, bits_value, bits_zero, last_bits}
use Rattle.lexicon.proofs.Sextets.{sextet_character, character_no_pad, sextet_small, character_sextet}
use Rattle.lexicon.proofs.Encodings.{NoPad, power, last_value, cut_same}
use Rattle.lexicon.proofs.Paddings.{run, unfit, unfit_says}
use Rattle.lexicon.proofs.Contents.{behind_in, behind_whole, has_digits, has_binary, has_hexadecimal, has_base64, blob_fit}

abbrev padded : List ℕ → ℕ → List ℕ
padded cs k = cs ++ replicate k (byte_of "=")

-- ---- the lowest bits

-- they are zero where the number divides
low_zero : (k v : ℕ) → v % 2 ^ k ≡ 0 → bits_of k v ≡ replicate k 0
low_zero k v e = sym (last_bits k v) ∙ ap (bits_of k) e ∙ bits_zero k

zero_low : (k v : ℕ) → bits_of k v ≡ replicate k 0 → v % 2 ^ k ≡ 0
zero_low k v e = bits_value k (v % 2 ^ k) 0 (mod-lt v (power_positive k)) (power_positive k) (last_bits k v ∙ e ∙ sym (bits_zero k))

-- ---- bad characters are not fit

all_pads : (k : ℕ) → Every (λ d. d ≡ byte_of "=") (replicate k (byte_of "="))
all_pads zero = none
all_pads (suc k) = also refl (all_pads k)

no_character_behind : (cs front middle back : List ℕ) (d k : ℕ) → Every NoPad cs → NoPad d → padded cs k ≡ front ++ (byte_of "=" ∷ middle ++ (d ∷ back)) → ⊥
no_character_behind [] front middle back d k n f e =
    let behind = every_rest (every_parts front (subst (Every (λ c. c ≡ byte_of "=")) e (all_pads k))).1 in
    f (every_first (every_parts middle behind).1)
no_character_behind (c ∷ cs) [] middle back d k (also p n) f e = p (ap (λ (l : List ℕ). get_or l 0 0) e)
no_character_behind (c ∷ cs) (b ∷ front) middle back d k (also p n) f e = no_character_behind cs front middle back d k n f (ap (drop 1) e)

pads_count : (cs : List ℕ) (k : ℕ) → Every NoPad cs → pads (padded cs k) ≡ k
pads_count [] zero n = refl
pads_count [] (suc k) n = omega (arith, pads_count [] k n)
pads_count (c ∷ cs) k (also p n) =
    ap (λ (b : Bool). cond b 1 0 + pads (padded cs k)) (ne_eqb c (byte_of "=") p) ∙ omega (arith, pads_count cs k n)

-- where the `=` begin
cut_last : (us cs : List ℕ) (c k p : ℕ) → Every NoPad us → NoPad c → padded us k ≡ cs ++ (c ∷ replicate p (byte_of "=")) → (us ≡ cs ++ (c ∷ [])) × (k ≡ p)
cut_last [] [] c zero p n h e = absurd (omega (arith, ap length e))
cut_last [] [] c (suc k) p n h e = absurd (h (sym (ap (λ (l : List ℕ). get_or l 0 0) e)))
cut_last [] (d ∷ cs) c zero p n h e = absurd (omega (arith, ap length e))
cut_last [] (d ∷ cs) c (suc k) p n h e =
    let r = cut_last [] cs c k p n h (ap (drop 1) e) in absurd (omega (arith, ap length r.0, length-append cs (c ∷ [])))
cut_last (u ∷ us) [] c k p (also q n) h e =
    let r = cut_same us [] k p n none (ap (drop 1) e) in (same_cons (ap (λ (l : List ℕ). get_or l 0 0) e) r.0, r.1)
cut_last (u ∷ us) (d ∷ cs) c k p (also q n) h e =
    let r = cut_last us cs c k p n h (ap (drop 1) e) in (same_cons (ap (λ (l : List ℕ). get_or l 0 0) e) r.0, r.1)

-- digits behind a mark come in fours
bad_not_fit : {ds : List ℕ} → (length ds % 4 ≡ 0) → Fit ds → BadBase64 ds → ⊥
bad_not_fit w f (not_at_end front middle back d n e) = no_character_behind f.characters front middle back d f.padding f.no_pad n (sym f.are ∙ e)
bad_not_fit w f (more_than_two h) = omega (arith, h, ap pads f.are, pads_count f.characters f.padding f.no_pad, f.at_most_two)
bad_not_fit w f (no_multiple_of_four n) = n w
bad_not_fit w f (bits_left front last k h e not_zero) =
    let c = character last in
    let r = cut_last f.characters front c f.padding k f.no_pad (character_no_pad h) (sym f.are ∙ e) in
    let v : last_from 0 f.characters ≡ last = last_value (record { front = front; last = c; are = r.0 }) ∙ sextet_character h in
    let p : 2 ^ (2 * k) ≡ 4 ^ f.padding = ap (λ (m : ℕ). 2 ^ (2 * m)) (sym r.1) ∙ sym (power f.padding f.at_most_two) in
    let z : last % 2 ^ (2 * k) ≡ 0 = ap (λ (m : ℕ). last % m) p ∙ ap (λ (x : ℕ). x % 4 ^ f.padding) (sym v) ∙ f.left_over in
    not_zero (low_zero (2 * k) last z)

-- ---- and characters that are not fit are bad

-- a character other than `=` among them
record Other (ds : List ℕ) : Type 0 where
  front : List ℕ
  back : List ℕ
  character : ℕ
  no_pad : NoPad character
  are : ds ≡ front ++ (character ∷ back)

pads_or_other : (ds : List ℕ) → ((k : ℕ) × (ds ≡ replicate k (byte_of "="))) ⊎ Other ds
pads_or_other [] = inl (0, refl)
pads_or_other (d ∷ ds) = go (ℕ_discrete d (byte_of "=")) (pads_or_other ds)
  where
    go : Dec (d ≡ byte_of "=") → ((k : ℕ) × (ds ≡ replicate k (byte_of "="))) ⊎ Other ds → ((k : ℕ) × (d ∷ ds ≡ replicate k (byte_of "="))) ⊎ Other (d ∷ ds)
    go (no f) r = inr (record { front = []; back = ds; character = d; no_pad = f; are = refl })
    go (yes e) (inr o) = inr (record { front = d ∷ o.front; back = o.back; character = o.character; no_pad = o.no_pad; are = same_cons refl o.are })
    go (yes e) (inl r) = inl (suc r.0, same_cons e r.1)

-- characters, and then nothing but `=`, or a `=` and another character behind it
record Cut (ds : List ℕ) : Type 0 where
  characters : List ℕ
  rest : List ℕ
  are : ds ≡ characters ++ rest
  no_pad : Every NoPad characters
  pads_are : ((k : ℕ) × (rest ≡ replicate k (byte_of "="))) ⊎ ((tail : List ℕ) × (rest ≡ byte_of "=" ∷ tail) × Other tail)

cut : (ds : List ℕ) → Cut ds
cut [] = record { characters = []; rest = []; are = refl; no_pad = none; pads_are = inl (0, refl) }
cut (d ∷ ds) = go (ℕ_discrete d (byte_of "=")) (cut ds) (pads_or_other ds)
  where
    go : Dec (d ≡ byte_of "=") → Cut ds → ((k : ℕ) × (ds ≡ replicate k (byte_of "="))) ⊎ Other ds → Cut (d ∷ ds)
    go (no f) c r = record { characters = d ∷ c.characters; rest = c.rest; are = same_cons refl c.are; no_pad = also f c.no_pad; pads_are = c.pads_are }
    go (yes e) c (inl r) = record { characters = []; rest = d ∷ ds; are = refl; no_pad = none; pads_are = inl (suc r.0, same_cons e r.1) }
    go (yes e) c (inr o) = record { characters = []; rest = d ∷ ds; are = refl; no_pad = none; pads_are = inr (ds, same_cons e refl, o) }

fit_or_bad : (ds : List ℕ) → Every (In base64) ds → Fit ds ⊎ BadBase64 ds
fit_or_bad ds i = go (cut ds)
  where
    left_over : (k : ℕ) (cs : List ℕ) → k ≤ 2 → ds ≡ padded cs k → Every NoPad cs → (last_from 0 cs % 4 ^ k ≡ 0 → ⊥) → BadBase64 ds
    left_over k [] h e n f = absurd (f (mod-eq_of_lt (one-le-pow k 4 (omega arith))))
    left_over k (c ∷ cs) h e n f = last (last_of (c ∷ cs) (omega arith))
      where
        last : Last (c ∷ cs) → BadBase64 ds
        last l =
            let us = l.front in
            let p = every_first (every_parts us (subst (Every NoPad) l.are n)).1 in
            let j = every_first (every_parts us (subst (Every (In base64)) l.are (every_parts (c ∷ cs) (subst (Every (In base64)) e i)).0)).1 in
            bits_left us (sextet l.last) k (sextet_small j p)
            (e ∙ ap (λ (x : List ℕ). padded x k) l.are ∙ append_assoc us (l.last ∷ []) (replicate k (byte_of "="))
            ∙ ap (λ (x : ℕ). us ++ (x ∷ replicate k (byte_of "="))) (sym (character_sextet j p)))
            (λ z. f (ap (λ (m : ℕ). last_from 0 (c ∷ cs) % m) (power k h) ∙ ap (λ (x : ℕ). x % 2 ^ (2 * k)) (last_value l) ∙ zero_low (2 * k) (sextet l.last) z))

    padding : (cs : List ℕ) (k : ℕ) → ds ≡ padded cs k → Every NoPad cs → Dec (k ≤ 2) → Dec (last_from 0 cs % 4 ^ k ≡ 0) → Fit ds ⊎ BadBase64 ds
    padding cs k e n (no h) z = inr (more_than_two (omega (arith, h, ap pads e, pads_count cs k n)))
    padding cs k e n (yes h) (yes z) = inl (record { characters = cs; padding = k; are = e; no_pad = n; at_most_two = h; left_over = z })
    padding cs k e n (yes h) (no z) = inr (left_over k cs h e n z)

    go : Cut ds → Fit ds ⊎ BadBase64 ds
    go c = by c.pads_are
      where
        by : ((k : ℕ) × (c.rest ≡ replicate k (byte_of "="))) ⊎ ((tail : List ℕ) × (c.rest ≡ byte_of "=" ∷ tail) × Other tail) → Fit ds ⊎ BadBase64 ds
        by (inl (k, e)) =
            padding c.characters k (c.are ∙ ap (λ (l : List ℕ). c.characters ++ l) e) c.no_pad (dec_le k 2) (ℕ_discrete (last_from 0 c.characters % 4 ^ k) 0)
        by (inr (tail, e, o)) =
            inr (not_at_end c.characters o.front o.back o.character o.no_pad (c.are ∙ ap (λ (l : List ℕ). c.characters ++ l) (e ∙ ap (λ (l : List ℕ). byte_of "=" ∷ l) o.are)))

-- ---- literals

module _ {text : List ℕ} {i j : ℕ} {ds : List ℕ} where
  -- in base 64
  pub unfit_no_bytes : Behind text "0xy" 4 base64 i j ds → (Fit ds → ⊥) → NoBytes text i j
  unfit_no_bytes x f bs y = f (blob_fit text x y)

  pub no_bytes_unfit : Behind text "0xy" 4 base64 i j ds → NoBytes text i j → Fit ds → ⊥
  no_bytes_unfit x n f = let r = has_base64 text x f in n r.0 r.1

  -- as the padding's machine says
  pub state_says : Behind text "0xy" 4 base64 i j ds → Says (eqb (run 0 ds) unfit) (NoBytes text i j)
  state_says x = record { true_holds = λ e. unfit_no_bytes x ((unfit_says ds).true_holds e); holds_true = λ n. (unfit_says ds).holds_true (no_bytes_unfit x n) }

  -- and in the words of the requests
  pub bad_no_bytes : Behind text "0xy" 4 base64 i j ds → BadBase64 ds → NoBytes text i j
  bad_no_bytes x b = unfit_no_bytes x (λ f. bad_not_fit (omega (arith, (behind_whole "0xy" 4 base64 x).1)) f b)

  pub no_bytes_bad : Behind text "0xy" 4 base64 i j ds → NoBytes text i j → BadBase64 ds
  no_bytes_bad x n = go (fit_or_bad ds (behind_in "0xy" 4 base64 x))
    where
      go : Fit ds ⊎ BadBase64 ds → BadBase64 ds
      go (inl f) = absurd (no_bytes_unfit x n f)
      go (inr b) = b

  -- in the others
  pub binary_bytes : Behind text "0xb" 8 binary i j ds → NoBytes text i j → ⊥
  binary_bytes x n = let r = has_binary text x in n r.0 r.1

  pub hexadecimal_bytes : Behind text "0xx" 2 hexadecimal i j ds → NoBytes text i j → ⊥
  hexadecimal_bytes x n = let r = has_hexadecimal text x in n r.0 r.1

module _ (text : List ℕ) {i j : ℕ} where
  -- so of all Blobs
  pub no_bytes_only : Takes text blob i j → NoBytes text i j → (ds : List ℕ) × Behind text "0xy" 4 base64 i j ds × BadBase64 ds
  no_bytes_only (left t) n = absurd (binary_bytes (has_digits "0xb" 8 binary t).1 n)
  no_bytes_only (right (left t)) n = absurd (hexadecimal_bytes (has_digits "0xx" 2 hexadecimal t).1 n)
  no_bytes_only (right (right t)) n = let r = has_digits "0xy" 4 base64 t in (r.0, r.1, no_bytes_bad r.1 n)

  pub bytes_or_none : Takes text blob i j → ((bs : List ℕ) × BlobOf text i j bs) ⊎ NoBytes text i j
  bytes_or_none (left t) = inl (has_binary text (has_digits "0xb" 8 binary t).1)
  bytes_or_none (right (left t)) = inl (has_hexadecimal text (has_digits "0xx" 2 hexadecimal t).1)
  bytes_or_none (right (right t)) = let r = has_digits "0xy" 4 base64 t in go r.1 (fit_or_bad r.0 (behind_in "0xy" 4 base64 r.1))
    where
      go : {ds : List ℕ} → Behind text "0xy" 4 base64 i j ds → Fit ds ⊎ BadBase64 ds → ((bs : List ℕ) × BlobOf text i j bs) ⊎ NoBytes text i j
      go x (inl f) = inl (has_base64 text x f)
      go x (inr b) = inr (bad_no_bytes x b)
