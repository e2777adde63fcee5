-- A character inside quotes, by its first byte: ASCII, C2, or that of another well-formed sequence. Assumes nothing.
use mathlib.Core.Path.{◌≡◌, refl, sym, ap, subst, subst⁻¹, ◌∙◌}
use mathlib.Core.Bool.{Bool, true, false}
use mathlib.Core.List.{List, [], ◌∷◌}
use Prim.Native.Nat.{ℕ, ◌+◌, ◌≤◌, ◌<◌}
use native.Mathlib.Omega.{arith}
use lib.ListN.{length, get_or}
use Rattle.rules.specs.Test.{Says}
use Rattle.rules.specs.Class.{Class, ◌upto◌, has, just}
use Rattle.rules.specs.Rule.{one, many, Takes, byte, both, left, right, Longest, Fails}
use Rattle.rules.proofs.Chains.{join, snoc, longest}
use Rattle.rules.proofs.Classes.{apart, apart_span, includes, in_some, includes_in, in_first_lem, low_in, in_high}
use Rattle.rules.proofs.Matches.{byte_at, byte_end, ending}
use Rattle.rules.proofs.Ways.{never, never_takes}
use Rattle.lexicon.specs.Literals.{plain_byte, above9_f, unescaped}
use Rattle.lexicon.proofs.Spaces.{byte_single}
use Rattle.lexicon.specs.Utf8.{range, beyond, sequence}
use Rattle.text.proofs.Ranges.{byte_is}
use Rattle.text.proofs.Searches.{found}
use Rattle.rules.proofs.Bools.{clash}
use Rattle.rules.proofs.Tests.{refuted, says_no}
use Rattle.rules.proofs.Closed.{agree}
use Rattle.std.proofs.Common.{Option, Some, None, Bor}
use Rattle.std.specs.Bool.{then_some}
use Rattle.std.specs.Option.{MatchOption}
use Rattle.std.specs.Slice.{IsItemAt}
use Rattle.text.proofs.Gets.{got, not_got}
use Rattle.lexicon.specs.Found.{Finds}
use Rattle.string.proofs.Items.{unescaped_single}

ascii_above : never (0x00 upto 0x7F ∷ []) above9_f ≡ true
unfolding never apart apart_span
ascii_above = refl

plain_C2 : never (just 0xC2) (one plain_byte) ≡ true
unfolding never apart apart_span
plain_C2 = refl

beyond_C2 : never (just 0xC2) (beyond 0xC3) ≡ true
unfolding never apart apart_span
beyond_C2 = refl

module _ {text : List ℕ} where
  widen : (c d : Class) → includes c d ≡ true → {i j : ℕ} → Takes text (one c) i j → Takes text (one d) i j
  widen c d w {i} (byte a e) = byte (a.0, includes_in c d (get_or text i 0) w a.1) e

  -- ---- a byte that may stand, or none

  pub plain_said : (i : ℕ) (r : Option (Bor ℕ)) (o : Bool) → IsItemAt text i r → MatchOption r (o ≡ false) (λ x. o ≡ has plain_byte x.now) → Says o (Takes text (one plain_byte) i (i + 1))
  plain_said i None o g t = subst⁻¹ (λ (b : Bool). Says b (Takes text (one plain_byte) i (i + 1))) t (says_no (λ u. omega (arith, not_got text i g, (byte_at u).0)))
  plain_said i (Some x) o g t =
      let f = got text i x g in
      record {
        true_holds = λ e. byte (f.0, ap (has plain_byte) (sym f.1) ∙ sym t ∙ e) refl;
        holds_true = λ u. t ∙ ap (has plain_byte) f.1 ∙ (byte_at u).1;
      }

  -- behind C2 the second byte decides
  second_byte : {i j : ℕ} → Takes text (one (just 0xC2)) i (i + 1) → Takes text unescaped i j → Takes text (range 0xA0 0xBF) (i + 1) j
  second_byte a (left t) = absurd (never_takes text (just 0xC2) (one plain_byte) plain_C2 (byte_at a) t)
  second_byte {i} {j} a (right (left (both t u))) = subst (λ (x : ℕ). Takes text (range 0xA0 0xBF) x j) (byte_end t) u
  second_byte a (right (right t)) = absurd (never_takes text (just 0xC2) (beyond 0xC3) beyond_C2 (byte_at a) t)

  -- from any other byte above 7F a character is a sequence
  to_sequence : {i j : ℕ} → Takes text unescaped i j → Takes text sequence i j
  unfolding includes in_some
  to_sequence (left t) = left (widen plain_byte (0x00 upto 0x7F ∷ []) refl t)
  to_sequence (right (left (both t u))) = right (left (both (widen (just 0xC2) (0xC2 upto 0xDF ∷ []) refl t) (widen (0xA0 upto 0xBF ∷ []) (0x80 upto 0xBF ∷ []) refl u)))
  to_sequence (right (right (left (both t u)))) = right (left (both (widen (0xC3 upto 0xDF ∷ []) (0xC2 upto 0xDF ∷ []) refl t) u))
  to_sequence (right (right (right t))) = right (right t)

  of_sequence : {i j : ℕ} → 0x80 ≤ get_or text i 0 → (get_or text i 0 ≡ 0xC2 → ⊥) → Takes text sequence i j → Takes text unescaped i j
  of_sequence {i} l n (left (byte a e)) = absurd (omega (arith, in_high 0x00 0x7F (get_or text i 0) a.1))
  of_sequence {i} l n (right (left (both (byte a e) u))) =
      let y = low_in 0xC2 0xDF (get_or text i 0) a.1 in
      let z = in_high 0xC2 0xDF (get_or text i 0) a.1 in
      right (right (left (both (byte (a.0, in_first_lem 0xC3 0xDF [] (get_or text i 0) (omega (arith, n)) z) e) u)))
  of_sequence l n (right (right t)) = right (right (right t))

-- ---- plain bytes, and those behind them

pub runs_on : (text : List ℕ) {i j k : ℕ} → Takes text (many (one plain_byte)) i j → Longest text (many (one plain_byte)) j k → Longest text (many (one plain_byte)) i k
runs_on text u l = longest (byte_single plain_byte) (join u l.takes) (ends_run l)
  where
    ends_run : {j k : ℕ} → Longest text (many (one plain_byte)) j k → Fails text (one plain_byte) k
    ends_run l = record { none = λ t. omega (arith, l.most (snoc l.takes t), byte_end t) }

-- ---- the ways out of `character`, by the first byte

module _ (text : List ℕ) where
  pub ascii_found : (i : ℕ) {o : Bool} → i < length text → get_or text i 0 < 0x80 → o ≡ has plain_byte (get_or text i 0) → Finds text unescaped i (then_some o (i + 1))
  ascii_found i {o = true} h l e = agree unescaped_single (left (byte (h, sym e) refl))
  ascii_found i {o = false} h l e = record { none = go }
    where
      go : {j : ℕ} → Takes text unescaped i j → ⊥
      go (left t) = clash (byte_at t).1 (sym e)
      go (right t) = never_takes text (0x00 upto 0x7F ∷ []) above9_f ascii_above (h, in_first_lem 0x00 0x7F [] (get_or text i 0) (omega arith) (omega arith)) t

  pub found_C2 : (i : ℕ) {o : Bool} → i < length text → get_or text i 0 ≡ 0xC2 → Says o (Takes text (range 0xA0 0xBF) (i + 1) (i + 1 + 1)) → Finds text unescaped i (then_some o (i + 2))
  found_C2 i {o = true} h e s = agree unescaped_single (right (left (both (byte_is 0xC2 i h e) (ending (omega arith) (s.true_holds refl)))))
  found_C2 i {o = false} h e s = record { none = λ t. go (second_byte (byte_is 0xC2 i h e) t) }
    where
      go : {j : ℕ} → Takes text (range 0xA0 0xBF) (i + 1) j → ⊥
      go t = refuted s refl (byte (byte_at t) refl)

  pub other : (i : ℕ) (r : Option ℕ) → 0x80 ≤ get_or text i 0 → (get_or text i 0 ≡ 0xC2 → ⊥) → Finds text sequence i r → Finds text unescaped i r
  other i r l n f = found r (record { there = to_sequence; back = of_sequence l n }) f
