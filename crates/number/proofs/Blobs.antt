-- Bits and Blobs: the digits behind a mark, the choice between the marks, and what the padding tells. Assumes nothing.
use mathlib.Core.Path.{◌≡◌, refl, sym, ap, subst, subst⁻¹, ◌∙◌}
use mathlib.Core.Bool.{Bool, true, false}
use mathlib.Core.List.{List, [], ◌∷◌, foldl}
use Prim.Native.Nat.{ℕ, suc, ◌+◌, ◌≤◌}
use Prim.Native.String.{String}
use native.Mathlib.Omega.{arith}
use lib.Dec.{eqb}
use lib.ListN.{length}
use Rattle.rules.specs.Test.{Says}
use Rattle.rules.specs.Class.{just}
use Rattle.rules.specs.Rule.{Rule, one, ◌then◌, ◌or◌, opt, row, lit, Takes, At, nothing, byte, both, left, right, Longest, Fails}
use Rattle.rules.proofs.Classes.{apart, apart_span, is_just, just_is}
use Rattle.rules.proofs.Matches.{starting, ending, forward, row_end, move_at}
use Rattle.rules.proofs.Tests.{says_no, not_there}
use Rattle.rules.proofs.Ways.{covers, covers_all}
use Rattle.lexicon.specs.declared.Base.TheVariants.{Two, Eight, Sixteen}
use Rattle.lexicon.specs.declared.Set.{Set}
use Rattle.lexicon.specs.declared.Set.TheVariants.{Binary, Octal, Hexadecimal, Base64}
use Rattle.lexicon.specs.Bytes.{members, base64}
use Rattle.lexicon.specs.Space.{sp, Skips}
use Rattle.lexicon.specs.Literals.{maybe, bits, blob}
use Rattle.lexicon.specs.Values.{Digits, Behind, mark_alone, mark_digits}
use Rattle.lexicon.specs.Bad.{NoBytes}
use Rattle.std.proofs.Common.{Option, Some, None, Bor}
use Rattle.std.specs.Option.{option_copied}
use Rattle.std.specs.Slice.{IsItemAt}
use Rattle.text.proofs.Gets.{got, not_got}
use Rattle.lexicon.specs.Found.{Judges}
use Rattle.lexicon.proofs.Spaces.{skips_same, landed}
use Rattle.lexicon.proofs.Groups.{Clear, digits_most, digits_at, digits_unit, digits_forward, to_row, of_row}
use Rattle.lexicon.proofs.Numbers.{clear, clear_base64}
use Rattle.lexicon.proofs.Unfit.{state_says, binary_bytes, hexadecimal_bytes}
use Rattle.lexicon.proofs.Paddings.{unfit}
use Rattle.number.specs.declared.padding.Padding.{Padding}
use Rattle.number.specs.declared.padding.Padding.TheVariants.{Start}
use Rattle.number.specs.Padding.{code_of, next_of, unfit_of}
use Rattle.number.proofs.Sums.{code_run}
use Rattle.number.specs.Blob.{Marked, TailOf, digits_stand, none_stand}

-- ---- the digits behind a mark

module _ (text : List ℕ) (set : Set) (m : ℕ) (cl : Clear (members set)) where
  -- a row behind dividing space begins where the space ends
  row_start : {i g k j : ℕ} {ds : List ℕ} → Skips text i g → Takes text (opt sp) i k → Digits text (suc m) (members set) k j ds → k ≡ g
  row_start s t d = skips_same (landed (members set) cl.no_blank t (digits_at text m (members set) cl d)) s

  row_behind : {i g k j : ℕ} {ds : List ℕ} → Skips text i g → Takes text (opt sp) i k → Digits text (suc m) (members set) k j ds → Digits text (suc m) (members set) g j ds
  row_behind {j = j} {ds = ds} s t d = subst (λ (x : ℕ). Digits text (suc m) (members set) x j ds) (row_start s t d) d

  pub tail_longest : {S : Type 0} (more : S → ℕ → S) (start : S) {i j : ℕ} {s : S} → TailOf more start text set (suc m) i j s → Longest text (maybe (suc m) (members set)) i j
  tail_longest more start {i} (digits_stand {g} {j} s r) = record { takes = left (both s.takes (of_row text (suc m) (members set) r.row.digits_are)); most = most }
    where
      most : {k : ℕ} → Takes text (maybe (suc m) (members set)) i k → k ≤ j
      most (left (both t u)) =
          digits_most text m (members set) cl r.row.digits_are r.ended (row_behind s t (to_row text (suc m) (members set) u).1)
      most (right (nothing e)) = let a = forward s.takes in let b = digits_forward r.row.digits_are in omega arith
  tail_longest more start {i} (none_stand {g} s f) = record { takes = right (nothing refl); most = most }
    where
      most : {k : ℕ} → Takes text (maybe (suc m) (members set)) i k → k ≤ i
      most (left (both t u)) = absurd (f.none (digits_unit (row_behind s t (to_row text (suc m) (members set) u).1)).1)
      most (right (nothing e)) = omega arith

-- ---- behind a mark of three bytes

module _ (text : List ℕ) (ps : List ℕ) (r : Rule) where
  pub behind_mark_lem : {i j : ℕ} → Takes text (row ps) i (i + length ps) → Longest text r (i + length ps) j → Longest text (row ps then r) i j
  behind_mark_lem {i} {j} t l = record { takes = both t l.takes; most = most }
    where
      most : {k : ℕ} → Takes text (row ps then r) i k → k ≤ j
      most (both u v) = l.most (starting (row_end ps u) v)

  pub no_mark_lem : {i k : ℕ} → (Takes text (row ps) i (i + length ps) → ⊥) → Takes text (row ps then r) i k → ⊥
  no_mark_lem n (both u v) = n (ending (row_end ps u) u)

-- a literal of a mark
abbrev part : ℕ → ℕ → ℕ → Set → Rule
part b c n set = row (0x30 ∷ b ∷ c ∷ []) then maybe n (members set)

-- ---- one of three, where no match of the others reaches further

module _ (text : List ℕ) (a b c : Rule) where
  pub first_of : {i j : ℕ} → covers 4 a b ≡ true → covers 4 a c ≡ true → Longest text a i j → Longest text (a or b or c) i j
  first_of {i} {j} p q l = record { takes = left l.takes; most = most }
    where
      most : {k : ℕ} → Takes text (a or b or c) i k → k ≤ j
      most (left t) = l.most t
      most (right (left t)) = covers_all text 4 a b p l.takes t
      most (right (right t)) = covers_all text 4 a c q l.takes t

  pub second_of : {i j : ℕ} → covers 4 b a ≡ true → covers 4 b c ≡ true → Longest text b i j → Longest text (a or b or c) i j
  second_of {i} {j} p q l = record { takes = right (left l.takes); most = most }
    where
      most : {k : ℕ} → Takes text (a or b or c) i k → k ≤ j
      most (left t) = covers_all text 4 b a p l.takes t
      most (right (left t)) = l.most t
      most (right (right t)) = covers_all text 4 b c q l.takes t

  pub third_of : {i j : ℕ} → covers 4 c a ≡ true → covers 4 c b ≡ true → Longest text c i j → Longest text (a or b or c) i j
  third_of {i} {j} p q l = record { takes = right (right l.takes); most = most }
    where
      most : {k : ℕ} → Takes text (a or b or c) i k → k ≤ j
      most (left t) = covers_all text 4 c a p l.takes t
      most (right (left t)) = covers_all text 4 c b q l.takes t
      most (right (right t)) = l.most t

  pub none_of : {i : ℕ} → ((k : ℕ) → Takes text a i k → ⊥) → ((k : ℕ) → Takes text b i k → ⊥) → ((k : ℕ) → Takes text c i k → ⊥) → Fails text (a or b or c) i
  none_of {i} f g h = record { none = go }
    where
      go : {k : ℕ} → Takes text (a or b or c) i k → ⊥
      go {k} (left t) = f k t
      go {k} (right (left t)) = g k t
      go {k} (right (right t)) = h k t

-- ---- a Blob's digits, and how they are judged

module _ (text : List ℕ) where
  -- the digits behind a mark, with the sum over them
  tail_behind : {S : Type 0} (more : S → ℕ → S) (start : S) (mark : String) (n : ℕ) (set : Set) {i j : ℕ} {s : S} → Takes text (lit mark) i (i + 3) → TailOf more start text set n (i + 3) j s →
      (ds : List ℕ) × Behind text mark n (members set) i j ds × (s ≡ foldl more start ds)
  tail_behind more start mark n set t (digits_stand k r) = (r.row.bytes, mark_digits (both t k.takes) r.row.digits_are, r.row.sum_is)
  tail_behind more start mark n set t (none_stand k f) = ([], mark_alone t, refl)

  judged : {i j : ℕ} {s : Padding} {o : Bool} {ds : List ℕ} → Behind text "0xy" 4 base64 i j ds → s ≡ foldl next_of Start ds → o ≡ unfit_of s → Says o (NoBytes text i j)
  judged {i} {j} {s} {ds = ds} x e f =
      subst⁻¹ (λ (b : Bool). Says b (NoBytes text i j)) (f ∙ ap (λ (k : ℕ). eqb k unfit) (ap code_of e ∙ code_run Start ds)) (state_says x)

-- ---- the marks

module _ (text : List ℕ) where
  -- a mark, byte by byte
  pub mark_none_1 : {i : ℕ} (b : ℕ) {o : Bool} → Says o (Takes text (one (just 0x30)) i (i + 1)) → o ≡ false → Marked text i b None
  mark_none_1 {i} b s e c t = go t
    where
      go : Takes text (row (0x30 ∷ b ∷ c ∷ [])) i (i + 3) → ⊥
      go (both (byte x f) t) = not_there s e x

  pub mark_none_2 : {i : ℕ} (b : ℕ) {o : Bool} → Says o (Takes text (one (just b)) (i + 1) (i + 1 + 1)) → o ≡ false → Marked text i b None
  mark_none_2 {i} b s e c t = go t
    where
      go : Takes text (row (0x30 ∷ b ∷ c ∷ [])) i (i + 3) → ⊥
      go (both (byte x f) (both (byte y g) t)) = not_there s e (move_at text (just b) f y)

  third_at : (i b c : ℕ) → Takes text (row (0x30 ∷ b ∷ c ∷ [])) i (i + 3) → At text (just c) (i + 2)
  third_at i b c (both (byte x f) (both (byte y g) (byte {i = k} z h))) = let m : k ≡ i + 2 = omega arith in move_at text (just c) m z

  pub mark_told : {i : ℕ} (b : ℕ) {p q : Bool} → Says p (Takes text (one (just 0x30)) i (i + 1)) → p ≡ true → Says q (Takes text (one (just b)) (i + 1) (i + 1 + 1)) → q ≡ true →
      (r : Option (Bor ℕ)) → IsItemAt text (i + 2) r → Marked text i b (option_copied r)
  mark_told {i} b s d t e None u = λ c v. let h = not_got text (i + 2) u in omega (arith, (third_at i b c v).0)
  mark_told {i} b s d t e (Some x) u =
      let g = got text (i + 2) x u in
      let m : i + 2 ≡ i + 1 + 1 = omega arith in
      both (s.true_holds d) (both (t.true_holds e) (starting m (byte (g.0, is_just x.now _ (sym g.1)) (omega arith))))

  pub mark_within : {i b c : ℕ} → Takes text (row (0x30 ∷ b ∷ c ∷ [])) i (i + 3) → i + 3 ≤ length text
  mark_within {i} {b} {c} t = let a = (third_at i b c t).0 in omega arith

  pub one_third : {i b c d : ℕ} → Takes text (row (0x30 ∷ b ∷ c ∷ [])) i (i + 3) → Takes text (row (0x30 ∷ b ∷ d ∷ [])) i (i + 3) → c ≡ d
  one_third {i} {b} {c} {d} t u = sym (just_is c _ (third_at i b c t).1) ∙ just_is d _ (third_at i b d u).1

  -- ---- the literals

  abbrev Mark : ℕ → ℕ → ℕ → Type 0
  Mark b c i = Takes text (row (0x30 ∷ b ∷ c ∷ [])) i (i + 3)

  -- a mark's literal, from the mark and the digits behind it
  whole : (b c m : ℕ) (set : Set) → Clear (members set) → {S : Type 0} (more : S → ℕ → S) (start : S) {i j : ℕ} {s : S} → Mark b c i → TailOf more start text set (suc m) (i + 3) j s → Longest text (part b c (suc m) set) i j
  whole b c m set cl more start t d = behind_mark_lem text (0x30 ∷ b ∷ c ∷ []) (maybe (suc m) (members set)) t (tail_longest text set m cl more start d)

  -- and none without it
  lacks : (b c n : ℕ) (set : Set) {i : ℕ} → (Mark b c i → ⊥) → (k : ℕ) → Takes text (part b c n set) i k → ⊥
  lacks b c n set m k t = no_mark_lem text (0x30 ∷ b ∷ c ∷ []) (maybe n (members set)) m t

  pub bits_binary : {S : Type 0} (more : S → ℕ → S) (start : S) {i j : ℕ} {s : S} → Mark 0x62 0x62 i → TailOf more start text Binary 1 (i + 3) j s → Longest text bits i j
  unfolding covers apart apart_span
  bits_binary more start t d = first_of text (part 0x62 0x62 1 Binary) (part 0x62 0x6F 1 Octal) (part 0x62 0x78 1 Hexadecimal) refl refl (whole 0x62 0x62 0 Binary (clear Two) more start t d)

  pub bits_octal : {S : Type 0} (more : S → ℕ → S) (start : S) {i j : ℕ} {s : S} → Mark 0x62 0x6F i → TailOf more start text Octal 1 (i + 3) j s → Longest text bits i j
  unfolding covers apart apart_span
  bits_octal more start t d = second_of text (part 0x62 0x62 1 Binary) (part 0x62 0x6F 1 Octal) (part 0x62 0x78 1 Hexadecimal) refl refl (whole 0x62 0x6F 0 Octal (clear Eight) more start t d)

  pub bits_hexadecimal : {S : Type 0} (more : S → ℕ → S) (start : S) {i j : ℕ} {s : S} → Mark 0x62 0x78 i → TailOf more start text Hexadecimal 1 (i + 3) j s → Longest text bits i j
  unfolding covers apart apart_span
  bits_hexadecimal more start t d = third_of text (part 0x62 0x62 1 Binary) (part 0x62 0x6F 1 Octal) (part 0x62 0x78 1 Hexadecimal) refl refl (whole 0x62 0x78 0 Hexadecimal (clear Sixteen) more start t d)

  pub blob_binary : {S : Type 0} (more : S → ℕ → S) (start : S) {i j : ℕ} {s : S} → Mark 0x78 0x62 i → TailOf more start text Binary 8 (i + 3) j s → Judges text blob (NoBytes text) i (Some (record { end = j; bad = false }))
  unfolding covers apart apart_span
  blob_binary more start t d =
      (first_of text (part 0x78 0x62 8 Binary) (part 0x78 0x78 2 Hexadecimal) (part 0x78 0x79 4 Base64) refl refl (whole 0x78 0x62 7 Binary (clear Two) more start t d), says_no (λ n. binary_bytes (tail_behind text more start "0xb" 8 Binary t d).1 n))

  pub blob_hexadecimal : {S : Type 0} (more : S → ℕ → S) (start : S) {i j : ℕ} {s : S} → Mark 0x78 0x78 i → TailOf more start text Hexadecimal 2 (i + 3) j s → Judges text blob (NoBytes text) i (Some (record { end = j; bad = false }))
  unfolding covers apart apart_span
  blob_hexadecimal more start t d =
      (second_of text (part 0x78 0x62 8 Binary) (part 0x78 0x78 2 Hexadecimal) (part 0x78 0x79 4 Base64) refl refl (whole 0x78 0x78 1 Hexadecimal (clear Sixteen) more start t d), says_no (λ n. hexadecimal_bytes (tail_behind text more start "0xx" 2 Hexadecimal t d).1 n))

  pub blob_base64 : {i j : ℕ} {s : Padding} {o : Bool} → Mark 0x78 0x79 i → TailOf next_of Start text Base64 4 (i + 3) j s → o ≡ unfit_of s → Judges text blob (NoBytes text) i (Some (record { end = j; bad = o }))
  unfolding covers apart apart_span
  blob_base64 t d f =
      let x = tail_behind text next_of Start "0xy" 4 Base64 t d in
      (third_of text (part 0x78 0x62 8 Binary) (part 0x78 0x78 2 Hexadecimal) (part 0x78 0x79 4 Base64) refl refl (whole 0x78 0x79 3 Base64 clear_base64 next_of Start t d), judged text x.1 x.2 f)

  pub bits_none : {i : ℕ} → (Mark 0x62 0x62 i → ⊥) → (Mark 0x62 0x6F i → ⊥) → (Mark 0x62 0x78 i → ⊥) → Fails text bits i
  bits_none s t u = none_of text (part 0x62 0x62 1 Binary) (part 0x62 0x6F 1 Octal) (part 0x62 0x78 1 Hexadecimal) (lacks 0x62 0x62 1 Binary s) (lacks 0x62 0x6F 1 Octal t) (lacks 0x62 0x78 1 Hexadecimal u)

  pub blob_none : {i : ℕ} → (Mark 0x78 0x62 i → ⊥) → (Mark 0x78 0x78 i → ⊥) → (Mark 0x78 0x79 i → ⊥) → Fails text blob i
  blob_none s t u = none_of text (part 0x78 0x62 8 Binary) (part 0x78 0x78 2 Hexadecimal) (part 0x78 0x79 4 Base64) (lacks 0x78 0x62 8 Binary s) (lacks 0x78 0x78 2 Hexadecimal t) (lacks 0x78 0x79 4 Base64 u)
