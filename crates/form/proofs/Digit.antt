-- The digits of a literal are what is left of it: made bare, it has the same digits, and a Blob the same bytes. Assumes nothing.
use mathlib.Core.Path.{◌≡◌, refl, sym, subst, ap, ◌∙◌}
use mathlib.Core.Bool.{true}
use mathlib.Core.List.{List, [], ◌∷◌, ◌++◌, append-nil}
use Prim.Native.Nat.{ℕ, zero, suc, ◌+◌, ◌≤◌}
use Prim.Native.String.{String}
use native.Mathlib.Omega.{arith}
use lib.ListN.{length, get_or, length-append}
use lib.Seq.{drop-append_seam}
use Rattle.rules.specs.Class.{Class}
use Rattle.rules.specs.Rule.{Rule, ◌then◌, many, opt, lit, Takes, nothing, byte, both}
use Rattle.rules.specs.Plain.{Matches, no_byte, one_byte, joined, in_left, in_right, no_more, one_more, between}
use Rattle.rules.specs.Every.{Every, also}
use Rattle.rules.proofs.Every.{every_append, every_map}
use Rattle.rules.proofs.Bounds.{all_of}
use Rattle.rules.proofs.Classes.{includes, in_some}
use Rattle.rules.proofs.Matches.{forward, ending}
use Rattle.rules.proofs.Plain.{none_between, one_between, joined_between, whole_between, plain, takes_whole}
use Rattle.rules.proofs.Windows.{Moves, alone}
use Rattle.lexicon.specs.Bytes.{binary, hexadecimal, base64}
use Rattle.lexicon.specs.Space.{sp}
use Rattle.lexicon.specs.Literals.{joint, unit, groups}
use Rattle.lexicon.specs.Values.{Digits, last_unit, next_unit, read, Behind, mark_alone, mark_digits, BlobOf, in_base64}
use Rattle.lexicon.proofs.Groups.{to_row, of_row, digits_forward, digits_in}
use Rattle.lexicon.proofs.Moved.{digits_moved}
use Rattle.form.specs.Bare.{bare}
use Rattle.form.proofs.Fits.{Sub, sub, Mode, exact, Fits, none, one_of, seq, alt, star, space, units, segments, wide, narrow, numbers, ink_fits}
use Rattle.form.proofs.Strip.{ink_run, sp_gone, joint_gone, bare_nil, strips}
use Rattle.form.proofs.Amid.{there, moves_there}
use Rattle.form.proofs.Numeric.{Numeric, numbers_stay, inked}
use Rattle.form.proofs.Twice.{bare_twice}

-- ---- a unit is its own bytes

module _ (text : List ℕ) where
  unit_read : (n : ℕ) (c : Class) {i j : ℕ} → Takes text (unit n c) i j → between text i j ≡ read text i n
  unit_read zero c {i} {j} (nothing e) = none_between text i j e
  unit_read (suc n) c {i} {j} (both {m = m} (byte a e) u) =
      let h : i ≤ m = omega (arith, e) in
      let f = forward u in
      sym (joined_between text i m j h f) ∙ ap (λ (x : ℕ). between text i x ++ between text m j) e
      ∙ ap (λ (l : List ℕ). l ++ between text m j) (one_between text i a.0)
      ∙ ap (λ (l : List ℕ). get_or text i 0 ∷ l) (unit_read n c u ∙ ap (λ (x : ℕ). read text x n) e)

-- ---- what is left

numeric_same : {a : List ℕ} → Numeric a → bare a ≡ a
numeric_same {a} n = ap bare (sym (append-nil a)) ∙ ink_run [] (inked n) ∙ ap (λ (l : List ℕ). a ++ l) bare_nil ∙ append-nil a

unit_numeric : (n : ℕ) (c : Class) {a : List ℕ} → Sub c numbers → Matches (unit n c) a → Numeric a
unit_numeric zero c e no_byte = Every.none
unit_numeric (suc n) c e (joined (one_byte {b = b} i) m) = also (e.into b i) (unit_numeric n c e m)

opt_joint_gone : {a : List ℕ} (b : List ℕ) → Matches (opt joint) a → bare (a ++ b) ≡ bare b
opt_joint_gone b (in_left m) = joint_gone b m
opt_joint_gone b (in_right no_byte) = refl

pub opt_space_gone : {a : List ℕ} (b : List ℕ) → Matches (opt sp) a → bare (a ++ b) ≡ bare b
opt_space_gone b (in_left m) = sp_gone b m
opt_space_gone b (in_right no_byte) = refl

digits_bare : (text : List ℕ) (n : ℕ) (c : Class) {i j : ℕ} {ds : List ℕ} → Sub c numbers → Digits text n c i j ds → bare (between text i j) ≡ ds
digits_bare text n c e (last_unit u) = numeric_same (unit_numeric n c e (plain text u)) ∙ unit_read text n c u
digits_bare text n c {i} {j} e (next_unit {m = m} {k = k} {ds = ds} u t d) =
    let x = forward u in let y = forward t in let z = digits_forward d in
    let h : k ≤ j = omega (arith, z) in
    let f : m ≤ j = omega (arith, y, h) in
    ap bare (sym (joined_between text i m j x f)) ∙ ink_run (between text m j) (inked (unit_numeric n c e (plain text u)))
    ∙ ap (λ (l : List ℕ). between text i m ++ l)
    (ap bare (sym (joined_between text m k j y h)) ∙ opt_joint_gone (between text k j) (plain text t) ∙ digits_bare text n c e d)
    ∙ ap (λ (l : List ℕ). l ++ ds) (unit_read text n c u)

-- of a whole literal
whole_digits : (n : ℕ) (c : Class) {g ds : List ℕ} → Sub c numbers → Digits g n c 0 (length g) ds → bare g ≡ ds
whole_digits n c {g} e d = ap bare (sym (whole_between g)) ∙ digits_bare g n c e d

-- the digits by themselves are those of the literal
bare_digits : (n : ℕ) (c : Class) (g : List ℕ) {ds : List ℕ} → Sub c numbers → Digits g (suc n) c 0 (length g) ds →
    Digits (bare g) (suc n) c 0 (length (bare g)) ds
bare_digits n c g {ds} e d =
    let m = (takes_whole (groups (suc n) c) g).0 (of_row g (suc n) c d) in
    let r = to_row (bare g) (suc n) c
    ((takes_whole (groups (suc n) c) (bare g)).1 (strips numbers numbers_stay {Quotes = ⊥} {m = exact} (units n e) m).matches) in
    let same = sym (whole_digits (suc n) c e r.1) ∙ bare_twice g ∙ whole_digits (suc n) c e d in
    subst (λ (x : List ℕ). Digits (bare g) (suc n) c 0 (length (bare g)) x) same r.1

-- ---- what is left of a literal without quotes are bytes of numbers

row_numeric : (n : ℕ) (c : Class) {a : List ℕ} → Sub c numbers → Matches (groups n c) a → Numeric (bare a)
row_numeric n c {a} e m =
    let r = to_row a n c ((takes_whole (groups n c) a).1 m) in
    subst Numeric (sym (whole_digits n c e r.1)) (every_map (λ b i. e.into b i) (digits_in n r.1))

gone_numeric : (a : List ℕ) → bare a ≡ [] → Numeric (bare a)
gone_numeric a e = subst Numeric (sym e) Every.none

many_numeric : {r : Rule} {a : List ℕ} → ((a : List ℕ) → Matches r a → Numeric (bare a) × ((b : List ℕ) → bare (a ++ b) ≡ bare a ++ bare b)) →
    Matches (many r) a → Numeric (bare a)
many_numeric f no_more = gone_numeric [] bare_nil
many_numeric f (one_more {a = a} {b = b} m n) = let x = f a m in subst Numeric (sym (x.1 b)) (every_append x.0 (many_numeric f n))

pub left_numeric : {m o : Mode} {r : Rule} {a : List ℕ} → Fits numbers ⊥ m r o → Matches r a → Numeric (bare a)
left_numeric none no_byte = gone_numeric [] bare_nil
left_numeric (one_of e) (one_byte {b = b} i) = subst Numeric (sym (numeric_same (also (e.into b i) Every.none))) (also (e.into b i) Every.none)
left_numeric (seq f g) (joined {a = a} {b = b} m n) =
    subst Numeric (sym ((strips numbers numbers_stay f m).on b)) (every_append (left_numeric f m) (left_numeric g n))
left_numeric (alt f g) (in_left m) = left_numeric f m
left_numeric (alt f g) (in_right m) = left_numeric g m
left_numeric (star f) m = many_numeric (λ a n. (left_numeric f n, (strips numbers numbers_stay f n).on)) m
left_numeric {a = a} space m = gone_numeric a (ap bare (sym (append-nil a)) ∙ opt_space_gone [] m ∙ bare_nil)
left_numeric (units n {c = c} e) m = row_numeric (suc n) c e m
left_numeric (segments q) m = absurd q
left_numeric (wide f) m = left_numeric f m
left_numeric (narrow f) m = left_numeric f m

-- ---- digits behind a match of a rule

pub record Parted (r : Rule) (n : ℕ) (c : Class) (a ds : List ℕ) : Type 0 where
  pub front : List ℕ
  pub rest : List ℕ
  pub whole : a ≡ front ++ rest
  pub before : Matches r front
  pub digits_are : Digits rest n c 0 (length rest) ds

abbrev Moving : (n : ℕ) (c : Class) (ds : List ℕ) → Moves (λ (text : List ℕ) (i j : ℕ). Digits text n c i j ds)
Moving n c ds a b p q m w i j d h k = digits_moved a b p q m w n c d h k

pub part : (a : List ℕ) (r : Rule) (n : ℕ) (c : Class) {k : ℕ} {ds : List ℕ} → Takes a r 0 k → Digits a n c k (length a) ds → Parted r n c a ds
part a r n c {k} {ds} t d =
    let h : k ≤ length a = omega (arith, digits_forward d) in
    record {
      front = between a 0 k;
      rest = between a k (length a);
      whole = sym (joined_between a 0 k (length a) (omega arith) h ∙ whole_between a);
      before = plain a t;
      digits_are = alone a h (omega arith) (λ (text : List ℕ) (i j : ℕ). Digits text n c i j ds) (Moving n c ds) d;
    }

pub unpart : (r : Rule) (n : ℕ) (c : Class) {a ds : List ℕ} → Parted r n c a ds → (k : ℕ) × Takes a r 0 k × Digits a n c k (length a) ds
unpart r n c {a} {ds} p =
    let x = p.front in let g = p.rest in
    let e : 0 + length x ≡ length x = omega arith in
    let f : length x + length g ≡ length (x ++ g) = omega (arith, length-append x g) in
    let t = ending e (there (x ++ g) x g 0 refl r ((takes_whole r x).1 p.before)) in
    let d = moves_there (x ++ g) g [] (length x) (drop-append_seam x g ∙ sym (append-nil g)) (λ (text : List ℕ) (i j : ℕ). Digits text n c i j ds)
    (Moving n c ds) (omega (arith, f)) p.digits_are in
    subst (λ (l : List ℕ). (k : ℕ) × Takes l r 0 k × Digits l n c k (length l) ds) (sym p.whole)
    (length x, t, subst (λ (k : ℕ). Digits (x ++ g) n c (length x) k ds) f d)

pub bare_parted : {m o : Mode} (r : Rule) (n : ℕ) (c : Class) (a : List ℕ) {ds : List ℕ} → Fits numbers ⊥ m r o → Sub c numbers → Parted r (suc n) c a ds →
    Parted r (suc n) c (bare a) ds
bare_parted r n c a f e p =
    let s = strips numbers numbers_stay f p.before in
    record {
      front = bare p.front;
      rest = bare p.rest;
      whole = ap bare p.whole ∙ s.on p.rest;
      before = s.matches;
      digits_are = bare_digits n c p.rest e p.digits_are;
    }

-- ---- Blobs

behind_bare : (mark : String) (n : ℕ) (c : Class) (a : List ℕ) {ds : List ℕ} → all_of numbers (lit mark) ≡ true → Sub c numbers →
    Behind a mark (suc n) c 0 (length a) ds →
    Behind (bare a) mark (suc n) c 0 (length (bare a)) ds
behind_bare mark n c a e f (mark_alone t) =
    mark_alone ((takes_whole (lit mark) (bare a)).1 (strips numbers numbers_stay (ink_fits numbers (lit mark) e) ((takes_whole (lit mark) a).0 t)).matches)
behind_bare mark n c a e f (mark_digits t d) =
    let r = lit mark then opt sp in
    let p = unpart r (suc n) c (bare_parted r n c a (seq (ink_fits numbers (lit mark) e) space) f (part a r (suc n) c t d)) in
    mark_digits p.1 p.2

-- its bytes are those of the Blob
pub blob_bare : (a : List ℕ) {bs : List ℕ} → BlobOf a 0 (length a) bs → BlobOf (bare a) 0 (length (bare a)) bs
unfolding includes in_some
blob_bare a (BlobOf.in_binary b o e) = BlobOf.in_binary (behind_bare "0xb" 7 binary a refl (sub _ _ refl) b) o e
blob_bare a (BlobOf.in_hexadecimal b o e) = BlobOf.in_hexadecimal (behind_bare "0xx" 1 hexadecimal a refl (sub _ _ refl) b) o e
blob_bare a (in_base64 b o e) = in_base64 (behind_bare "0xy" 3 base64 a refl (sub _ _ refl) b) o e
