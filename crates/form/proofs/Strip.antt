-- A literal without its dividing space and `_` is one still. Assumes nothing.
use mathlib.Core.Path.{◌≡◌, refl, sym, subst, ap, ◌∙◌}
use mathlib.Core.Logic.{◌⊎◌, inl, inr}
use mathlib.Core.Bool.{true, false}
use mathlib.Core.List.{List, [], ◌∷◌, ◌++◌, append_assoc, append-nil}
use Prim.Native.Nat.{ℕ, zero, suc}
use borrow.Author.Tests.{eqb-true}
use lib.Dec.{eqb}
use Rattle.rules.specs.Class.{Class, In, just, has}
use Rattle.rules.specs.Rule.{Rule, one, ◌then◌, many, plus}
use Rattle.rules.specs.Plain.{Matches, no_byte, one_byte, joined, in_left, in_right, no_more, one_more}
use Rattle.rules.specs.Every.{Every, also}
use Rattle.rules.proofs.Classes.{apart, apart_span, apart_no, just_is, is_just, includes, in_some, includes_in}
use Rattle.rules.proofs.Bools.{decide}
use Rattle.rules.proofs.Plain.{takes_whole}
use Rattle.rules.proofs.Bounds.{all_of_lem}
use Rattle.rules.proofs.Every.{every_append}
use Rattle.lexicon.specs.Space.{blank, sp, grave, not_grave}
use Rattle.lexicon.specs.Bytes.{dividing}
use Rattle.lexicon.specs.Literals.{joint, unit, groups, segment, content}
use Rattle.lexicon.proofs.Segments.{quote, not_quote, content_bytes as content-allowed}
use Rattle.form.specs.Bare.{outside, quotes, comment, dropped, bare_from, bare}
use Rattle.form.proofs.Fits.{Sub, Mode, Fits, none, one_of, seq, alt, star, space, units, segments, wide, narrow}

-- ---- one byte

-- a byte that is kept outside quotes, and behind which it is still outside
pub record Inked (b : ℕ) : Type 0 where
  pub stays : has dropped b ≡ false
  pub no_quote : eqb b 0x22 ≡ false
  pub no_grave : eqb b 0x60 ≡ false

pub ink_step : (b : ℕ) (bs : List ℕ) → Inked b → bare (b ∷ bs) ≡ b ∷ bare bs
unfolding bare_from
ink_step b bs i = rw (i.stays, i.no_quote, i.no_grave) refl

pub ink_run : {a : List ℕ} (b : List ℕ) → Every Inked a → bare (a ++ b) ≡ a ++ bare b
ink_run b Every.none = refl
ink_run b (also {x = x} {xs = xs} i p) = ink_step x (xs ++ b) i ∙ ap (λ (l : List ℕ). x ∷ l) (ink_run b p)

-- ---- dividing space

-- a byte of a class that lacks it is not this byte
pub no_byte_lem : (c : Class) (n x : ℕ) → apart c (just n) ≡ true → In c x → eqb x n ≡ false
no_byte_lem c n x e i = go (decide (eqb x n))
  where
    go : (eqb x n ≡ true) ⊎ (eqb x n ≡ false) → eqb x n ≡ false
    go (inl p) = absurd (apart_no c (just n) x e i (is_just n x (eqb-true x n p)))
    go (inr p) = p

pub not_has : (c d : Class) (x : ℕ) → apart c d ≡ true → In c x → has d x ≡ false
not_has c d x e i = go (decide (has d x))
  where
    go : (has d x ≡ true) ⊎ (has d x ≡ false) → has d x ≡ false
    go (inl p) = absurd (apart_no c d x e i p)
    go (inr p) = p

divide : (x : ℕ) → In dividing x → (has dropped x ≡ true) × (eqb x 0x22 ≡ false) × (eqb x 0x60 ≡ false)
unfolding apart apart_span includes in_some
divide x i = (includes_in dividing dropped x refl i, no_byte_lem dividing 0x22 x refl i, no_byte_lem dividing 0x60 x refl i)

grave_is : (x : ℕ) → In grave x → x ≡ 0x60
grave_is x i = just_is 0x60 x i

not_grave_lem : (x : ℕ) → In not_grave x → eqb x 0x60 ≡ false
unfolding apart apart_span
not_grave_lem x i = no_byte_lem not_grave 0x60 x refl i

not_quote_lem : (x : ℕ) → In not_quote x → eqb x 0x22 ≡ false
unfolding apart apart_span
not_quote_lem x i = no_byte_lem not_quote 0x22 x refl i

comment_run : {a : List ℕ} (b : List ℕ) → Matches (many (one not_grave)) a → bare_from comment (a ++ b) ≡ bare_from comment b
unfolding bare_from
comment_run b no_more = refl
comment_run b (one_more (one_byte {b = x} i) m) = rw (not_grave_lem x i) (comment_run b m)

blank_gone : {a : List ℕ} (b : List ℕ) → Matches blank a → bare (a ++ b) ≡ bare b
unfolding bare_from has
blank_gone b (in_left (one_byte {b = x} i)) = let d = divide x i in rw (d.0, d.1, d.2) refl
blank_gone b (in_right (joined (one_byte {b = x} i) (joined {a = c} m (one_byte {b = y} j)))) =
    rw (grave_is x i, grave_is y j, append_assoc c (0x60 ∷ []) b) (comment_run (0x60 ∷ b) m)

many_gone : {a : List ℕ} (b : List ℕ) → Matches (many blank) a → bare (a ++ b) ≡ bare b
many_gone b no_more = refl
many_gone b (one_more {a = c} {b = d} m n) = rw (append_assoc c d b) (blank_gone (d ++ b) m ∙ many_gone b n)

pub sp_gone : {a : List ℕ} (b : List ℕ) → Matches sp a → bare (a ++ b) ≡ bare b
sp_gone b (joined {a = c} {b = d} m n) = rw (append_assoc c d b) (blank_gone (d ++ b) m ∙ many_gone b n)

pub joint_gone : {a : List ℕ} (b : List ℕ) → Matches joint a → bare (a ++ b) ≡ bare b
unfolding bare_from has
joint_gone b (in_left (one_byte {b = x} i)) = rw (just_is 0x5F x i) refl
joint_gone b (in_right m) = sp_gone b m

-- ---- quotes

quote_run : {a : List ℕ} (b : List ℕ) → Matches (many (one not_quote)) a → bare_from quotes (a ++ b) ≡ a ++ bare_from quotes b
unfolding bare_from
quote_run b no_more = refl
quote_run b (one_more (one_byte {b = x} i) m) = rw (not_quote_lem x i) (ap (λ (l : List ℕ). x ∷ l) (quote_run b m))

content_bytes : {a : List ℕ} → Matches content a → Matches (many (one not_quote)) a
content_bytes {a} m = (takes_whole (many (one not_quote)) a).0 (all_of_lem not_quote ((takes_whole content a).1 m) content-allowed)

-- quotes stay, whatever stands between them
pub quotes_stay : {a : List ℕ} (b : List ℕ) → Matches (one quote then many (one not_quote) then one quote) a → bare (a ++ b) ≡ a ++ bare b
unfolding bare_from has
quotes_stay b (joined (one_byte {b = x} i) (joined {a = c} m (one_byte {b = y} j))) =
    rw (just_is 0x22 x i, just_is 0x22 y j)
    (ap (λ (l : List ℕ). 0x22 ∷ l)
    (ap (bare_from quotes) (append_assoc c (0x22 ∷ []) b) ∙ quote_run (0x22 ∷ b) m ∙ sym (append_assoc c (0x22 ∷ []) (bare_from outside b))))

pub segment_same : {a : List ℕ} (b : List ℕ) → Matches segment a → bare (a ++ b) ≡ a ++ bare b
segment_same b (joined i (joined m j)) = quotes_stay b (joined i (joined (content_bytes m) j))

-- ---- any rule

pub record Stripped (r : Rule) (a : List ℕ) : Type 0 where
  pub matches : Matches r (bare a)
  pub on : (b : List ℕ) → bare (a ++ b) ≡ bare a ++ bare b

pub bare_nil : bare [] ≡ []
unfolding bare_from
bare_nil = refl

-- bytes that vanish, and bytes that stay
gone : {r : Rule} (a : List ℕ) → Matches r [] → ((b : List ℕ) → bare (a ++ b) ≡ bare b) → Stripped r a
gone {r} a m h = record { matches = subst (Matches r) (sym empties) m; on = λ b. h b ∙ ap (λ (l : List ℕ). l ++ bare b) (sym empties) }
  where
    empties : bare a ≡ []
    empties = ap bare (sym (append-nil a)) ∙ h [] ∙ bare_nil

stay : {r : Rule} (a : List ℕ) → Matches r a → ((b : List ℕ) → bare (a ++ b) ≡ a ++ bare b) → Stripped r a
stay {r} a m h = record { matches = subst (Matches r) (sym same) m; on = λ b. h b ∙ ap (λ (l : List ℕ). l ++ bare b) (sym same) }
  where
    same : bare a ≡ a
    same = ap bare (sym (append-nil a)) ∙ h [] ∙ ap (λ (l : List ℕ). a ++ l) bare_nil ∙ append-nil a

two : {r s q : Rule} (a b : List ℕ) → (Matches r (bare a) → Matches s (bare b) → Matches q (bare a ++ bare b)) → Stripped r a → Stripped s b →
    Stripped q (a ++ b)
two {r} {s} {q} a b h x y =
    record {
      matches = subst (Matches q) (sym (x.on b)) (h x.matches y.matches);
      on = λ c. ap bare (append_assoc a b c) ∙ x.on (b ++ c) ∙ ap (λ (l : List ℕ). bare a ++ l) (y.on c)
          ∙ sym (append_assoc (bare a) (bare b) (bare c)) ∙ ap (λ (l : List ℕ). l ++ bare c) (sym (x.on b));
    }

module _ (kept : Class) (inky : (b : ℕ) → In kept b → Inked b) where
  unit_ink : (n : ℕ) (c : Class) {a : List ℕ} → Sub c kept → Matches (unit n c) a → Every Inked a
  unit_ink zero c e no_byte = Every.none
  unit_ink (suc n) c e (joined (one_byte {b = x} i) m) = also (inky x (e.into x i)) (unit_ink n c e m)

  many_ink : {r : Rule} {a : List ℕ} → ((a : List ℕ) → Matches r a → Every Inked a) → Matches (many r) a → Every Inked a
  many_ink h no_more = Every.none
  many_ink h (one_more {a = a} m k) = every_append (h a m) (many_ink h k)

  run_ink : (n : ℕ) (c : Class) {a : List ℕ} → Sub c kept → Matches (many (unit n c)) a → Every Inked a
  run_ink n c e m = many_ink (λ a k. unit_ink n c e k) m

  many_join : {r : Rule} {a b : List ℕ} → Matches (many r) a → Matches (many r) b → Matches (many r) (a ++ b)
  many_join no_more m = m
  many_join {r} {b = d} (one_more {a = a} {b = c} x m) n = subst (Matches (many r)) (sym (append_assoc a c d)) (one_more x (many_join m n))

  rows_strip : {r s : Rule} {a : List ℕ} → ((a : List ℕ) → Matches r a → Stripped (many s) a) → Matches (many r) a → Stripped (many s) a
  rows_strip h no_more = gone [] no_more (λ b. refl)
  rows_strip h (one_more {a = a} {b = b} m k) = two a b (λ p q. many_join p q) (h a m) (rows_strip h k)

  -- further groups lose their joints
  further : (n : ℕ) (c : Class) {a : List ℕ} → Sub c kept → Matches (many (joint then plus (unit n c))) a → Stripped (many (unit n c)) a
  further n c e m = rows_strip (λ a k. one_further k) m
    where
      one_further : {a : List ℕ} → Matches (joint then plus (unit n c)) a → Stripped (many (unit n c)) a
      one_further (joined {a = j} x (joined {a = u} {b = us} y ys)) =
          two j (u ++ us) (λ p q. many_join p q) (gone j no_more (λ b. joint_gone b x))
          (stay (u ++ us) (one_more y ys) (λ b. ink_run b (every_append (unit_ink n c e y) (run_ink n c e ys))))

  plus_join : {r : Rule} {a b : List ℕ} → Matches (plus r) a → Matches (many r) b → Matches (plus r) (a ++ b)
  plus_join {r} {b = d} (joined {a = a} {b = c} x m) n = subst (Matches (plus r)) (sym (append_assoc a c d)) (joined x (many_join m n))

  one_group : (n : ℕ) (c : Class) {a : List ℕ} → Matches (plus (unit n c)) a → Matches (groups n c) a
  one_group n c {a} m = subst (Matches (groups n c)) (append-nil a) (joined m no_more)

  groups_strip : (n : ℕ) (c : Class) {a : List ℕ} → Sub c kept → Matches (groups n c) a → Stripped (groups n c) a
  groups_strip n c e (joined {b = q} (joined {a = u} {b = us} x xs) m) =
      two (u ++ us) q (λ s t. one_group n c (plus_join s t))
      (stay (u ++ us) (joined x xs) (λ b. ink_run b (every_append (unit_ink n c e x) (run_ink n c e xs)))) (further n c e m)

  many_strip : {r : Rule} {a : List ℕ} → ((a : List ℕ) → Matches r a → Stripped r a) → Matches (many r) a → Stripped (many r) a
  many_strip h no_more = gone [] no_more (λ b. refl)
  many_strip h (one_more {a = a} {b = b} m n) = two a b (λ p q. one_more p q) (h a m) (many_strip h n)

  pub strips : {Quotes : Type 0} {m o : Mode} {r : Rule} {a : List ℕ} → Fits kept Quotes m r o → Matches r a → Stripped r a
  strips none no_byte = gone [] no_byte (λ b. refl)
  strips (one_of e) (one_byte {b = x} i) = stay (x ∷ []) (one_byte i) (λ b. ink_step x b (inky x (e.into x i)))
  strips (seq f g) (joined {a = a} {b = b} m n) = two a b (λ p q. joined p q) (strips f m) (strips g n)
  strips (alt f g) (in_left m) = let x = strips f m in record { matches = in_left x.matches; on = x.on }
  strips (alt f g) (in_right m) = let x = strips g m in record { matches = in_right x.matches; on = x.on }
  strips (star f) m = many_strip (λ a n. strips f n) m
  strips {a = a} space (in_left m) = gone a (in_right no_byte) (λ b. sp_gone b m)
  strips space (in_right no_byte) = gone [] (in_right no_byte) (λ b. refl)
  strips (units n {c = c} e) m = groups_strip (suc n) c e m
  strips {a = a} (segments q) m = stay a m (λ b. segment_same b m)
  strips (wide f) m = strips f m
  strips (narrow f) m = strips f m
