-- Rules whose matches are rows of kept bytes, segments in quotes, and dividing space where more or less of it would do. What is proved of literals
-- made bare, and of literals before a byte that they lack, is proved of these rules. Assumes nothing.
use mathlib.Core.Path.{◌≡◌, refl, sym, subst}
use mathlib.Core.Bool.{Bool, true, ◌&&◌}
use mathlib.Core.List.{List, [], ◌∷◌}
use Prim.Native.Nat.{ℕ, suc}
use Rattle.rules.specs.Class.{Class, In, just, ◌upto◌, ◌to◌, has}
use Rattle.rules.specs.Rule.{Rule, empty, one, ◌then◌, ◌or◌, many, opt, row}
use Rattle.rules.proofs.Classes.{just_is, includes, in_some, includes_in}
use Rattle.rules.proofs.Bools.{and_left, and_right}
use Rattle.rules.proofs.Bounds.{all_of}
use Rattle.lexicon.specs.Space.{sp}
use Rattle.lexicon.specs.Literals.{groups, segment, prefix, of_base, nonsigned, plus_minus, sign, integer, point_of_base, radix_point, significand, fraction, maybe, bits, blob, power}
use Rattle.lexicon.specs.Literals.{quoted as quoted-rule}
use Rattle.lexicon.specs.Bytes.{binary, octal, hexadecimal, base64, digits}
use Rattle.lexicon.specs.declared.Base.{Base}
use Rattle.lexicon.specs.declared.Base.TheVariants.{Two, Eight, Ten, Sixteen}

-- ---- classes of bytes

-- a byte that opens no quotes and no dividing space
abbrev pub ink : Class
ink = 0x00 upto 0x08 ∷ 0x0B upto 0x0C ∷ 0x0E upto 0x1F ∷ 0x21 upto 0x21 ∷ 0x23 upto 0x5F ∷ 0x61 upto 0xFF ∷ []

-- every byte of the one class is in the other
pub record Sub (c d : Class) : Type 0 where
  pub into : (b : ℕ) → In c b → In d b

pub sub : (c d : Class) → includes c d ≡ true → Sub c d
sub c d e = record { into = λ b i. includes_in c d b e i }

unfoldable pub all_in : Class → List ℕ → Bool
all_in c [] = true
all_in c (b ∷ bs) = has c b && all_in c bs

-- ---- rules

-- whether dividing space may be passed
pub data Mode : Type 0 where
  exact loose : Mode

-- the rule fits: its bytes are kept, dividing space stands only where it may be more or less, and there are segments in quotes only if they may be
pub data Fits (kept : Class) (Quotes : Type 0) : Mode → Rule → Mode → Type 0 where
  none : {m : Mode} → Fits kept Quotes m empty m
  one_of : {m : Mode} {c : Class} → Sub c kept → Fits kept Quotes m (one c) exact
  seq : {m n o : Mode} {a b : Rule} → Fits kept Quotes m a n → Fits kept Quotes n b o → Fits kept Quotes m (a then b) o
  alt : {m o : Mode} {a b : Rule} → Fits kept Quotes m a o → Fits kept Quotes m b o → Fits kept Quotes m (a or b) o
  star : {m : Mode} {r : Rule} → Fits kept Quotes m r m → Fits kept Quotes m (many r) m
  space : {m : Mode} → Fits kept Quotes m (opt sp) loose
  units : {m : Mode} (n : ℕ) {c : Class} → Sub c kept → Fits kept Quotes m (groups (suc n) c) exact
  segments : {m : Mode} → Quotes → Fits kept Quotes m segment exact
  wide : {m : Mode} {r : Rule} → Fits kept Quotes m r exact → Fits kept Quotes m r loose
  narrow : {o : Mode} {r : Rule} → Fits kept Quotes loose r o → Fits kept Quotes exact r o

-- ---- the token rules

-- a rule all of whose bytes are kept
pub ink_fits : (kept : Class) (r : Rule) → all_of kept r ≡ true → Fits kept ⊥ exact r exact
ink_fits kept empty e = none
ink_fits kept (one c) e = one_of (sub c kept e)
ink_fits kept (a then b) e = seq (ink_fits kept a (and_left (all_of kept a) _ e)) (ink_fits kept b (and_right (all_of kept a) _ e))
ink_fits kept (a or b) e = alt (ink_fits kept a (and_left (all_of kept a) _ e)) (ink_fits kept b (and_right (all_of kept a) _ e))
ink_fits kept (many r) e = star (ink_fits kept r e)

-- the bytes of the rules of numbers: those of base 64, signs, point, star and caret
abbrev pub numbers : Class
numbers = 0x2A upto 0x2B ∷ 0x2D upto 0x39 ∷ "=" to "=" ∷ "A" to "Z" ∷ "^" to "^" ∷ "a" to "z" ∷ []

just_kept : (kept : Class) (b : ℕ) → Sub numbers kept → has numbers b ≡ true → Sub (just b) kept
just_kept kept b n e = record { into = λ x i. subst (In kept) (sym (just_is b x i)) (n.into b e) }

pub class_kept : (kept c : Class) → Sub numbers kept → includes c numbers ≡ true → Sub c kept
class_kept kept c n e = record { into = λ x i. n.into x (includes_in c numbers x e i) }

-- they themselves, and digits among them
pub numbers_kept : Sub numbers numbers
unfolding includes in_some
numbers_kept = sub numbers numbers refl

pub digits_numeric : (b : Base) → includes (digits b) numbers ≡ true
unfolding includes in_some
digits_numeric Two = refl
digits_numeric Eight = refl
digits_numeric Ten = refl
digits_numeric Sixteen = refl

module _ (kept : Class) (n : Sub numbers kept) where
  row_fits : (b : ℕ) (bs : List ℕ) {m : Mode} → all_in numbers (b ∷ bs) ≡ true → Fits kept ⊥ m (row (b ∷ bs)) exact
  unfolding all_in
  row_fits b [] e = one_of (just_kept kept b n (and_left (has numbers b) _ e))
  row_fits b (c ∷ bs) e = seq (one_of (just_kept kept b n (and_left (has numbers b) _ e))) (row_fits c bs (and_right (has numbers b) _ e))

  -- `0b`, `0o`, `0d`, `0x`, then dividing space
  mark_fits : (a b : ℕ) {m : Mode} → all_in numbers (a ∷ b ∷ []) ≡ true → Fits kept ⊥ m (row (a ∷ b ∷ []) then opt sp) loose
  mark_fits a b e = seq (row_fits a (b ∷ []) e) space

  pub prefix_fits : (b : Base) → Fits kept ⊥ loose (prefix b) loose
  unfolding all_in has
  prefix_fits Two = mark_fits _ _ refl
  prefix_fits Eight = mark_fits _ _ refl
  prefix_fits Ten = alt (mark_fits _ _ refl) none
  prefix_fits Sixteen = mark_fits _ _ refl

  digits_fit : (b : Base) → Fits kept ⊥ loose (groups 1 (digits b)) exact
  digits_fit b = units 0 (class_kept kept (digits b) n (digits_numeric b))

  base_fits : (b : Base) → Fits kept ⊥ loose (of_base b) exact
  base_fits b = seq (prefix_fits b) (digits_fit b)

  pub nonsigned_fits : Fits kept ⊥ loose nonsigned exact
  nonsigned_fits = alt (base_fits Two) (alt (base_fits Eight) (alt (base_fits Ten) (base_fits Sixteen)))

  pub sign_fits : Fits kept ⊥ loose sign loose
  unfolding includes in_some
  sign_fits = alt (seq (one_of (class_kept kept plus_minus n refl)) space) none

  pub integer_fits : Fits kept ⊥ loose integer exact
  integer_fits = seq sign_fits nonsigned_fits

  pub spaced_fits : (a : ℕ) {m : Mode} → all_in numbers (a ∷ []) ≡ true → Fits kept ⊥ m (opt sp then row (a ∷ []) then opt sp) loose
  spaced_fits a e = seq space (seq (row_fits a [] e) space)

  point_fits : (b : Base) → Fits kept ⊥ loose (point_of_base b) exact
  unfolding all_in has
  point_fits b = seq (prefix_fits b) (seq (digits_fit b) (seq (spaced_fits _ refl) (digits_fit b)))

  pub radix_fits : Fits kept ⊥ loose radix_point exact
  radix_fits = seq sign_fits (alt (point_fits Two) (alt (point_fits Eight) (alt (point_fits Ten) (point_fits Sixteen))))

  pub significand_fits : Fits kept ⊥ loose significand exact
  unfolding all_in has
  significand_fits = alt radix_fits (seq integer_fits (seq (spaced_fits _ refl) nonsigned_fits))

  pub power_fits : Fits kept ⊥ exact (opt power) exact
  unfolding all_in has
  power_fits = alt (seq (spaced_fits _ refl) (seq nonsigned_fits (seq (spaced_fits _ refl) integer_fits))) none

  pub fraction_fits : Fits kept ⊥ exact fraction exact
  fraction_fits = seq (narrow significand_fits) power_fits

  -- digits behind a mark
  maybe_fits : (a b c k : ℕ) (d : Class) → all_in numbers (a ∷ b ∷ c ∷ []) ≡ true → includes d numbers ≡ true →
      Fits kept ⊥ exact (row (a ∷ b ∷ c ∷ []) then maybe (suc k) d) exact
  maybe_fits a b c k d e f = seq (row_fits a (b ∷ c ∷ []) e) (alt (seq space (units k (class_kept kept d n f))) none)

  pub bits_fit : Fits kept ⊥ exact bits exact
  unfolding all_in has includes in_some
  bits_fit = alt (maybe_fits _ _ _ 0 binary refl refl) (alt (maybe_fits _ _ _ 0 octal refl refl) (maybe_fits _ _ _ 0 hexadecimal refl refl))

  pub blob_fits : Fits kept ⊥ exact blob exact
  unfolding all_in has includes in_some
  blob_fits = alt (maybe_fits _ _ _ 7 binary refl refl) (alt (maybe_fits _ _ _ 1 hexadecimal refl refl) (maybe_fits _ _ _ 3 base64 refl refl))

pub quoted_fits : (kept : Class) → Fits kept (Unit {0}) exact quoted-rule exact
quoted_fits kept = seq (segments tt) (star (seq space (segments tt)))
