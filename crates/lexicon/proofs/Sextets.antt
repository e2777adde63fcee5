-- The values of digits: a base-64 character's is its place in the alphabet, and a digit's is below its base. Assumes nothing.
use mathlib.Core.Path.{◌≡◌, refl}
use mathlib.Core.Logic.{⊎_elim}
use mathlib.Core.Bool.{Bool, true, ◌&&◌, ◌||◌, not}
use mathlib.Core.List.{[], ◌∷◌}
use Prim.Native.Nat.{ℕ, ◌<◌}
use native.Mathlib.Omega.{arith}
use lib.Dec.{eqb, ltb}
use borrow.Author.Tests.{eqb-true, eqb-false, ltb-true}
use Rattle.rules.specs.Class.{byte_of, ◌upto◌, has, In}
use Rattle.rules.proofs.Bools.{and_left, and_right, or_cases, not_true, not_both, below, all_below_lem}
use Rattle.rules.proofs.Classes.{includes, in_some, includes_in, in_high}
use Rattle.lexicon.specs.declared.Base.{Base}
use Rattle.lexicon.specs.declared.Base.TheVariants.{Two, Eight, Ten, Sixteen}
use Rattle.lexicon.specs.Bytes.{base64, digits, radix}
use Rattle.lexicon.specs.Base64.{character}
use Rattle.lexicon.specs.Values.{digit}
use Rattle.lexicon.specs.Parts.{sextet}

-- ---- from the value to the character

abbrev sound : ℕ → Bool
sound v = eqb (sextet (character v)) v && not (eqb (character v) (byte_of "="))

all_sound : {v : ℕ} → v < 64 → sound v ≡ true
unfolding below character sextet
all_sound = all_below_lem sound 64 refl

pub sextet_character : {v : ℕ} → v < 64 → sextet (character v) ≡ v
sextet_character {v} h = eqb-true (sextet (character v)) v (and_left (eqb (sextet (character v)) v) _ (all_sound h))

pub character_no_pad : {v : ℕ} → v < 64 → character v ≡ byte_of "=" → ⊥
character_no_pad {v} h =
    eqb-false (character v) (byte_of "=")
    (not_true (eqb (character v) (byte_of "=")) (and_right (eqb (sextet (character v)) v) _ (all_sound h)))

-- ---- from the character to the value

abbrev told : ℕ → Bool
told c = ltb (sextet c) 64 && eqb (character (sextet c)) c

abbrev lettered : ℕ → Bool
lettered c = not (has base64 c) || (eqb c (byte_of "=") || told c)

all_lettered : {c : ℕ} → c < 123 → lettered c ≡ true
unfolding below has character sextet
all_lettered = all_below_lem lettered 123 refl

base64_small : (c : ℕ) → In base64 c → c < 123
unfolding includes in_some
base64_small c i = omega (arith, in_high 0 122 c (includes_in base64 (0 upto 122 ∷ []) c refl i))

-- of a byte of the alphabet
letter_told : {c : ℕ} → In base64 c → (c ≡ byte_of "=" → ⊥) → told c ≡ true
letter_told {c} i n =
    ⊎_elim (λ x. absurd (not_both (has base64 c) i x))
    (λ y. ⊎_elim (λ x. absurd (n (eqb-true c (byte_of "=") x))) (λ x. x) (or_cases (eqb c (byte_of "=")) (told c) y))
    (or_cases (not (has base64 c)) (eqb c (byte_of "=") || told c) (all_lettered (base64_small c i)))

pub sextet_small : {c : ℕ} → In base64 c → (c ≡ byte_of "=" → ⊥) → sextet c < 64
sextet_small {c} i n = ltb-true (sextet c) 64 (and_left (ltb (sextet c) 64) _ (letter_told i n))

pub character_sextet : {c : ℕ} → In base64 c → (c ≡ byte_of "=" → ⊥) → character (sextet c) ≡ c
character_sextet {c} i n = eqb-true (character (sextet c)) c (and_right (ltb (sextet c) 64) _ (letter_told i n))

-- ---- digits of a base

abbrev fits : Base → ℕ → Bool
fits b c = not (has (digits b) c) || ltb (digit c) (radix b)

all_fit : (b : Base) {c : ℕ} → c < 71 → fits b c ≡ true
unfolding below has
all_fit Two = all_below_lem (fits Two) 71 refl
all_fit Eight = all_below_lem (fits Eight) 71 refl
all_fit Ten = all_below_lem (fits Ten) 71 refl
all_fit Sixteen = all_below_lem (fits Sixteen) 71 refl

digits_small : (b : Base) (c : ℕ) → In (digits b) c → c < 71
unfolding includes in_some
digits_small Two c i = omega (arith, in_high 0 70 c (includes_in (digits Two) (0 upto 70 ∷ []) c refl i))
digits_small Eight c i = omega (arith, in_high 0 70 c (includes_in (digits Eight) (0 upto 70 ∷ []) c refl i))
digits_small Ten c i = omega (arith, in_high 0 70 c (includes_in (digits Ten) (0 upto 70 ∷ []) c refl i))
digits_small Sixteen c i = omega (arith, in_high 0 70 c (includes_in (digits Sixteen) (0 upto 70 ∷ []) c refl i))

pub digit_small : (b : Base) (c : ℕ) → In (digits b) c → digit c < radix b
digit_small b c i =
    ltb-true (digit c) (radix b)
    (⊎_elim (λ x. absurd (not_both (has (digits b) c) i x)) (λ x. x) (or_cases (not (has (digits b) c)) (ltb (digit c) (radix b)) (all_fit b (digits_small b c i))))
