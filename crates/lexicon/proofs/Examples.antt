-- 01's examples of classes: `0` is 95, `A` 120, `g` 112, `_` 96, `=` 16, tab 128; and RFC 4648's of base 64. Assumes nothing.
use mathlib.Core.Path.{◌≡◌, refl}
use mathlib.Core.Bool.{Bool, true, ◌&&◌}
use mathlib.Core.List.{List, [], ◌∷◌, map}
use Prim.Native.Nat.{ℕ, ◌<◌}
use native.Mathlib.Omega.{arith}
use lib.Dec.{ltb}
use borrow.Author.Tests.{ltb-true}
use Rattle.rules.specs.Class.{codes, has}
use Rattle.rules.specs.Every.{Every, none, also}
use Rattle.rules.proofs.Bools.{and_left, and_right}
use Rattle.lexicon.specs.Bytes.{class_of}
use Rattle.lexicon.specs.Base64.{character, Encodes}

classes : map class_of (0x30 ∷ 0x41 ∷ 0x67 ∷ 0x5F ∷ 0x3D ∷ 0x09 ∷ []) ≡ (95 ∷ 120 ∷ 112 ∷ 96 ∷ 16 ∷ 128 ∷ [])
unfolding has
classes = refl

-- ---- section 10: 'BASE64("f") = "Zg=="' and the others

abbrev all_small : List ℕ → Bool
all_small [] = true
all_small (v ∷ vs) = ltb v 64 && all_small vs

small : (vs : List ℕ) → all_small vs ≡ true → Every (λ v. v < 64) vs
small [] e = none
small (v ∷ vs) e = also (ltb-true v 64 (and_left (ltb v 64) (all_small vs) e)) (small vs (and_right (ltb v 64) (all_small vs) e))

encodes_nothing : Encodes (codes "") (codes "")
unfolding character
encodes_nothing =
    record { groups = []; six_bits = small _ refl; padding = 0; at_most_two = omega arith; characters_are = refl; quanta = refl; bits_are = refl }

encodes_f : Encodes (codes "Zg==") (codes "f")
unfolding character
encodes_f =
    record { groups = 25 ∷ 32 ∷ []; six_bits = small _ refl; padding = 2; at_most_two = omega arith; characters_are = refl; quanta = refl; bits_are = refl }

encodes_fo : Encodes (codes "Zm8=") (codes "fo")
unfolding character
encodes_fo =
    record { groups = 25 ∷ 38 ∷ 60 ∷ []; six_bits = small _ refl; padding = 1; at_most_two = omega arith; characters_are = refl; quanta = refl; bits_are = refl }

encodes_foo : Encodes (codes "Zm9v") (codes "foo")
unfolding character
encodes_foo =
    record { groups = 25 ∷ 38 ∷ 61 ∷ 47 ∷ []; six_bits = small _ refl; padding = 0; at_most_two = omega arith; characters_are = refl; quanta = refl; bits_are = refl }

encodes_foob : Encodes (codes "Zm9vYg==") (codes "foob")
unfolding character
encodes_foob =
    record { groups = 25 ∷ 38 ∷ 61 ∷ 47 ∷ 24 ∷ 32 ∷ []; six_bits = small _ refl; padding = 2; at_most_two = omega arith; characters_are = refl; quanta = refl; bits_are = refl }

encodes_fooba : Encodes (codes "Zm9vYmE=") (codes "fooba")
unfolding character
encodes_fooba =
    record { groups = 25 ∷ 38 ∷ 61 ∷ 47 ∷ 24 ∷ 38 ∷ 4 ∷ []; six_bits = small _ refl; padding = 1; at_most_two = omega arith; characters_are = refl; quanta = refl; bits_are = refl }

encodes_foobar : Encodes (codes "Zm9vYmFy") (codes "foobar")
unfolding character
encodes_foobar =
    record { groups = 25 ∷ 38 ∷ 61 ∷ 47 ∷ 24 ∷ 38 ∷ 5 ∷ 50 ∷ []; six_bits = small _ refl; padding = 0; at_most_two = omega arith; characters_are = refl; quanta = refl; bits_are = refl }
