-- The rule of the class table: one test, computed over the whole table, that each entry is the class of its byte and that its
-- bits are the byte's sets. Assumes nothing.
use mathlib.Core.Path.{◌≡◌, refl, ap, subst, sym, ◌∙◌}
use mathlib.Core.Bool.{Bool, true, false, ◌&&◌}
use mathlib.Core.List.Memᴰ.{head as here}
use mathlib.Core.List.Memᴰ.{tail as there}
use mathlib.Core.List.{List, [], ◌∷◌, Memᴰ}
use Prim.Native.Nat.{ℕ, ◌<◌, ◌/◌, ◌%◌}
use lib.Dec.{eqb}
use lib.ListN.{get_or}
use borrow.Author.Tests.{eqb-true}
use Rattle.rules.specs.Class.{has}
use Rattle.rules.proofs.Bools.{and_left, and_right}
use Rattle.lexicon.specs.Bytes.{class_of, members, weight, sets, bit}
use Rattle.lexicon.specs.declared.Set.{Set}
use Rattle.lexicon.specs.declared.Set.TheVariants.{Binary, Octal, Decimal, Hexadecimal, Base64, WordStart, WordRest, Dividing}
use Rattle.text.specs.Classes.{IsTable, in_sum}
use Rattle.text.proofs.Table.{listed, entry}

-- the set's bit of a class
abbrev bit_of : Set → ℕ → ℕ
bit_of s x = x / weight s % 2

bits_right : List Set → ℕ → ℕ → Bool
bits_right [] b x = true
bits_right (s ∷ ss) b x = eqb (bit_of s x) (bit (has (members s) b)) && bits_right ss b x

right : ℕ → ℕ → Bool
right b x = eqb x (class_of b) && bits_right sets b x

unfoldable pub classes : List ℕ
classes = listed class_of 256 0

-- the one test, and what it says of the entry of a byte
right_at : (b : ℕ) → b < 256 → right b (get_or classes b 0) ≡ true
unfolding has right bits_right classes
right_at = entry right classes refl

pub number : (b : ℕ) → b < 256 → get_or classes b 0 ≡ class_of b
unfolding right
number b h = eqb-true (get_or classes b 0) (class_of b) (and_left (eqb (get_or classes b 0) (class_of b)) (bits_right sets b (get_or classes b 0)) (right_at b h))

bit_right : (ss : List Set) {s : Set} → Memᴰ s ss → (b x : ℕ) → bits_right ss b x ≡ true → bit_of s x ≡ bit (has (members s) b)
unfolding bits_right
bit_right [] m b x h = elim m [ ]
bit_right (t ∷ ss) (here e) b x h =
    subst (λ (u : Set). bit_of u x ≡ bit (has (members u) b)) (sym e)
    (eqb-true (bit_of t x) (bit (has (members t) b)) (and_left (eqb (bit_of t x) (bit (has (members t) b))) (bits_right ss b x) h))
bit_right (t ∷ ss) (there m) b x h = bit_right ss m b x (and_right (eqb (bit_of t x) (bit (has (members t) b))) (bits_right ss b x) h)

listed_set : (s : Set) → Memᴰ s sets
listed_set Binary = here refl
listed_set Octal = there (here refl)
listed_set Decimal = there (there (here refl))
listed_set Hexadecimal = there (there (there (here refl)))
listed_set Base64 = there (there (there (there (here refl))))
listed_set WordStart = there (there (there (there (there (here refl)))))
listed_set WordRest = there (there (there (there (there (there (here refl))))))
listed_set Dividing = there (there (there (there (there (there (there (here refl)))))))

bits : (s : Set) (b : ℕ) → b < 256 → bit_of s (class_of b) ≡ bit (has (members s) b)
unfolding right
bits s b h =
    subst (λ (x : ℕ). bit_of s x ≡ bit (has (members s) b)) (number b h)
    (bit_right sets (listed_set s) b (get_or classes b 0) (and_right (eqb (get_or classes b 0) (class_of b)) (bits_right sets b (get_or classes b 0)) (right_at b h)))

one_bit : (t : Bool) → eqb (bit t) 1 ≡ t
one_bit true = refl
one_bit false = refl

-- so the bit of a byte's class says whether the byte is in the set
pub in_class : (s : Set) (b : ℕ) → b < 256 → in_sum s (class_of b) ≡ has (members s) b
unfolding in_sum
in_class s b h = ap (λ (y : ℕ). eqb y 1) (bits s b h) ∙ one_bit (has (members s) b)

-- and so does the bit of its entry in the table
pub in_table : (s : Set) {table : List ℕ} {b : ℕ} {o : Bool} → IsTable table → b < 256 → o ≡ in_sum s (get_or table b 0) → o ≡ has (members s) b
in_table s {table} {b} t h e = e ∙ (ap (in_sum s) (t.entry b h) ∙ in_class s b h)

-- a bit at a set that is known
pub bit_at : (s : Set) {t : Set} (x : ℕ) → t ≡ s → eqb (bit_of s x) 1 ≡ in_sum t x
unfolding in_sum
bit_at s x e = ap (λ (u : Set). in_sum u x) (sym e)
