-- What is bare stays as it is. Assumes nothing.
use mathlib.Core.Path.{◌≡◌, refl, sym, subst, ap, ◌∙◌}
use mathlib.Core.Bool.{Bool, true, false}
use mathlib.Core.List.{List, [], ◌∷◌, ◌++◌, append-nil}
use Prim.Native.Nat.{ℕ}
use borrow.Author.Tests.{eqb-true}
use lib.Dec.{eqb}
use Rattle.rules.specs.Class.{just, has}
use Rattle.rules.specs.Plain.{Matches}
use Rattle.rules.proofs.Classes.{apart, apart_span}
use Rattle.rules.proofs.Bools.{clash}
use Rattle.lexicon.specs.Literals.{segment}
use Rattle.form.specs.Bare.{Where, outside, quotes, comment, dropped, bare_from, bare}
use Rattle.form.proofs.Strip.{Inked, ink_step, no_byte_lem, segment_same, bare_nil}

-- where the kept bytes stand
abbrev calm : Where → Where
calm outside = outside
calm quotes = quotes
calm comment = outside

quote_stays : apart dropped (just 0x22) ≡ true
unfolding apart apart_span
quote_stays = refl

grave_goes : has dropped 0x60 ≡ true
unfolding has
grave_goes = refl

abbrev Still : Where → List ℕ → Type 0
Still w bs = bare_from (calm w) (bare_from w bs) ≡ bare_from w bs

quote_step : (b : ℕ) (bs : List ℕ) → has dropped b ≡ false → eqb b 0x22 ≡ true → bare (b ∷ bs) ≡ b ∷ bare_from quotes bs
unfolding bare_from
quote_step b bs e f = rw (e, f) refl

ink_still : (b : ℕ) (bs : List ℕ) → Inked b → Still outside bs → Still outside (b ∷ bs)
ink_still b bs i o = ap bare (ink_step b bs i) ∙ ink_step b (bare bs) i ∙ ap (λ (l : List ℕ). b ∷ l) o ∙ sym (ink_step b bs i)

quote_still : (b : ℕ) (bs : List ℕ) → has dropped b ≡ false → eqb b 0x22 ≡ true → Still quotes bs → Still outside (b ∷ bs)
quote_still b bs e f u = ap bare (quote_step b bs e f) ∙ quote_step b (bare_from quotes bs) e f ∙ ap (λ (l : List ℕ). b ∷ l) u ∙ sym (quote_step b bs e f)

from_outside : (b : ℕ) (bs : List ℕ) (h q g : Bool) → Still outside bs → Still quotes bs → Still comment bs → has dropped b ≡ h → eqb b 0x22 ≡ q →
    eqb b 0x60 ≡ g → Still outside (b ∷ bs)
unfolding bare_from
from_outside b bs true true g o u c e f x = absurd (clash f (no_byte_lem dropped 0x22 b quote_stays e))
from_outside b bs true false true o u c e f x = rw (e, f, x) c
from_outside b bs true false false o u c e f x = rw (e, f, x) o
from_outside b bs false true g o u c e f x = quote_still b bs e f u
from_outside b bs false false true o u c e f x = absurd (clash (subst (λ (n : ℕ). has dropped n ≡ true) (sym (eqb-true b 0x60 x)) grave_goes) e)
from_outside b bs false false false o u c e f x = ink_still b bs (record { stays = e; no_quote = f; no_grave = x }) o

from_quotes : (b : ℕ) (bs : List ℕ) (q : Bool) → Still outside bs → Still quotes bs → eqb b 0x22 ≡ q → Still quotes (b ∷ bs)
unfolding bare_from
from_quotes b bs true o u f = rw f (ap (λ (l : List ℕ). b ∷ l) o)
from_quotes b bs false o u f = rw f (ap (λ (l : List ℕ). b ∷ l) u)

from_comment : (b : ℕ) (bs : List ℕ) (g : Bool) → Still outside bs → Still comment bs → eqb b 0x60 ≡ g → Still comment (b ∷ bs)
unfolding bare_from
from_comment b bs true o c f = rw f o
from_comment b bs false o c f = rw f c

still : (w : Where) (bs : List ℕ) → Still w bs
unfolding bare_from
still outside [] = refl
still quotes [] = refl
still comment [] = refl
still outside (b ∷ bs) = from_outside b bs (has dropped b) (eqb b 0x22) (eqb b 0x60) (still outside bs) (still quotes bs) (still comment bs) refl refl refl
still quotes (b ∷ bs) = from_quotes b bs (eqb b 0x22) (still outside bs) (still quotes bs) refl
still comment (b ∷ bs) = from_comment b bs (eqb b 0x60) (still outside bs) (still comment bs) refl

pub bare_twice : (bs : List ℕ) → bare (bare bs) ≡ bare bs
bare_twice bs = still outside bs

pub bare_segment : {a : List ℕ} → Matches segment a → bare a ≡ a
bare_segment {a} m = ap bare (sym (append-nil a)) ∙ segment_same [] m ∙ ap (λ (l : List ℕ). a ++ l) bare_nil ∙ append-nil a
