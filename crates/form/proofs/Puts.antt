-- What tokens in front of others put in front of the bytes of those. Assumes nothing.
use mathlib.Core.Path.{◌≡◌, refl, sym, ap, ◌∙◌, subst}
use mathlib.Core.List.{List, [], ◌++◌, append_assoc}
use Prim.Native.Nat.{ℕ}
use Rattle.grammar.specs.Tokens.{Class}
use Rattle.form.specs.Spell.{Spelt, put, bytes_of}

pub record Puts (f : List Spelt → List Spelt) (bs : List ℕ) : Type 0 where
  pub bytes_are : (ws : List Spelt) → bytes_of (f ws) ≡ bs ++ bytes_of ws

pub puts_none : Puts (λ ws. ws) []
puts_none = record { bytes_are = λ ws. refl }

pub puts_one : (c : Class) (bs : List ℕ) → Puts (λ ws. put c bs ws) bs
puts_one c bs = record { bytes_are = λ ws. refl }

pub puts_both : {f g : List Spelt → List Spelt} {us vs : List ℕ} → Puts f us → Puts g vs → Puts (λ ws. f (g ws)) (us ++ vs)
puts_both {f} {g} {us} {vs} x y =
    record {
      bytes_are = λ ws. x.bytes_are (g ws) ∙ ap (λ (l : List ℕ). us ++ l) (y.bytes_are ws) ∙ sym (append_assoc us vs (bytes_of ws));
    }

-- the bytes, counted otherwise
pub puts_as : {f : List Spelt → List Spelt} {us vs : List ℕ} → us ≡ vs → Puts f us → Puts f vs
puts_as {f} e x = subst (Puts f) e x
