-- Whether a code point written by its number is bad. Assumes nothing.
use mathlib.Core.Path.{refl, subst⁻¹}
use mathlib.Core.Bool.{Bool, not, ◌&&◌, ◌||◌}
use mathlib.Core.List.{List}
use Prim.Native.Nat.{ℕ, ◌-◌}
use lib.Dec.{leb}
use Rattle.rules.specs.Test.{Says}
use Rattle.rules.specs.Rule.{one, plus, Takes, both}
use Rattle.lexicon.specs.declared.Base.{Base}
use Rattle.lexicon.specs.Bytes.{digits, radix}
use Rattle.lexicon.specs.Literals.{code_mark, code_of_base, code_point_of}
use Rattle.lexicon.specs.Values.{read, value}
use Rattle.lexicon.specs.Bad.{Scalar, BadCode}
use Rattle.lexicon.proofs.Bases.{any_base_lem}
use Rattle.decisions.proofs.Tests.{by, and, either, denied, at_most, any_base, of_any}
use Rattle.decisions.proofs.Cuts.{reaches, takes, leads, cut}

abbrev is_scalar : ℕ → Bool
is_scalar v = leb v 0xD7FF || (leb 0xE000 v && leb v 0x10FFFF)

scalar : (v : ℕ) → Says (is_scalar v) (Scalar v)
scalar v = either (at_most v 0xD7FF) (and (at_most 0xE000 v) (at_most v 0x10FFFF))

module _ (text : List ℕ) where
  abbrev code_from : ℕ → Base → ℕ → Bool
  code_from j b s = reaches text (plus (one (digits b))) s j && not (is_scalar (value (radix b) (read text s (j - s))))

  abbrev Coded : ℕ → Base → ℕ → Type 0
  Coded j b s = Takes text (plus (one (digits b))) s j × (Scalar (value (radix b) (read text s (j - s))) → ⊥)

  abbrev pub bad_code : ℕ → ℕ → Bool
  bad_code i j = any_base (λ b. leads text (code_mark b) i (code_from j b))

  pub bad_code_lem : (i j : ℕ) → Says (bad_code i j) (BadCode text i j)
  bad_code_lem i j =
      by to from
      (of_any (λ b. leads text (code_mark b) i (code_from j b)) (λ b. (s : ℕ) × Takes text (code_mark b) i s × Coded j b s)
      (λ b. cut text (code_mark b) i (code_from j b) (Coded j b) (λ s t. and (takes text (plus (one (digits b))) s j) (denied (scalar (value (radix b) (read text s (j - s))))))))
    where
      to : (b : Base) × ((s : ℕ) × Takes text (code_mark b) i s × Coded j b s) → BadCode text i j
      to (b, (s, t, x)) = record { number = _; code = record { base = b; start = s; before = t; all_digits = x.0; value_is = refl }; bad = x.1 }

      from : BadCode text i j → (b : Base) × ((s : ℕ) × Takes text (code_mark b) i s × Coded j b s)
      from x = (x.code.base, (x.code.start, x.code.before, (x.code.all_digits, λ y. x.bad (subst⁻¹ Scalar x.code.value_is y))))

  pub code_takes : {i j : ℕ} → BadCode text i j → Takes text code_point_of i j
  code_takes x = any_base_lem code_of_base x.code.base (both x.code.before x.code.all_digits)
