-- The place of a bad value: what the search answers for each kind of token, and that it is that of the token that comes. Assumes nothing.
use mathlib.Core.Path.{◌≡◌, refl, subst, sym, ◌∙◌}
use mathlib.Core.Logic.{◌⊎◌, inl, inr}
use mathlib.Core.Bool.{true}
use mathlib.Core.List.{List}
use Prim.Native.Nat.{ℕ}
use Rattle.lexicon.specs.declared.Form.TheVariants.{Quoted}
use Rattle.lexicon.specs.declared.Kind.{Kind}
use Rattle.lexicon.specs.declared.Kind.TheVariants.{Text}
use Rattle.lexicon.specs.declared.Token as Token
use Rattle.lexicon.specs.declared.Next.TheVariants as Next
use Rattle.lexicon.specs.Token.{Bad, BadPlace, inside_quotes, first_byte, Comes}
use Rattle.lexicon.proofs.Places.{quoted_or_not}
use Rattle.string.specs.FirstBad.{Points}
use Rattle.string.proofs.FirstBad.{one_point}
use Rattle.token.specs.Places.{PointsIn}

module _ (text : List ℕ) {t : Token.Token} where
  -- ---- the answer

  pub points_first : (t.kind ≡ Text Quoted → ⊥) → PointsIn text t t.first
  points_first n = record { inside_quotes = λ e. absurd (n e); first_byte = λ _. refl }

  pub points_inside : {p : ℕ} → t.kind ≡ Text Quoted → Points text t.first p → PointsIn text t p
  points_inside e x = record { inside_quotes = λ _. x; first_byte = λ n. absurd (n e) }

  -- ---- of the token that comes

  pub bad_placed : {p q : ℕ} → Comes text p (Next.Token t) → t.bad ≡ true → PointsIn text t q → BadPlace text t.kind t.first t.end q
  bad_placed {q = q} c b x = by (quoted_or_not t.kind)
    where
      by : (t.kind ≡ Text Quoted) ⊎ (t.kind ≡ Text Quoted → ⊥) → BadPlace text t.kind t.first t.end q
      by (inl e) =
          inside_quotes e ((x.inside_quotes e).bad (subst (λ (k : Kind). Bad text k t.first t.end) e (c.3.true_holds b)))
      by (inr n) = first_byte n (x.first_byte n)

  -- for any token there is one place only
  pub one_place_in : {p q : ℕ} → PointsIn text t p → PointsIn text t q → p ≡ q
  one_place_in {p} {q} x y = by (quoted_or_not t.kind)
    where
      by : (t.kind ≡ Text Quoted) ⊎ (t.kind ≡ Text Quoted → ⊥) → p ≡ q
      by (inl e) = one_point text (x.inside_quotes e) (y.inside_quotes e)
      by (inr n) = x.first_byte n ∙ sym (y.first_byte n)
