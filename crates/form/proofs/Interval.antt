-- The bounds of an Interval as a walk finds them: the sign by the detail. Assumes nothing.
use mathlib.Core.Path.{◌≡◌, refl, ap}
use mathlib.Core.List.{List, []}
use Prim.Native.Nat.{ℕ}
use native.Mathlib.Omega.{arith}
use Rattle.rules.specs.Class.{codes}
use Rattle.lexicon.specs.declared.Bound.TheVariants.{Open}
use Rattle.grammar.specs.Tokens
use Rattle.grammar.specs.Tokens.{Span, mark}
use Rattle.grammar.specs.Tree
use Rattle.grammar.specs.Tree.{Side, less, less_equal, Between, two_dots, star_sign, Value}
use Rattle.grammar.specs.Yield.{between_mark, side_bound}
use Rattle.grammar.specs.Nodes
use Rattle.grammar.specs.Nodes.{role_number, between_detail, bounds_detail}
use Rattle.form.specs.Spell.{Spelt, mark_bytes, sign}
use Rattle.grammar.proofs.Branches.{Branch, Branches, none, more}
use Rattle.form.proofs.Walk.{sign_bytes, tail, no_more}
use Rattle.form.proofs.Puts.{puts_none, puts_one, puts_both, puts_as}
use Rattle.form.proofs.Members.{Child, child_as}
use Rattle.form.proofs.Bracketed.{Inside, inside, inside_plain}

-- the sign between two bounds, by the Interval's detail; behind them stands none
between_sign : (b : Between) → mark_bytes (between_mark b) ≡ sign_bytes (between_detail b)
between_sign two_dots = refl
between_sign (star_sign less_equal less_equal) = refl
between_sign (star_sign less_equal less) = refl
between_sign (star_sign less less_equal) = refl
between_sign (star_sign less less) = refl

between_tail : (b : Between) (cs : Branches) → tail Nodes.an_interval (between_detail b) cs ≡ []
between_tail two_dots cs = refl
between_tail (star_sign less_equal less_equal) cs = refl
between_tail (star_sign less_equal less) cs = refl
between_tail (star_sign less less_equal) cs = refl
between_tail (star_sign less less) cs = refl

module _ (bytes : List ℕ) where
  pub no_bound : Inside bytes Nodes.an_interval 0 none (λ ws. ws)
  no_bound = inside bytes no_more puts_none

  pub single_bound : {a : Branch} {f : List Spelt → List Spelt} → Child bytes Nodes.single a f → Inside bytes Nodes.an_interval 1 (more a none) f
  single_bound x = inside_plain bytes refl (child_as bytes {before = 0} x (λ e. omega (arith, ap role_number e)) no_more) (puts_both x.said.puts puts_none)

  pub two_bounds : (b : Between) {a c : Branch} {f g : List Spelt → List Spelt} → Child bytes Nodes.low a f → Child bytes Nodes.high c g →
      Inside bytes Nodes.an_interval (between_detail b) (more a (more c none)) (λ ws. f (sign (between_mark b) (g ws)))
  two_bounds b {a} {c} x y =
      inside_plain bytes (between_tail b (more a (more c none)))
      (child_as bytes {before = 0} x (λ e. omega (arith, ap role_number e)) (child_as bytes y (λ e. omega (arith, ap role_number e)) no_more))
      (puts_both x.said.puts
      (puts_both (puts_as (between_sign b) (puts_one (mark (between_mark b)) (mark_bytes (between_mark b)))) (puts_both y.said.puts puts_none)))

  -- the sign stands behind the low bound, and in front of the high one
  pub low_bound : (v : Value) (s : Side) (k : Span) {a : Branch} {f : List Spelt → List Spelt} → Child bytes Nodes.low a f →
      Inside bytes Nodes.an_interval (bounds_detail (Tree.from v s k)) (more a none) (λ ws. f (sign (Tokens.star (side_bound s) Open) ws))
  low_bound v less k x =
      inside bytes (child_as bytes {before = 0} x (λ e. omega (arith, ap role_number e)) no_more)
      (puts_both (puts_both x.said.puts puts_none) (puts_one (mark (Tokens.star (side_bound less) Open)) (codes "<*")))
  low_bound v less_equal k x =
      inside bytes (child_as bytes {before = 0} x (λ e. omega (arith, ap role_number e)) no_more)
      (puts_both (puts_both x.said.puts puts_none) (puts_one (mark (Tokens.star (side_bound less_equal) Open)) (codes "<=*")))

  pub high_bound : (v : Value) (s : Side) (k : Span) {a : Branch} {f : List Spelt → List Spelt} → Child bytes Nodes.high a f →
      Inside bytes Nodes.an_interval (bounds_detail (Tree.up_to s k v)) (more a none) (λ ws. sign (Tokens.star Open (side_bound s)) (f ws))
  high_bound v less k x =
      inside_plain bytes refl (child_as bytes {before = 0} x (λ e. omega (arith, ap role_number e)) no_more)
      (puts_both (puts_one (mark (Tokens.star Open (side_bound less))) (codes "*<")) (puts_both x.said.puts puts_none))
  high_bound v less_equal k x =
      inside_plain bytes refl (child_as bytes {before = 0} x (λ e. omega (arith, ap role_number e)) no_more)
      (puts_both (puts_one (mark (Tokens.star Open (side_bound less_equal))) (codes "*<=")) (puts_both x.said.puts puts_none))

  pub open_bounds : Inside bytes Nodes.an_interval 10 none (λ ws. sign (Tokens.star Open Open) ws)
  open_bounds = inside bytes no_more (puts_one (mark (Tokens.star Open Open)) (codes "*"))
