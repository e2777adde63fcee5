-- `token::symbol::less` meets its contract. Assumes nothing.
use native.Mathlib.Omega.{arith}
use mathlib.Core.Path.{refl}
use Rattle.rules.specs.Rule.{byte, both}
use Rattle.rules.proofs.Tests.{there, not_there}
use Rattle.text.proofs.Gets.{got, not_got}
use Rattle.token.proofs.Bytes.{add_two, got_at, got_not}
use Rattle.token.proofs.Symbols.{left_arrow_lem, less_none}
use Rattle.token.proofs.symbol.less.Goals as goal

pub returns-in_err-get : goal.returns-in_err-get
returns-in_err-get c = let h = not_got _ _ c.in_err-get.ensures.lookup in
    rw c.from_residual.ensures (less_none _ _ c.requires (λ a. omega (arith, a.0)) (λ a. omega (arith, a.0)) (λ a b. omega (arith, a.0)))

pub star-requires : goal.star-requires
star-requires c = (byte c.requires refl, got_at _ 0x2A (got _ _ c.in_ok-get.field-0 c.in_ok-get.ensures.lookup) c.in-42.is)

pub star-requires-in-61 : goal.star-requires-in-61
star-requires-in-61 c = (both (byte c.requires refl) (byte (got_at _ 0x3D (got _ _ c.in_ok-get.field-0 c.in_ok-get.ensures.lookup) c.in-61.is) (add_two _)), there c.stands.ensures c.if-stands.true)

pub returns-in-45 : goal.returns-in-45
returns-in-45 c = left_arrow_lem _ c.requires (got_at _ 0x2D (got _ _ c.in_ok-get.field-0 c.in_ok-get.ensures.lookup) c.in-45.is)

pub returns-in_default : goal.returns-in_default
returns-in_default c = let g = (got _ _ c.in_ok-get.field-0 c.in_ok-get.ensures.lookup).1 in
    less_none _ _ c.requires (got_not _ 0x2D g (λ e. omega arith)) (got_not _ 0x2A g (λ e. omega arith)) (λ x y. not_there c.stands.ensures c.if-stands.false y)

pub returns-in_default-2 : goal.returns-in_default-2
returns-in_default-2 c = let g = (got _ _ c.in_ok-get.field-0 c.in_ok-get.ensures.lookup).1 in
    less_none _ _ c.requires (got_not _ 0x2D g (λ e. omega arith)) (got_not _ 0x2A g (λ e. omega arith)) (λ x y. got_not _ 0x3D g (λ e. omega arith) x)
