-- `leaf::names::names` meets its contract: the tokens before `i` are written. Assumes nothing.
use native.Mathlib.Omega.{arith}
use Rattle.lexicon.proofs.Pieces.{token_bounds}
use Rattle.leaf.proofs.Nestings.{naming, naming_next, naming_ends, naming_stops}
use Rattle.leaf.proofs.names.names.Goals as goal

pub loop-i-init : goal.loop-i-init
loop-i-init c = naming _ _ _ _

pub returns-in_default : goal.returns-in_default
returns-in_default c = naming_stops _ c.next.result c.loop-i.invariant (omega arith) c.next.ensures c.in_default.not-Token

pub name_token-requires : goal.name_token-requires
name_token-requires c =
    let b = token_bounds c.args.text.now c.in-Token.ensures in (omega (arith, b.1), b.2)

pub loop-i-smaller : goal.loop-i-smaller
loop-i-smaller c =
    let b = token_bounds c.args.text.now c.in-Token.ensures in omega (arith, b.0, b.1)

pub loop-i-preserved : goal.loop-i-preserved
loop-i-preserved c = naming_next _ c.loop-i.invariant (omega arith) c.in-Token.ensures c.name_token.ensures

pub returns : goal.returns
returns c = naming_ends _ c.loop-i.invariant (omega arith)
