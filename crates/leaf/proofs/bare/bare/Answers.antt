-- `leaf::bare::bare` meets its contract: what is written and what is left of the literal are the whole. Assumes nothing.
use mathlib.Core.Path.{◌≡◌, ap, sym, ◌∙◌}
use mathlib.Core.List.{List, ◌∷◌, ◌++◌}
use Prim.Native.Nat.{ℕ, suc, ◌+◌}
use native.Mathlib.Omega.{arith}
use lib.ListN.{get_or, drop, drop_of_length-le}
use lib.Seq.{drop-cons}
use Rattle.form.specs.Bare as Bare
use Rattle.leaf.specs.Bare.{where_of, kept_bytes}
use Rattle.leaf.proofs.Rows.{going, going_on, going_same, gone}
use Rattle.leaf.proofs.Literals.{bare_next, bare_none}
use Rattle.leaf.proofs.bare.bare.Goals as goal

pub loop-b-init : goal.loop-b-init
loop-b-init c = going _ _

pub loop-b-preserved : goal.loop-b-preserved
loop-b-preserved c =
    let literal = c.args.literal.now in
    let i = c.loop-b.b-index in
    let w = where_of c.loop-b.place in
    let b = get_or literal i 0 in
    let rest = drop (i + 1) literal in
    let s : suc i ≡ i + 1 = omega arith in
    let e =
    ap (Bare.bare_from w) (drop-cons literal i 0 (omega arith) ∙ ap {B = List ℕ} (λ (j : ℕ). b ∷ drop j literal) s)
    ∙ bare_next w b rest
    ∙ ap (λ (v : Bare.Where). kept_bytes w b ++ Bare.bare_from v rest) (sym c.behind-place.ensures)
    in
    going_on (kept_bytes w b) (going_same e c.loop-b.invariant) c.put_kept.ensures

pub returns : goal.returns
returns c =
    let literal = c.args.literal.now in
    let w = where_of c.loop-b.place in
    gone (going_same (ap (Bare.bare_from w) (drop_of_length-le literal {i = c.loop-b.b-index} (omega arith)) ∙ bare_none w) c.loop-b.invariant)
