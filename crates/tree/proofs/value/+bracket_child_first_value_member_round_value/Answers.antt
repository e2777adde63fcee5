-- The readers of `tree::value`, which call each other, meet their contracts: bytes left, with a rank for each, fall at each call.
-- A cycle of calls has one proof. The laws are in Readings.antt; here each need is given the facts that it stands on. Assumes nothing.
use mathlib.Core.Path.{sym, ap, ◌∙◌}
use Rattle.std.specs.Prelude.{Ok}
use native.Mathlib.Omega.{arith}
use Rattle.lexicon.proofs.Pieces.{token_bounds}
use Rattle.look.proofs.Looking.{got_token}
use Rattle.tree.proofs.Readings.{rank_falls, byte_falls, token_falls, inner_fit, enters_at, start_inner, first_inner, begin_from, begin_got, turn_narrow, turn_behind, fit_of, within_of, inner_of, inside_of, signs_told, value_sized, value_leaf, value_names, value_round, value_bracket, value_refused, round_missing, round_bracket, first_refused, first_open, first_group, first_bracket, child_refused, child_on, member_missing, member_taken, member_child, going_on, going_ends, going_refused}
use Rattle.tree.proofs.value.+bracket_child_first_value_member_round_value.Goals as goal

pub bracket-loop-turned-preserved : goal.bracket-loop-turned-preserved
bracket-loop-turned-preserved t c = going_on c.loop-turned.invariant c.member-turn.result c.member-turn.ensures (c.in-Ok.is ∙ ap Ok c.in-On.is) c.member-turn.auto.table

pub bracket-returns-in-Ended : goal.bracket-returns-in-Ended
bracket-returns-in-Ended t c = going_ends c.loop-turned.invariant c.member-turn.result c.member-turn.ensures (c.in-Ok.is ∙ ap Ok c.in-Ended.is)

pub bracket-returns-in_default : goal.bracket-returns-in_default
bracket-returns-in_default t c = going_refused c.loop-turned.invariant c.member-turn.result c.member-turn.ensures c.unwrap_err.ensures

pub child-returns-in_default : goal.child-returns-in_default
child-returns-in_default t c = child_refused _ _ _ c.value-read.ensures c.unwrap_err.ensures

pub child-returns : goal.child-returns
child-returns t c = child_on _ _ _ c.value-read.ensures c.in-Ok.is c.value-read.auto.table

pub first_value-invariant_of-inner : goal.first_value-invariant_of-inner
first_value-invariant_of-inner t c = let f = (inner_fit (fit_of c.requires.0) c.requires.1 c.requires.2).0 in record { some_byte = f.some_byte; index_fits = f.index_fits; parent_fits = f.parent_fits }

pub first_value-value-read-requires : goal.first_value-value-read-requires
first_value-value-read-requires t c = let i = inner_fit (fit_of c.requires.0) c.requires.1 c.requires.2 in (token_falls c.args.reader.now.text.now 3 c.decreases c.requires.2 (omega arith), (within_of i.0, i.1))

pub first_value-returns-in_default : goal.first_value-returns-in_default
first_value-returns-in_default t c = first_refused _ _ _ _ _ _ _ _ c.requires.2 c.requires.3 c.value-read.result c.value-read.ensures c.in_default.is

pub first_value-returns-in_default-then : goal.first_value-returns-in_default-then
first_value-returns-in_default-then t c = first_open _ _ _ _ _ _ _ _ c.requires.2 c.requires.3 c.value-read.result c.value-read.ensures c.in-Ok.is c.get-then.ensures c.unwrap_err.ensures

pub first_value-returns-then-is_close : goal.first_value-returns-then-is_close
first_value-returns-then-is_close t c = first_group _ _ _ _ _ _ _ _ c.requires.2 c.requires.3 c.value-read.result c.value-read.ensures c.in-Ok.is c.get-then.ensures (fit_of c.requires.0).some_byte c.in-Ok-then.is (sym c.is_close.ensures ∙ c.if-is_close.true)

pub first_value-bracket-requires : goal.first_value-bracket-requires
first_value-bracket-requires t c = let k = c.requires.2 in let y = token_bounds _ k in let v = value_sized _ _ _ c.value-read.ensures c.in-Ok.is in (byte_falls c.args.reader.now.text.now 3 c.decreases (omega (arith, y.0, y.1, v.1)) v.2 (omega arith), inside_of (first_inner {shape = c.in-Ok.first.shape} (fit_of c.requires.0) c.requires.1 k v))

pub first_value-returns : goal.first_value-returns
first_value-returns t c = first_bracket _ _ _ _ _ _ _ _ c.requires.2 c.requires.3 c.value-read.result c.value-read.ensures c.in-Ok.is c.get-then.ensures c.bracket.result (fit_of c.requires.0) c.in-Ok-then.is (sym c.is_close.ensures ∙ c.if-is_close.false) c.value-read.auto.table c.raise.ensures c.bracket.ensures

pub member-returns-in_default : goal.member-returns-in_default
member-returns-in_default t c = member_missing _ _ _ (inner_of c.requires) c.get-got.ensures c.unwrap_err.ensures

pub member-take-requires : goal.member-take-requires
member-take-requires t c = (turn_narrow (inner_of c.requires) (got_token _ _ c.in-Ok.is c.get-got.ensures), turn_behind c.requires)

pub member-returns-in_default-taken : goal.member-returns-in_default-taken
member-returns-in_default-taken t c = member_taken _ _ _ (inner_of c.requires) c.get-got.ensures c.in-Ok.is c.step-taken.ensures c.take.result c.take.ensures.numbers c.take.ensures.turns (signs_told c.step-taken.result c.in_default-taken.not-Value)

pub member-child-requires : goal.member-child-requires
member-child-requires t c = let i = inner_of c.requires in let k = got_token _ _ c.in-Ok.is c.get-got.ensures in (token_falls c.args.reader.now.text.now 2 c.decreases k (omega arith), (turn_narrow i k, i.deep_fits, (token_bounds _ k).2, i.fit.short))

pub member-returns : goal.member-returns
member-returns t c = member_child _ _ _ (inner_of c.requires) c.get-got.ensures c.in-Ok.is c.step-taken.ensures c.child.result c.in-Value.is c.child.ensures

pub round-returns-in_default : goal.round-returns-in_default
round-returns-in_default t c = round_missing _ _ _ _ _ _ _ _ c.requires.2 c.unwrap_err.ensures

pub round-returns : goal.round-returns
round-returns t c = round_bracket _ _ _ _ _ _ _ _ c.entering-entered.result c.bracket.result (got_token _ _ c.in-Ok.is c.requires.2) (sym c.begins_value.ensures ∙ c.if-begins_value.false) c.entering-entered.ensures c.bracket.ensures

pub value-round-requires : goal.value-round-requires
value-round-requires t c = (rank_falls c.args.reader.now.text.now c.decreases (omega arith) (omega arith), (c.requires.0, c.requires.1, begin_got c.begins-begun.result (fit_of c.requires.0) c.begins-begun.ensures (c.in-Ok.is ∙ ap Ok c.in-Round.is)))

pub value-bracket-requires : goal.value-bracket-requires
value-bracket-requires t c = let g = begin_from c.begins-begun.result (fit_of c.requires.0) c.begins-begun.ensures (c.in-Ok.is ∙ ap Ok c.in-Bracket.is) in (rank_falls c.args.reader.now.text.now c.decreases (omega (arith, g.0, enters_at _ c.entering-entered.result c.entering-entered.ensures)) (omega arith), inside_of (start_inner c.entering-entered.result c.entering-entered.ensures (fit_of c.requires.0) c.requires.1 g))

pub value-returns-in-Literal : goal.value-returns-in-Literal
value-returns-in-Literal t c = value_leaf _ _ _ _ _ _ _ _ _ (fit_of c.requires.0) c.begins-begun.result c.begins-begun.ensures c.leaf.result (c.in-Ok.is ∙ ap Ok c.in-Literal.is) c.leaf.ensures

pub value-returns-in-Names : goal.value-returns-in-Names
value-returns-in-Names t c = value_names _ _ _ _ _ _ _ _ _ (fit_of c.requires.0) c.begins-begun.result c.begins-begun.ensures c.names.result (c.in-Ok.is ∙ ap Ok c.in-Names.is) c.names.ensures

pub value-returns-in-Round : goal.value-returns-in-Round
value-returns-in-Round t c = value_round _ _ _ _ _ _ _ _ _ (fit_of c.requires.0) c.begins-begun.result c.begins-begun.ensures _ c.round.result (c.in-Ok.is ∙ ap Ok c.in-Round.is) c.round.ensures

pub value-returns-in-Bracket : goal.value-returns-in-Bracket
value-returns-in-Bracket t c = value_bracket _ _ _ _ _ _ _ _ _ (fit_of c.requires.0) c.begins-begun.result c.begins-begun.ensures c.entering-entered.result c.bracket.result (c.in-Ok.is ∙ ap Ok c.in-Bracket.is) c.entering-entered.ensures c.bracket.ensures

pub value-returns-in_default : goal.value-returns-in_default
value-returns-in_default t c = value_refused _ _ _ _ _ _ _ _ _ (fit_of c.requires.0) c.begins-begun.result c.begins-begun.ensures c.unwrap_err.ensures
