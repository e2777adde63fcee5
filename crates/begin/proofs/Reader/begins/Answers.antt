-- `begin::Reader::begins` meets its contract. Assumes nothing.
use mathlib.Core.Path.{ap, ◌∙◌}
use borrow.Author.Rules.{rules}
use Rattle.grammar.specs.Tokens
use Rattle.grammar.specs.Tokens.{class_kind}
use Rattle.begin.specs.Begins.{a_literal, a_later, a_mark, a_name}
use Rattle.begin.proofs.Signs.{literal_kind, sign_mark}
use Rattle.begin.proofs.Reader.begins.Goals as goal

pub returns-in-Later : goal.returns-in-Later
returns-in-Later c = rw c.refused.ensures (a_later c.in-Later.is)

pub returns-in-Symbol : goal.returns-in-Symbol
returns-in-Symbol c = let m = sign_mark c.in-Symbol.field-0 (λ e. search (rules, e)) (λ e. search (rules, e)) (λ e. search (rules, e)) in
    rw c.refused-in-Symbol.ensures (a_mark m.0 (ap class_kind c.in-Symbol.is ∙ m.1))

pub returns-in-Colon : goal.returns-in-Colon
returns-in-Colon c = rw c.refused-in-Colon.ensures (a_mark Tokens.colon (ap class_kind c.in-Colon.is))

pub returns-in-TwoColons : goal.returns-in-TwoColons
returns-in-TwoColons c = a_name c.in-TwoColons.is

pub returns-in_default : goal.returns-in_default
returns-in_default c = a_literal (literal_kind c.args.t.kind c.in_default.not-Later c.in_default.not-Symbol c.in_default.not-Colon c.in_default.not-TwoColons)
