-- `look::head::head_at` meets its contract: why there is no head. Assumes nothing.
use borrow.Author.Rules.{rules}
use Rattle.look.proofs.Looking.{other_kind, got_token, got_none, no_word, no_sign_lem}
use Rattle.look.specs.Looks.{Gets}
use Rattle.look.proofs.head.head_at.Goals as goal

pub returns-in_default : goal.returns-in_default
returns-in_default c = let k = got_token c.args.text.now c.args.at c.in_default.is c.get-first.ensures in
    (c.get-first.ensures, no_word c.args.text.now c.args.at k (λ h e. search (rules, e)))

pub returns-in_default-2 : goal.returns-in_default-2
returns-in_default-2 c = let k = got_token c.args.text.now c.args.at c.in_default.is c.get-first.ensures in
    (c.get-first.ensures, no_word c.args.text.now c.args.at k (λ h e. search (rules, e)))

pub returns-in_default-get : goal.returns-in_default-get
returns-in_default-get c = let k = got_token c.args.text.now c.args.at c.in-Ok-Text.is c.get-first.ensures in
    let g : Gets c.args.text.now c.in-Ok-Text.field-0.end c.get.result = search rules in
    (c.get-first.ensures, no_sign_lem _ _ k (other_kind _ _ (got_token _ _ c.in_default-get.is g) (λ e. search (rules, e))))

pub returns-in_default-get-2 : goal.returns-in_default-get-2
returns-in_default-get-2 c = let k = got_token c.args.text.now c.args.at c.in-Ok-Text.is c.get-first.ensures in
    let g : Gets c.args.text.now c.in-Ok-Text.field-0.end c.get.result = search rules in
    (c.get-first.ensures, no_sign_lem _ _ k (record { none = λ u m e. got_none _ _ c.in_default-get.is g u m }))
