-- `token::next::punctuation` meets its contract. Assumes nothing.
use Rattle.token.proofs.Dispatch.{minus_only, none_starts}
use Rattle.token.proofs.Bytes.{read_at}
use Rattle.token.proofs.next.punctuation.Goals as goal

pub number_token-requires : goal.number_token-requires
number_token-requires c = (c.requires.0, minus_only _ (read_at c.args.text.now 0x2D c.args.at c.requires.0 c.if-text-at-eq45.true) c.in_default.ensures)

pub returns : goal.returns
returns c = none_starts _ c.requires.0 c.requires.1 c.if-text-at-eq45.false c.in_default.ensures
