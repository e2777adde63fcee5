-- `token::symbol::symbol_at` meets its contract. Assumes nothing.
use mathlib.Core.Path.{refl}
use Rattle.rules.specs.Rule.{nothing}
use Rattle.token.proofs.Bytes.{read_at}
use Rattle.token.proofs.Symbols.{round_open, round_close_lem, curly_open, curly_close_lem, square_open, square_close_lem, comma, other_none, dash_says, dot_says}
use native.Mathlib.Omega.{arith}
use Rattle.token.proofs.symbol.symbol_at.Goals as goal
use Rattle.token.proofs.symbol.symbol_at.Goals.{in-40, in-41, in-123, in-125, in-91, in-93, in-44}

pub star-requires : goal.star-requires
star-requires c = (nothing refl, read_at c.args.text.now 0x2A c.args.at c.requires c.in-42.is)

pub less-requires : goal.less-requires
less-requires c = read_at c.args.text.now 0x3C c.args.at c.requires c.in-60.is

pub returns-in_default : goal.returns-in_default
returns-in_default c = other_none _ _ _ refl (omega arith) (omega arith) (omega arith) (omega arith) (omega arith) (omega arith) (omega arith) (omega arith) (omega arith) (omega arith) (omega arith)

pub returns-in-45 : goal.returns-in-45
returns-in-45 c = rw c.then_some.ensures (dash_says _ (read_at c.args.text.now 0x2D c.args.at c.requires c.in-45.is) c.stands.ensures)

pub returns-in-46 : goal.returns-in-46
returns-in-46 c = rw c.then_some-in-46.ensures (dot_says _ (read_at c.args.text.now 0x2E c.args.at c.requires c.in-46.is) c.stands-in-46.ensures)

pub returns : goal.returns
returns c =
    elim c.match-text-at.branch [
      | in-40 w ↦ rw w.sign-is (round_open _ (read_at c.args.text.now 0x28 c.args.at c.requires w.in-40.is))
      | in-41 w ↦ rw w.sign-is (round_close_lem _ (read_at c.args.text.now 0x29 c.args.at c.requires w.in-41.is))
      | in-123 w ↦ rw w.sign-is (curly_open _ (read_at c.args.text.now 0x7B c.args.at c.requires w.in-123.is))
      | in-125 w ↦ rw w.sign-is (curly_close_lem _ (read_at c.args.text.now 0x7D c.args.at c.requires w.in-125.is))
      | in-91 w ↦ rw w.sign-is (square_open _ (read_at c.args.text.now 0x5B c.args.at c.requires w.in-91.is))
      | in-93 w ↦ rw w.sign-is (square_close_lem _ (read_at c.args.text.now 0x5D c.args.at c.requires w.in-93.is))
      | in-44 w ↦ rw w.sign-is (comma _ (read_at c.args.text.now 0x2C c.args.at c.requires w.in-44.is))
    ]
