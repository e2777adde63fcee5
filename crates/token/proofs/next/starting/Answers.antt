-- `token::next::starting` meets its contract. Assumes nothing.
use Rattle.token.proofs.Dispatch.{nonzero_only, plus_only}
use Rattle.lexicon.specs.declared.Set.TheVariants.{WordStart, Decimal}
use Rattle.token.proofs.Bytes.{read_at, by_class}
use Rattle.token.proofs.next.starting.Goals as goal

pub quoted_token-requires : goal.quoted_token-requires
quoted_token-requires c = read_at c.args.text.now 0x22 c.args.at c.requires c.if-b-eq34.true

pub word_token-requires : goal.word_token-requires
word_token-requires c = (c.requires, by_class WordStart (c.type_inv.text c.args.at).fits c.class-class.ensures c.holds.ensures c.if-holds.true)

pub zero-requires : goal.zero-requires
zero-requires c = read_at c.args.text.now 0x30 c.args.at c.requires c.if-b-eq48.true

pub number_token-requires : goal.number_token-requires
number_token-requires c = (c.requires, nonzero_only _ (c.requires, by_class Decimal (c.type_inv.text c.args.at).fits c.class-class.ensures c.holds-2.ensures c.if-holds-2.true) c.if-b-eq48.false)

pub number_token-requires-then-b-eq43 : goal.number_token-requires-then-b-eq43
number_token-requires-then-b-eq43 c = (c.requires, plus_only _ (read_at c.args.text.now 0x2B c.args.at c.requires c.if-b-eq43.true))

pub colons-requires : goal.colons-requires
colons-requires c = read_at c.args.text.now 0x3A c.args.at c.requires c.if-b-eq58.true

pub punctuation-requires : goal.punctuation-requires
punctuation-requires c = (
  c.requires,
  record {
    no_quote = c.if-b-eq34.false;
    no_word = by_class WordStart (c.type_inv.text c.args.at).fits c.class-class.ensures c.holds.ensures c.if-holds.false;
    no_digit = by_class Decimal (c.type_inv.text c.args.at).fits c.class-class.ensures c.holds-2.ensures c.if-holds-2.false;
    no_plus = c.if-b-eq43.false;
    no_colon = c.if-b-eq58.false;
  },
)
