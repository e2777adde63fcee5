-- `text_value::quoted::segment` meets its contract. Assumes nothing.
use Rattle.rules.proofs.Tests.{not_there}
use Rattle.text_value.proofs.Walks.{plain_stands, plain_wrote}
use Rattle.text_value.proofs.quoted.segment.Goals as goal

pub plain-requires : goal.plain-requires
plain-requires c = plain_stands _ c.requires (not_there c.stands.ensures c.if-stands.false)

pub returns : goal.returns
returns c = plain_wrote _ c.requires (not_there c.stands.ensures c.if-stands.false) c.plain.ensures
