-- `leaf::names::name_token` meets its contract. Assumes nothing.
use Rattle.buffer.proofs.Writing.{part_of, part_as}
use Rattle.leaf.proofs.Nestings.{colons_bytes, name_bytes}
use Rattle.leaf.proofs.names.name_token.Goals as goal

pub returns-in_default : goal.returns-in_default
returns-in_default c = part_of (colons_bytes _ c.in_default.not-Text) c.copy.ensures

pub returns-in-Text : goal.returns-in-Text
returns-in-Text c = part_as (name_bytes _ c.in-Text.is) c.spelled.ensures
