-- `text_value::quoted::angled` meets its contract. Assumes nothing.
use native.Mathlib.Omega.{arith}
use Rattle.text_value.proofs.Walks.{angled_none, angled_within, angled_fits, angled_wrote}
use Rattle.text_value.proofs.quoted.angled.Goals as goal

pub unreachable-requires : goal.unreachable-requires
unreachable-requires c = angled_none _ c.requires c.in_default.ensures

pub encode-requires : goal.encode-requires
encode-requires c = angled_fits _ c.requires c.in-Some.ensures.0 c.code.ensures

pub overflow_add-result : goal.overflow_add-result
overflow_add-result c = omega (arith, angled_within _ c.requires c.in-Some.ensures.0)

pub returns : goal.returns
returns c = angled_wrote _ c.requires c.in-Some.ensures.0 c.code.ensures c.encode.ensures
