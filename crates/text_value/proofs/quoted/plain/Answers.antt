-- `text_value::quoted::plain` meets its contract. Assumes nothing.
use native.Mathlib.Omega.{arith}
use Rattle.text_value.proofs.Walks.{copies_within, copies_wrote}
use Rattle.text_value.proofs.quoted.plain.Goals as goal

pub slice_bounds-copy-start : goal.slice_bounds-copy-start
slice_bounds-copy-start c = (copies_within _ c.requires c.run-end.ensures).0

pub slice_bounds-copy-end : goal.slice_bounds-copy-end
slice_bounds-copy-end c = omega (arith, (copies_within _ c.requires c.run-end.ensures).1)

pub slice_bounds-copy-count : goal.slice_bounds-copy-count
slice_bounds-copy-count c = (copies_within _ c.requires c.run-end.ensures).0

pub overflow_add-result : goal.overflow_add-result
overflow_add-result c = omega (arith, (copies_within _ c.requires c.run-end.ensures).1)

pub returns : goal.returns
returns c = copies_wrote _ c.requires c.run-end.ensures c.copy.ensures
