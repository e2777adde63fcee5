-- `text_value::code::code` meets its contract. Assumes nothing.
use Rattle.text_value.proofs.Codes.{code_begins, code_within, code_is}
use Rattle.text_value.proofs.code.code.Goals as goal

pub mark-base-requires : goal.mark-base-requires
mark-base-requires c = code_begins _ c.requires

pub slice_bounds-counted-start : goal.slice_bounds-counted-start
slice_bounds-counted-start c = (code_within _ c.mark-base.result.0 c.mark-base.ensures c.requires).0

pub slice_bounds-counted-count : goal.slice_bounds-counted-count
slice_bounds-counted-count c = (code_within _ c.mark-base.result.0 c.mark-base.ensures c.requires).0

pub slice_bounds-counted-end : goal.slice_bounds-counted-end
slice_bounds-counted-end c = (code_within _ c.mark-base.result.0 c.mark-base.ensures c.requires).1

pub returns : goal.returns
returns c = code_is _ c.mark-base.result.0 c.mark-base.ensures (code_within _ c.mark-base.result.0 c.mark-base.ensures c.requires) c.counted.ensures
